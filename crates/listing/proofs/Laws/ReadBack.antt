-- A call's letter and arguments, printed as a line, are read as the same call.
use Rattle.std.specs.Prelude.{ℕ, zero, suc, ◌-◌, ◌≡◌, refl, Bool, true, false, cond, not, ◌&&◌, ◌||◌, List, [], ◌∷◌}
use Rattle.std.specs.Prelude.{◌++◌, map, eqb, ltb, leb, length, get_or, replicate}
use Rattle.std.proofs.Common.{sym, ap, ap₂, ◌∙◌, subst, append-nil, arith, ltb-true, leb-true, ne_eqb, length-append}
use Rattle.std.proofs.Math.Option.{Option, none, some, some-injective, none-ne-some}
use Rattle.std.proofs.lemmas.Bool.{not-true}
use Rattle.std.proofs.lemmas.List.{length-replicate}
use Rattle.operations.proofs.Laws.Cases.{by_key}
use Rattle.protocol.specs.Replies as protocol
use Rattle.protocol.specs.Calls.{some_above, too_many}
use Rattle.protocol.specs.Call.{Call, set_up, begin, operate, batch, finish, cancel}
use Rattle.text.specs.Text.{split, longer, value_after, is_number, number_in, decimal, all_digits}
use Rattle.text.proofs.Theorems.{read_back}
use Rattle.text.proofs.Laws.Tests.{left, right}
use Rattle.text.proofs.Laws.Lines.{Without, split_ended, decimal_without}
use Rattle.lines.specs.Lines.{lent, with_first, numbers_in, with_count, set_up_of, batch_of, asked, asked_with}
use Rattle.lines.specs.Lines.{call_of_fields}
use Rattle.lines.specs.Lines.{call_in}
use Rattle.replies.specs.Printed.{spaced}
use Rattle.journal.specs.Groups.{narrow}
use Rattle.journal.specs.Records.{Reply, Record, recorded}
use Rattle.journal.specs.Journal.{record_with, record_of_reply}

-- ---- A line of a letter and numbers

split_whole : (text : List ℕ) → Without 32 text → split 32 text ≡ text ∷ []
split_whole [] free = refl
split_whole (b ∷ text) free = rw free.0 (ap (longer b) (split_whole text free.1))

split_spaced : (text numbers : List ℕ) → Without 32 text
    → split 32 (text ++ spaced numbers) ≡ text ∷ map decimal numbers
split_spaced text [] free = ap (split 32) (append-nil text) ∙ split_whole text free
split_spaced text (n ∷ numbers) free =
    split_ended 32 text (decimal n ++ spaced numbers) free
    ∙ ap (λ (pieces : List (List ℕ)). text ∷ pieces)
    (split_spaced (decimal n) numbers (decimal_without 32 (omega arith) n))

numbers_read : (numbers : List ℕ) → narrow numbers ≡ true → numbers_in (map decimal numbers) ≡ some numbers
numbers_read [] e = refl
numbers_read (n ∷ numbers) e =
    let first = ltb n 4_294_967_296 in
    ap₂ with_first (read_back n (ltb-true n 4_294_967_296 (left first (narrow numbers) e)))
    (numbers_read numbers (right first (narrow numbers) e))

line_asks : (letter : ℕ) (arguments : List ℕ) → eqb letter 32 ≡ false → narrow arguments ≡ true
    → call_in (letter ∷ spaced arguments) ≡ asked letter arguments
unfolding call_in
line_asks letter arguments other small =
    ap call_of_fields (split_spaced (letter ∷ []) arguments (other, tt))
    ∙ ap (asked_with letter) (numbers_read arguments small)

-- ---- What is read

-- A test lets a value through.
module _ {A : Type 0} where
  passed : (b : Bool) (x y : A) → cond b (some x) none ≡ some y → (b ≡ true) × (x ≡ y)
  passed true x y e = (refl, some-injective x y e)
  passed false x y e = absurd (none-ne-some y e)

  not_stopped : (b : Bool) (x y : A) → cond b none (some x) ≡ some y → x ≡ y
  not_stopped true x y e = absurd (none-ne-some y e)
  not_stopped false x y e = some-injective x y e

number_small : (field : List ℕ) (n : ℕ) → number_in field ≡ some n → ltb n 4_294_967_296 ≡ true
unfolding number_in
number_small field n e =
    let value = value_after 0 field in
    let (number, same) = passed (is_number field) value n e in
    subst (λ (m : ℕ). ltb m 4_294_967_296 ≡ true) same
    (right (leb 1 (length field) && leb (length field) 10 && all_digits field) (ltb value 4_294_967_296) number)

first_small : (first : Option ℕ) (others : Option (List ℕ)) (numbers : List ℕ)
    → ((n : ℕ) → first ≡ some n → ltb n 4_294_967_296 ≡ true)
    → ((l : List ℕ) → others ≡ some l → narrow l ≡ true)
    → with_first first others ≡ some numbers
    → narrow numbers ≡ true
first_small none others numbers small all e = absurd (none-ne-some numbers e)
first_small (some n) none numbers small all e = absurd (none-ne-some numbers e)
first_small (some n) (some l) numbers small all e =
    subst (λ (x : List ℕ). narrow x ≡ true) (some-injective (n ∷ l) numbers e)
    (rw (small n refl, all l refl))

numbers_small : (fields : List (List ℕ)) (numbers : List ℕ) → numbers_in fields ≡ some numbers → narrow numbers ≡ true
numbers_small [] numbers e = ap narrow (sym (some-injective [] numbers e))
numbers_small (field ∷ fields) numbers e =
    first_small (number_in field) (numbers_in fields) numbers (number_small field) (numbers_small fields) e

-- A letter and numbers of 32 bits ask for the call.
record Asks (call : Call) : Type 0 where
  letter : ℕ
  arguments : List ℕ
  small : narrow arguments ≡ true
  same : asked letter arguments ≡ some call

with_asks : (letter : ℕ) (found : Option (List ℕ)) (call : Call) → ((l : List ℕ) → found ≡ some l → narrow l ≡ true)
    → asked_with letter found ≡ some call
    → Asks call
with_asks letter none call small e = absurd (none-ne-some call e)
with_asks letter (some arguments) call small e =
    record { letter = letter; arguments = arguments; small = small arguments refl; same = e }

fields_ask : (fields : List (List ℕ)) (call : Call) → call_of_fields fields ≡ some call → Asks call
fields_ask [] call e = absurd (none-ne-some call e)
fields_ask ([] ∷ fields) call e = absurd (none-ne-some call e)
fields_ask ((letter ∷ []) ∷ fields) call e = with_asks letter (numbers_in fields) call (numbers_small fields) e
fields_ask ((letter ∷ b ∷ word) ∷ fields) call e = absurd (none-ne-some call e)

-- ---- A call read is read again from its record

abbrev Again : Call → Type 0
Again call =
    (reply : Reply) (r : Record) → record_with call reply ≡ some r
    → call_in (r.letter ∷ spaced r.arguments) ≡ some call

module _ (call : Call) (letter : ℕ) (arguments : List ℕ) where
  again : ((reply : Reply) → record_with call reply ≡ some (recorded letter arguments reply)) → eqb letter 32 ≡ false
      → narrow arguments ≡ true
      → asked letter arguments ≡ some call
      → Again call
  again its other small same reply r e =
      subst (λ (x : Record). call_in (x.letter ∷ spaced x.arguments) ≡ some call)
      (some-injective (recorded letter arguments reply) r (sym (its reply) ∙ e))
      (line_asks letter arguments other small ∙ same)

none_above : (n : ℕ) → some_above 255 (replicate n 0) ≡ false
none_above zero = refl
none_above (suc n) = none_above n

all_small : (n : ℕ) → narrow (replicate n 0) ≡ true
all_small zero = refl
all_small (suc n) = all_small n

module _ (n : ℕ) where
  above_padded : (kinds : List ℕ) → some_above 255 (kinds ++ replicate n 0) ≡ some_above 255 kinds
  above_padded [] = none_above n
  above_padded (k ∷ kinds) = ap (λ (b : Bool). ltb 255 k || b) (above_padded kinds)

  small_padded : (kinds : List ℕ) → narrow (kinds ++ replicate n 0) ≡ narrow kinds
  small_padded [] = all_small n
  small_padded (k ∷ kinds) = ap (λ (b : Bool). ltb k 4_294_967_296 && b) (small_padded kinds)

whole_set_up : (kinds : List ℕ) → length kinds ≡ 16 → some_above 255 kinds ≡ false → set_up_of kinds ≡ some
    (set_up kinds)
whole_set_up kinds all low = rw (all, low, append-nil)

small_at : (numbers : List ℕ) (i : ℕ) → narrow numbers ≡ true → ltb (get_or numbers i 0) 4_294_967_296 ≡ true
small_at [] i e = refl
small_at (n ∷ numbers) zero e = left (ltb n 4_294_967_296) (narrow numbers) e
small_at (n ∷ numbers) (suc i) e = small_at numbers i (right (ltb n 4_294_967_296) (narrow numbers) e)

module _ (arguments : List ℕ) (small : narrow arguments ≡ true) (call : Call) where
  set_up_again : set_up_of arguments ≡ some call → Again call
  set_up_again e =
      let n = length arguments in
      let few = leb n 16 in
      let low = not (some_above 255 arguments) in
      let kinds = arguments ++ replicate (16 - n) 0 in
      let (passes, same) = passed (few && low) (set_up kinds) call e in
      let all : length kinds ≡ 16 =
      omega (
        arith,
        length-append arguments (replicate (16 - n) 0),
        length-replicate {A = ℕ} (16 - n) 0,
        leb-true n 16 (left few low passes),
      ) in
      subst Again same
      (again (set_up kinds) 83 kinds (λ reply. refl) refl (small_padded (16 - n) arguments ∙ small)
      (whole_set_up kinds all
      (above_padded (16 - n) arguments ∙ not-true (some_above 255 arguments) (right few low passes))))

  abbrev first : ℕ
  first = get_or arguments 0 0

  one_again : (its : Call) (letter : ℕ)
      → ((reply : Reply) → record_with its reply ≡ some (recorded letter (first ∷ []) reply)) → eqb letter 32 ≡ false
      → asked letter (first ∷ []) ≡ some its → with_count 1 arguments its ≡ some call
      → Again call
  one_again its letter made other same e =
      subst Again (passed (eqb (length arguments) 1) its call e).1
      (again its letter (first ∷ []) made other (rw (small_at arguments 0 small)) same)

  begin_again : with_count 1 arguments (begin first) ≡ some call → Again call
  begin_again = one_again (begin first) 66 (λ reply. refl) refl refl

  finish_again : with_count 1 arguments (finish first lent) ≡ some call → Again call
  finish_again = one_again (finish first lent) 70 (λ reply. refl) refl refl

  cancel_again : with_count 1 arguments (cancel first lent) ≡ some call → Again call
  cancel_again = one_again (cancel first lent) 67 (λ reply. refl) refl refl

  operate_again : let at : ℕ → ℕ = λ i. get_or arguments i 0 in
      with_count 5 arguments (operate (at 0) (at 1) (at 2) (at 3) (at 4)) ≡ some call → Again call
  operate_again e =
      let at : ℕ → ℕ = λ i. get_or arguments i 0 in
      let its = operate (at 0) (at 1) (at 2) (at 3) (at 4) in
      let five : List ℕ = at 0 ∷ at 1 ∷ at 2 ∷ at 3 ∷ at 4 ∷ [] in
      let so : (i : ℕ) → ltb (at i) 4_294_967_296 ≡ true = λ i. small_at arguments i small in
      subst Again (passed (eqb (length arguments) 5) its call e).1
      (again its 73 five (λ reply. refl) refl (rw (so 0, so 1, so 2, so 3, so 4)) refl)

batch_again : (arguments : List ℕ) → narrow arguments ≡ true → (call : Call) → batch_of arguments ≡ some call
    → Again call
batch_again [] small call e = absurd (none-ne-some call e)
batch_again (t ∷ operations) small call e =
    let its = not_stopped (too_many operations) (batch t operations) call e in
    subst Again its (again (batch t operations) 71 (t ∷ operations) (λ reply. refl) refl small (e ∙ ap some (sym its)))

asked_again : (letter : ℕ) (arguments : List ℕ) → narrow arguments ≡ true → (call : Call)
    → asked letter arguments ≡ some call
    → Again call
asked_again letter arguments small call =
    let Read : ℕ → Type 0 = λ l. asked l arguments ≡ some call → Again call in
    by_key Read letter 83 (set_up_again arguments small call)
    (λ s. by_key Read letter 66 (begin_again arguments small call)
    (λ b. by_key Read letter 73 (operate_again arguments small call)
    (λ i. by_key Read letter 71 (batch_again arguments small call)
    (λ g. by_key Read letter 70 (finish_again arguments small call)
    (λ f. by_key Read letter 67 (cancel_again arguments small call)
    (λ c e.
    let unknown : asked letter arguments ≡ none =
    rw (
      ne_eqb letter 83 s,
      ne_eqb letter 66 b,
      ne_eqb letter 73 i,
      ne_eqb letter 71 g,
      ne_eqb letter 70 f,
      ne_eqb letter 67 c,
    ) in
    absurd (none-ne-some call (sym unknown ∙ e))))))))

line_asked : (line : List ℕ) (call : Call) → call_in line ≡ some call → Asks call
unfolding call_in
line_asked line = fields_ask (split 32 line)

read_again : (line : List ℕ) (call : Call) → call_in line ≡ some call → Again call
read_again line call e =
    let so = line_asked line call e in asked_again so.letter so.arguments so.small call so.same

pub record_read : (line : List ℕ) (call : Call) (reply : protocol.Reply) (list : List ℕ) (r : Record)
    → call_in line ≡ some call → record_of_reply call reply list ≡ some r
    → call_in (r.letter ∷ spaced r.arguments) ≡ some call
record_read line call protocol.ok list r e made = read_again line call e _ r made
record_read line call (protocol.answered answers) list r e made = read_again line call e _ r made
record_read line call (protocol.wait owners count) list r e made = read_again line call e _ r made
record_read line call protocol.finished list r e made = read_again line call e _ r made
record_read line call (protocol.committed count) list r e made = read_again line call e _ r made
record_read line call (protocol.circle count) list r e made = read_again line call e _ r made
record_read line call (protocol.cancelled count) list r e made = read_again line call e _ r made
record_read line call (protocol.counted rows) list r e made = absurd (none-ne-some r made)
record_read line call (protocol.refused reason) list r e made = absurd (none-ne-some r made)
