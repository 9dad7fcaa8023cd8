-- The form of an object's rows, by what is tested: their second words, neighbouring keys and the kind.
use Rattle.std.specs.Prelude.{ℕ, ◌<◌, ◌-◌, ◌≡◌, refl, Bool, true, false, ◌||◌, ◌↔◌, List, [], ◌∷◌, map, leb, ltb}
use Rattle.std.specs.Prelude.{length, get_or, take, drop}
use Rattle.std.proofs.Common.{ap, ap₂, sym, ◌∙◌, subst, true≢false, arith, ltb-true, lt-ltb, leb-false, Bor}
use Rattle.std.proofs.Math.Option.{some}
use Rattle.std.proofs.lemmas.Bool.{lt-leb}
use Rattle.std.specs.Int.Bits.{bit_or}
use Rattle.std.specs.List.{fold}
use Rattle.std.specs.Iterator.{AlwaysYields}
use Rattle.std.proofs.lemmas.Iterator.{YieldsList}
use Rattle.std.specs.Slice.Iter.{windows_rest, windows_size, windows_steps}
use Rattle.operations.specs.Operations.{Kind, Stack, Set, Table, Row, reduce_key, All, NoValue, WellFormed}
use Rattle.operations.proofs.Laws.Cases.{all_map}
use Rattle.operations.proofs.Laws.Storing.{reduced_below}
use Rattle.operations.specs.Kinds.{number_of_kind}
use Rattle.operations.specs.declared.Kind.{Kind as CodeKind}
use Rattle.operations.specs.declared.Kind.TheVariants as kinds
use Rattle.replay.specs.Replay.{row_of}
use Rattle.store.specs.Store.{Object}
use Rattle.store.specs.Layout.{word, base, decode, read_kind, object_start, rows_at}
use Rattle.store.specs.Soundness.{RowsFormed}
use Rattle.store.proofs.Laws.Reading.{object_read, kind_below}
use Rattle.layout.specs.Laws.{or_zero_lem}
use Rattle.objects.specs.Objects.{KeyedRows, ObjectFormed, rows_in}
use Rattle.objects.specs.Laws.Folding.{part_rows}
use mathlib.Core.Logic.Iff

-- ---- Second words: their union is 0 exactly where each is

abbrev pub union : ℕ → List ℕ → ℕ
union seen pair = bit_or seen (get_or pair 1 0)

pub none_seen : (pairs : List (List ℕ)) (seen : ℕ)
    → (fold union seen pairs ≡ 0) ↔ ((seen ≡ 0) × All NoValue (map row_of pairs))
none_seen [] seen = (λ e. (e, tt), λ p. p.0)
none_seen (p ∷ ps) seen =
    let rest = none_seen ps (union seen p) in (
      λ e. let r = rest.0 e in let z = or_zero_lem seen (get_or p 1 0) r.0 in (z.0, (z.1, r.1)),
      λ h. rest.1 (ap₂ bit_or h.0 h.1.0, h.1.1),
    )

-- ---- Keys: each below the next, and the last reduced

-- The first pair and each other with the one before it.
abbrev pub neighbours : List ℕ → List (List ℕ) → List (List (List ℕ))
neighbours p [] = []
neighbours p (q ∷ ps) = (p ∷ q ∷ []) ∷ neighbours q ps

windows_give : (p : List ℕ) (ps : List (List ℕ)) (s : _) → windows_size s ≡ 2
    → windows_rest s ≡ p ∷ ps → AlwaysYields windows_steps (λ (w : Bor (List (List ℕ))). w.now) s (neighbours p ps)
windows_give p [] s size rest = λ w t step. absurd (omega (arith, step.1.0, size, ap length rest))
windows_give p (q ∷ ps) s size rest = (
  λ t step. absurd (omega (arith, step.1.0, size, ap length rest)),
  λ w t step. (
    step.1.1 ∙ ap₂ take size rest,
    windows_give q ps t (step.0 ∙ size) (step.1.2 ∙ ap (drop 1) rest),
  ),
)

-- Whether a key so far, or of these two, is not below the next.
abbrev pub falls : Bool → List (List ℕ) → Bool
falls falling pair = falling || leb (get_or (get_or pair 1 []) 0 0) (get_or (get_or pair 0 []) 0 0)

or_parts : (a b : Bool) → a || b ≡ false → (a ≡ false) × (b ≡ false)
or_parts true b e = absurd (true≢false e)
or_parts false b e = (refl, e)

never_fell : (xs : List (List (List ℕ))) (falling : Bool) → fold falls falling xs ≡ false → falling ≡ false
never_fell [] falling e = e
never_fell (x ∷ xs) falling e = (or_parts falling _ (never_fell xs (falls falling x) e)).0

abbrev pub last_key : List ℕ → List (List ℕ) → ℕ
last_key p ps = get_or (get_or (p ∷ ps) (length ps) []) 0 0

pub rising_keyed : (p : List ℕ) (ps : List (List ℕ)) (falling : Bool) → fold falls falling (neighbours p ps) ≡ false
    → last_key p ps < 16_777_216 → KeyedRows (map row_of (p ∷ ps))
rising_keyed p [] falling e l = (((reduced_below (get_or p 0 0)).0 l, tt), (tt, tt))
rising_keyed p (q ∷ ps) falling e l =
    let next = falls falling (p ∷ q ∷ []) in
    let rest = rising_keyed q ps next e l in
    let below : get_or p 0 0 < get_or q 0 0 =
    leb-false _ _ (or_parts falling _ (never_fell (neighbours q ps) next e)).1 in
    let reduced = (reduced_below (get_or q 0 0)).1 rest.0.0 in (
      ((reduced_below (get_or p 0 0)).0 (omega arith), rest.0),
      ((below, all_map (λ (r : Row) (m : get_or q 0 0 < r.key). omega arith) (map row_of ps) rest.1.0), rest.1),
    )

pub keyed_rising : (p : List ℕ) (ps : List (List ℕ)) (falling : Bool) → falling ≡ false
    → KeyedRows (map row_of (p ∷ ps))
    → (fold falls falling (neighbours p ps) ≡ false) × (last_key p ps < 16_777_216)
keyed_rising p [] falling e k = (e, (reduced_below (get_or p 0 0)).1 k.0.0)
keyed_rising p (q ∷ ps) falling e k =
    keyed_rising q ps _ (rw e (lt-leb (get_or q 0 0) (get_or p 0 0) k.1.0.0)) (k.0.1, k.1.1)

abbrev pub windows_of : List (List ℕ) → List (List (List ℕ))
windows_of [] = []
windows_of (p ∷ ps) = neighbours p ps

pub windows_yield : (pairs : List (List ℕ)) (s : _) → windows_size s ≡ 2 → windows_rest s ≡ pairs
    → YieldsList windows_steps (λ (w : Bor (List (List ℕ))). w.now) s (windows_of pairs)
windows_yield [] s size rest = record { runs = λ w t step. absurd (omega (arith, step.1.0, size, ap length rest)) }
windows_yield (p ∷ ps) s size rest = record { runs = windows_give p ps s size rest }

pub keyed_last : (pairs : List (List ℕ)) (last : List ℕ) → 0 < length pairs → last ≡ get_or pairs (length pairs - 1) []
    → fold falls false (windows_of pairs) ≡ false
    → (ltb (get_or last 0 0) 16_777_216 ≡ true) ↔ KeyedRows (map row_of pairs)
keyed_last [] last filled ends rising = absurd (omega arith)
keyed_last (p ∷ ps) last filled ends rising =
    let same : get_or last 0 0 ≡ last_key p ps =
    ap (λ (q : List ℕ). get_or q 0 0) ends ∙ ap (λ n. get_or (get_or (p ∷ ps) n []) 0 0) (omega arith) in
    rw same (
      λ e. rising_keyed p ps false rising (ltb-true _ _ e),
      λ k. lt-ltb _ _ (keyed_rising p ps false refl k).1,
    )

pub keyed_no : (pairs : List (List ℕ)) → fold falls false (windows_of pairs) ≡ true → KeyedRows (map row_of pairs) → ⊥
keyed_no [] e k = true≢false (sym e)
keyed_no (p ∷ ps) e k = true≢false (sym e ∙ (keyed_rising p ps false refl k).0)

-- ---- By kind

-- The rows of the part that starts at the object, and the kind that its first word names.
module _ (w : List ℕ) (o s : ℕ) (at : s ≡ object_start o) (rows : List Row)
    (own : rows ≡ rows_in (take (length w - s) (drop s w))) (kind : CodeKind)
    (number : number_of_kind kind ≡ word w s) where
  as_kind : (own_kind : Kind) → read_kind (number_of_kind kind) ≡ some own_kind
      → WellFormed reduce_key own_kind rows ↔ ObjectFormed w o
  as_kind own_kind e =
      let same : rows ≡ rows_at w o =
      own ∙ ap (λ (n : ℕ). rows_in (take (length w - n) (drop n w))) at ∙ part_rows w o in
      let read : read_kind (word w (object_start o)) ≡ some own_kind =
      ap read_kind (ap (word w) (sym at) ∙ sym number) ∙ e in (
        λ h other f. let alike : own_kind ≡ other = cc in
            subst (λ (q : Kind). WellFormed reduce_key q (rows_at w o)) alike
            (subst (WellFormed reduce_key own_kind) same h),
        λ h. subst (WellFormed reduce_key own_kind) (sym same) (h own_kind read),
      )

  pub as_stack : kind ≡ kinds.Stack → All NoValue rows ↔ ObjectFormed w o
  as_stack e = as_kind Stack (ap (λ q. read_kind (number_of_kind q)) e)

  pub as_set : kind ≡ kinds.Set → (All NoValue rows × KeyedRows rows) ↔ ObjectFormed w o
  as_set e =
      Iff.trans (λ h. (h.0, h.1.0, h.1.1), λ h. (h.0, (h.1, h.2)))
      (as_kind Set (ap (λ q. read_kind (number_of_kind q)) e))

  pub as_table : kind ≡ kinds.Table → KeyedRows rows ↔ ObjectFormed w o
  as_table e = as_kind Table (ap (λ q. read_kind (number_of_kind q)) e)

pub all_formed : (w : List ℕ) → ((o : ℕ) → o < 16 → ObjectFormed w o) ↔ RowsFormed base (decode base w)
all_formed w = (
  λ h o kind e. let l = kind_below base w o kind e in
      subst (λ (x : Object). WellFormed reduce_key kind x.rows) (sym (object_read base w o l))
      (h o l kind (sym (ap (λ (x : Object). x.kind) (object_read base w o l)) ∙ e)),
  λ h o l kind e. subst (λ (x : Object). WellFormed reduce_key kind x.rows) (object_read base w o l)
      (h o kind (ap (λ (x : Object). x.kind) (object_read base w o l) ∙ e)),
)
