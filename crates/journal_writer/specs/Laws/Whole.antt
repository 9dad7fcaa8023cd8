-- The whole record: the letter and its numbers.
use Rattle.std.specs.Prelude.{ℕ, ◌+◌, ◌≤◌, ◌≡◌, Bool, true, false, ◌&&◌, cond, List, [], ◌∷◌, ◌++◌, length}
use Rattle.std.proofs.Common.{sym, ap, ap₂, ◌∙◌}
use Rattle.std.proofs.Math.Option.{none, some}
use Rattle.journal.specs.Groups.{grouped, narrow}
use Rattle.journal.specs.Records.{Record, argument_numbers, reply_numbers, numbers_of, bytes_of, shaped, fits, written}
use Rattle.journal.proofs.Laws.Groups.{grouped_append, narrow_append}
use Rattle.journal.proofs.Laws.Lengths.{numbers_length}

module _ (r : Record) where
  abbrev asked : List ℕ
  asked = argument_numbers r.letter r.arguments

  abbrev said : List ℕ
  said = reply_numbers r.reply

  unfit : shaped r ≡ false → fits r ≡ false
  unfolding fits
  unfit e = ap (λ (b : Bool). b && narrow (numbers_of r)) e

  pub turned_away : shaped r ≡ false → none ≡ written r
  turned_away e = sym (ap (λ (b : Bool). cond b (some (bytes_of r)) none) (unfit e))

  module _ (shape : shaped r ≡ true) where
    pub room : length (grouped asked) + length (grouped said) ≤ 487
    room = numbers_length r shape

    module _ (first : narrow asked ≡ true) (second : narrow said ≡ true) where
      pub fitting : fits r ≡ true
      unfolding fits
      fitting = ap₂ ◌&&◌ shape (narrow_append asked said first second)

      pub whole : (none_put letter_put asked_put out : List ℕ) → none_put ≡ [] → letter_put ≡ none_put ++ r.letter ∷ []
          → asked_put ≡ letter_put ++ grouped asked → out ≡ asked_put ++ grouped said → some out ≡ written r
      unfolding bytes_of
      whole none_put letter_put asked_put out e f g h =
          let letter : letter_put ≡ r.letter ∷ [] = f ∙ ap (λ (l : List ℕ). l ++ r.letter ∷ []) e in
          let before : asked_put ≡ r.letter ∷ grouped asked = g ∙ ap (λ (l : List ℕ). l ++ grouped asked) letter in
          ap some (h ∙ ap (λ (l : List ℕ). l ++ grouped said) before
          ∙ ap (λ (l : List ℕ). r.letter ∷ l) (sym (grouped_append asked said)))
          ∙ sym (ap (λ (b : Bool). cond b (some (bytes_of r)) none) fitting)
