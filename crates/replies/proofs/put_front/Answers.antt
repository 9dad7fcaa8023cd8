-- `replies::put_front`: the first byte of those left is put.
use Rattle.std.proofs.Common.{ℕ, List, ◌∙◌, sym, ap, subst, ◌++◌, ◌∷◌, [], suc, length, take}
use Rattle.std.proofs.Common.{append-nil, arith, rules, Fits, w8, slice_index_or}
use Rattle.replies.specs.Printed.{spaced}
use Rattle.replies.proofs.Laws.Printing.{field_length, longer, front_put, front_end}
use Rattle.replies.proofs.put_front.Goals as goal

pub put_field-requires : goal.put_field-requires
put_field-requires g c =
    let (text, few, fits) = c.loop-byte.invariant in
    let (first, fewer) = c.in-Some.ensures.steps in
    let byte = subst (λ (l : List ℕ). Fits w8 (slice_index_or l 0 0)) first (fits 0) in (
      search rules,
      omega (
        arith,
        c.requires.room,
        few,
        ap length first,
        field_length 3 c.from.result (omega arith) (omega (arith, c.from.ensures, byte)),
      ),
    )

pub loop-byte-preserved : goal.loop-byte-preserved
loop-byte-preserved g c =
    let (text, few, fits) = c.loop-byte.invariant in
    let (first, fewer) = c.in-Some.ensures.steps in
    let byte = subst (λ (l : List ℕ). Fits w8 (slice_index_or l 0 0)) first (fits 0) in
    let rest = c.next.new.self.iter.rest.now in
    let put = c.put_field.ensures.text in (
      ap (λ (l : List ℕ). l ++ spaced (take c.next.new.self.n rest)) put
          ∙ front_put c.loop-byte.out.items _ rest _ _ c.from.result
          (first ∙ ap (λ (x : ℕ). x ∷ rest) (sym c.from.ensures))
          fewer ∙ text,
      omega (
        arith,
        few,
        ap length first,
        longer _ _ (spaced (c.from.result ∷ [])) put,
        field_length 3 c.from.result (omega arith) (omega (arith, c.from.ensures, byte)),
      ),
      λ (i : ℕ). subst (λ (l : List ℕ). Fits w8 (slice_index_or l (suc i) 0)) first (fits (suc i)),
    )

pub returns-clause-text : goal.returns-clause-text
returns-clause-text g c =
    let none = front_end c.loop-byte.byte-iterator.n _ (λ some. (c.in-None.ensures.steps some).0) in
    sym (append-nil c.loop-byte.out.items) ∙ ap (λ (l : List ℕ). c.loop-byte.out.items ++ spaced l) (sym none)
    ∙ c.loop-byte.invariant.0
