-- `replies::put_members`: the lowest of those left is put.
use Rattle.std.proofs.Common.{ℕ, ◌≡◌, sym, ◌∙◌, ap, ◌++◌, ◌∷◌, [], List, length-append, append-nil, arith, rules}
use Rattle.bitset.specs.Bitset.{members}
use Rattle.bitset.specs.Laws.{none_listed}
use Rattle.replies.specs.Printed.{spaced}
use Rattle.replies.proofs.Laws.Printing.{first_put, length_members, longer}
use Rattle.replies.proofs.put_members.Goals as goal

pub put_field-requires : goal.put_field-requires
put_field-requires g c =
    let text = c.loop-member.out.items in
    let rest = c.next.new.self.set in
    let (lowest, others) = c.in-Some.ensures.steps in
    let first = first_put text _ c.in-Some.member rest lowest others in (
      search rules,
      omega (
        arith,
        c.requires.room,
        longer _ c.args.out.now.items (spaced (members c.args.set)) (first ∙ c.loop-member.invariant),
        length-append (text ++ spaced (c.in-Some.member ∷ [])) (spaced (members rest)),
        length-append text (spaced (c.in-Some.member ∷ [])),
        length_members c.args.set,
      ),
    )

pub loop-member-preserved : goal.loop-member-preserved
loop-member-preserved g c =
    let rest = c.next.new.self.set in
    let (lowest, others) = c.in-Some.ensures.steps in
    ap (λ (l : List ℕ). l ++ spaced (members rest)) c.put_field.ensures.text
    ∙ first_put c.loop-member.out.items _ _ rest lowest others ∙ c.loop-member.invariant

pub returns : goal.returns
returns g c =
    let nothing_left : spaced (members c.loop-member.member-iterator.set) ≡ [] =
    ap spaced (none_listed _ c.in-None.ensures.steps.0) in
    let text : c.loop-member.out.items ≡ c.args.out.now.items ++ spaced (members c.args.set) =
    sym (append-nil c.loop-member.out.items) ∙ ap (λ (l : List ℕ). c.loop-member.out.items ++ l) (sym nothing_left)
    ∙ c.loop-member.invariant in
    record {
      text = text;
      few = omega (arith, longer _ _ (spaced (members c.args.set)) text, length_members c.args.set);
    }
