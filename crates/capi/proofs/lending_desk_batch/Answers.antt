-- The call, its reply and its answers written.
use Rattle.std.proofs.Common.{⊎_elim, arith}
use Rattle.capi.proofs.Laws.{few_counted, either_counted, exports_answers}
use Rattle.capi.proofs.lending_desk_batch.Goals as goal

pub overflow_cast-result : goal.overflow_cast-result
overflow_cast-result c =
    let batched = c.batch-batched.ensures in
    let few = few_counted c.batch-batched.result batched.filled _ _ _ _ batched.served in
    omega (arith, few)

pub overflow_add-result : goal.overflow_add-result
overflow_add-result c =
    let batched = c.batch-batched.ensures in
    let few = few_counted c.batch-batched.result batched.filled _ _ _ _ batched.served in
    ⊎_elim (λ e. omega (arith, e, few)) (λ e. omega (arith, e))
    (either_counted c.batch-batched.result c.batch-batched.ensures.filled _ c.from-n.ensures)

pub returns : goal.returns
returns c =
    exports_answers c.batch-batched.result c.batch-batched.ensures.filled _ c.from-n.ensures _
    c.batch-batched.ensures.served
