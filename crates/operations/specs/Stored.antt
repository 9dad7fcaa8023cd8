-- Operations and answers of the code, as those of `operations`.
use Rattle.std.specs.Prelude.{ℕ, Option, None, Some}
use Rattle.std.proofs.Math.Option.{none, some}
use Rattle.std.proofs.Math.Option as math
use Rattle.operations.specs.Operations as model
use Rattle.operations.specs.declared.Operation.{Operation}
use Rattle.operations.specs.declared.Answer.{Answer}

-- The operation that the numbers name. Their key is as stored, so nothing is reduced.
abbrev pub operation_of : Operation → math.Option model.Operation
operation_of o = model.stored (λ k. k) o.number o.key o.value

abbrev pub answer_of : Answer → model.Answer
answer_of r = model.answering r.code r.value

-- What the code found, as `operations` says it.
abbrev pub found_of : Option ℕ → math.Option ℕ
found_of None = none
found_of (Some x) = some x
