-- How the code's calls and arguments are read.
use Rattle.std.specs.Prelude as code
use Rattle.std.specs.Prelude.{ℕ, List, Some, None, take}
use Rattle.std.proofs.Math.Option.{Option, none, some}
use Rattle.protocol.specs.Call as model
use Rattle.lines.specs.Lines.{lent}
use Rattle.lines.specs.declared.Operations.{Operations}
use Rattle.lines.specs.declared.Call.{Call}
use Rattle.lines.specs.declared.Call.TheVariants.{SetUp, Begin, Operate, Batch, Finish, Cancel}

-- The words of a batch's operations.
abbrev pub words_of : Operations → List ℕ
words_of operations = take operations.count operations.words

abbrev pub call_of : Call → model.Call
call_of (SetUp kinds) = model.set_up kinds
call_of (Begin t) = model.begin t
call_of (Operate t o number k v) = model.operate t o number k v
call_of (Batch t operations) = model.batch t (words_of operations)
call_of (Finish t) = model.finish t lent
call_of (Cancel t) = model.cancel t lent

-- The call that was read, where one was.
abbrev pub call_said : code.Option Call → Option model.Call
call_said None = none
call_said (Some call) = some (call_of call)
