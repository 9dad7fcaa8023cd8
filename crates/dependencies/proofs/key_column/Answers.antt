-- `dependencies::key_column`: the columns by number.
use Rattle.std.proofs.Common.{arith}
use Rattle.std.proofs.lemmas.Bool.Decides.{nat_tests}
use Rattle.dependencies.specs.Dependencies.{key_column}
use Rattle.dependencies.proofs.key_column.Goals as goal

pub returns-in-5 : goal.returns-in-5
unfolding key_column
returns-in-5 c = grind (arith, nat_tests)

pub returns-in-6 : goal.returns-in-6
unfolding key_column
returns-in-6 c = grind (arith, nat_tests)

pub returns-in-1 : goal.returns-in-1
unfolding key_column
returns-in-1 c = grind (arith, nat_tests)

pub returns-in-1-2 : goal.returns-in-1-2
unfolding key_column
returns-in-1-2 c = grind (arith, nat_tests)

pub returns-in_default : goal.returns-in_default
unfolding key_column
returns-in_default c = grind (arith, nat_tests)

pub returns-in_default-2 : goal.returns-in_default-2
unfolding key_column
returns-in_default-2 c = grind (arith, nat_tests)
