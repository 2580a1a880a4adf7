use Rattle.std.proofs.Common.{rules}
use Rattle.triangulations.specs.Triangulations.{together}
use Rattle.triangulations.proofs.table.Table.together.Goals as goal

pub returns-then-x-a : goal.returns-then-x-a
unfolding together
returns-then-x-a c = search rules

pub returns-else-x-a : goal.returns-else-x-a
unfolding together
returns-else-x-a c = search rules
