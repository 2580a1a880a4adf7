use Rattle.std.proofs.Common.{map}
use Rattle.triangulations.specs.Meaning.{meant}
use Rattle.triangulations.specs.Boards.{on}
use Rattle.carrying.proofs.Going.{Going}
use Rattle.carrying.proofs.carry.carry_along.Given as goal

abbrev pub invariant-loop-k : goal.invariant-loop-k
invariant-loop-k g l = Going g.K.Kind.numbers (map meant l.steps) (on l.initial.board) l.initial.rows l.k (on l.board) l.rows
