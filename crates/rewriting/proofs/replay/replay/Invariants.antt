use Rattle.std.proofs.Common.{map, take}
use Rattle.triangulations.specs.Meaning.{meant}
use Rattle.triangulations.specs.Boards.{on}
use Rattle.rewriting.proofs.Replaying.{Walked}
use Rattle.rewriting.proofs.replay.replay.Given as goal

abbrev pub invariant-loop-i : goal.invariant-loop-i
invariant-loop-i l = Walked (take l.i-counter (map meant l.steps)) (on l.initial.board) (on l.board)
