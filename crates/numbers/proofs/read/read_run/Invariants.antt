use Rattle.std.proofs.Common.{◌≡◌}
use Rattle.numbers.specs.Reading.{RunTo, from}
use Rattle.numbers.proofs.read.read_run.Given as goal

-- the rows before the index are read, and the rest of the bytes is left
abbrev pub invariant-loop-index : goal.invariant-loop-index
invariant-loop-index g l =
    RunTo g.K.Kind.numbers g.K.Kind.layout l.bytes l.initial.rows l.rows l.index-counter
    × (l.rest ≡ from g.K.Kind.numbers g.K.Kind.layout l.bytes l.index-counter)
