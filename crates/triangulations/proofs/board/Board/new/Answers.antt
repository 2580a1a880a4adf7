use Rattle.triangulations.specs.Stored.{lawful_list}
use Rattle.triangulations.proofs.Stored.{none_stored}
use Rattle.triangulations.proofs.board.Board.new.Goals as goal

pub invariant_of-result : goal.invariant_of-result
unfolding lawful_list
invariant_of-result c = record { lawful = tt }

pub returns-clause-empty : goal.returns-clause-empty
returns-clause-empty c = none_stored 128
