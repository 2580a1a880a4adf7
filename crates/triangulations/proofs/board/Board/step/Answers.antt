use Rattle.triangulations.proofs.Moved.{law}
use Rattle.triangulations.proofs.board.Board.step.Goals as goal

pub returns-in-Flip-clause-lawful : goal.returns-in-Flip-clause-lawful
returns-in-Flip-clause-lawful c = law c.flip.new.self

pub returns-in-Label-clause-lawful : goal.returns-in-Label-clause-lawful
returns-in-Label-clause-lawful c = law c.relabel.new.self
