use Rattle.exact.proofs.Ptolemy.{diagonals, undoes, turns}
use Rattle.exact.proofs.undoing_stands.Goals as goal

pub returns : goal.returns
returns g c = record { diagonals = diagonals g.E.ExactField.lawful; undoes = undoes g.E.ExactField.lawful; turns = turns g.E.ExactField.lawful }
