use Rattle.exact.proofs.Ptolemy.{five_cycle}
use Rattle.exact.proofs.five_cycle_stands.Goals as goal

pub returns : goal.returns
returns g c = five_cycle g.E.ExactField.lawful
