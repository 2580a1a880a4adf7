use Rattle.exact.proofs.Quotients.{quotients}
use Rattle.exact.proofs.quotients_stand.Goals as goal

pub returns : goal.returns
returns g c = quotients g.E.ExactField.lawful
