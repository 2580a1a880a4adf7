use Rattle.exact.proofs.Quotients.{cancels}
use Rattle.exact.proofs.cancellation_stands.Goals as goal

pub returns : goal.returns
returns g c = cancels g.E.ExactField.lawful
