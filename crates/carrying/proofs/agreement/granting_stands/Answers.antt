use Rattle.carrying.proofs.Whenever.{granted_whenever}
use Rattle.carrying.proofs.agreement.granting_stands.Goals as goal

pub returns : goal.returns
returns g c = granted_whenever g.K.Kind.numbers
