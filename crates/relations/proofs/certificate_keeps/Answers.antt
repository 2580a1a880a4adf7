use Rattle.relations.proofs.Keeping.{certificate_agree}
use Rattle.relations.proofs.certificate_keeps.Goals as goal

pub returns : goal.returns
returns g c = certificate_agree g.E.ExactField.lawful
