use Rattle.relations.proofs.Keeping.{rewrites_agree}
use Rattle.relations.proofs.rewriting_keeps.Goals as goal

pub returns : goal.returns
returns g c = rewrites_agree g.E.ExactField.lawful
