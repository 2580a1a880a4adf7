use Rattle.relations.proofs.Judged.{judges}
use Rattle.relations.proofs.judging_stands.Goals as goal

pub returns : goal.returns
returns c t law w ρ h = judges t law w ρ h
