use Rattle.numbers.proofs.Answered.{results}
use Rattle.numbers.proofs.laws.results_stand.Goals as goal

pub returns-clause-results : goal.returns-clause-results
returns-clause-results g c = results g.met.K.Kind.lawful
