-- How far steps are done that are not all legal.
use Rattle.std.specs.Prelude.{ℕ, List, take, Some, None, Ok, Err, Option, Result}
use Rattle.triangulations.specs.Triangulations.{Triangulation}
use Rattle.triangulations.specs.Steps.{Step, leads}
use Rattle.rewriting_records.specs.declared.fault.RewritingFault.{RewritingFault}
use Rattle.rewriting_records.specs.declared.fault.RewritingFault.TheVariants.{NotLegal}
use Rattle.relations.specs.Judging.{first_illegal}

-- the refusal of steps of which this one is the first that is not legal
abbrev pub told : Option ℕ → Result (Unit {0}) RewritingFault
told None = Ok tt
told (Some k) = Err (NotLegal k)

-- the steps before the first that is not legal, or all of them
abbrev pub before : Option ℕ → List Step → List Step
before None w = w
before (Some k) w = take k w

-- the triangulation to which the steps lead, as far as they are legal
abbrev pub reached : List Step → Triangulation → Triangulation
reached w t = leads (before (first_illegal w t) w) t
