-- What every listed rewriting keeps.
use Rattle.std.specs.Prelude.{◌≡◌, List, take}
use Rattle.triangulations.specs.Triangulations.{Triangulation, Lawful}
use Rattle.triangulations.specs.Steps.{Step, leads, Legal}
use Rattle.rewriting_records.specs.declared.record.Record.{Record}
use Rattle.exact.specs.Field.{Field}
use Rattle.relations.specs.Rewritings.{Rewrites, Rewritten}
use Rattle.relations.specs.Judging.{Judges}
use Rattle.relations.specs.Values.{Values, leads_values, Same}

-- two walks from t are both legal, lead to one labelled triangulation, and lead any starting values to the same values
pub record Agree (F : Field) (t : Triangulation) (u u' : List Step) : Type 0 where
  pub legal : Legal u t
  pub legal' : Legal u' t
  pub ends : leads u t ≡ leads u' t
  pub values : (v : Values F) → Same F (leads_values F u t v) (leads_values F u' t v)

-- a legal walk agrees with what a record makes of it
abbrev pub RewritingKeeps : Field → Type 0
RewritingKeeps F = (t : Triangulation) → Lawful t → (ρ : Record) (w w' : List Step) → Legal w t → Rewrites t ρ w w' → Agree F t w w'

-- and with what any number of records make of it
abbrev pub CertificateKeeps : Field → Type 0
CertificateKeeps F = (t : Triangulation) → Lawful t → (w w' : List Step) → Legal w t → Rewritten t w w' → Agree F t w w'

-- on every lawful triangulation, records are judged as the list says
abbrev pub JudgingStands : Type 0
JudgingStands = (t : Triangulation) → Lawful t → (w : List Step) (ρ : Record) → Legal (take ρ.place w) t → Judges t w ρ
