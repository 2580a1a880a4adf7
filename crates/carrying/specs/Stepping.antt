-- What judging the rows answers, and what carrying them along one step does.
use Rattle.std.specs.Prelude.{◌≡◌, ℕ, List, length, Ok, Err, Result, ◌==◌, if◌then◌else◌}
use Rattle.triangulations.specs.Triangulations.{Triangulation}
use Rattle.triangulations.specs.Steps.{apply_step, LegalStep}
use Rattle.triangulations.specs.Steps.{Step as Move}
use Rattle.numbers.specs.Numbers.{Numbers, Stands}
use Rattle.numbers.specs.Reading.{Judges}
use Rattle.numbers.specs.declared.fault.Operation.{Operation}
use Rattle.numbers.specs.declared.fault.CarryFault.{CarryFault}
use Rattle.relations.specs.Values.{Values, value_step, flip_value}
use Rattle.carrying.specs.declared.refusal.CarryRefusal.{CarryRefusal}
use Rattle.carrying.specs.declared.refusal.CarryRefusal.TheVariants.{RowCount, NotStored, NoStoredResult, NotLegal}
use Rattle.carrying.specs.Rows.{Ready, Standing}
use Rattle.carrying.specs.Results.{ResultHeld, FlipBlocked, StepHeld, StepBlocked}
use Rattle.carrying.specs.Carrying.{Miscounted}

-- whether there is a row for each edge
abbrev pub counted : (edges rows : ℕ) → Result (Unit {0}) CarryRefusal
counted edges rows = if rows == edges then Ok tt else Err (RowCount rows)

module _ {N : Type 0} (K : Numbers N) where
  -- the rows are one for each edge and stored, or the first reason why not
  abbrev pub Judged : {U : Type 0} → ℕ → List N → Result U CarryRefusal → Type 0
  Judged edges rows (Ok _) = Ready K edges rows
  Judged edges rows (Err (RowCount n)) = Miscounted K edges rows n
  Judged {U} edges rows (Err (NotStored f)) = (length rows ≡ edges) × Judges {U = U} K rows (Err f)
  Judged edges rows (Err (NoStoredResult f)) = ⊥
  Judged edges rows (Err (NotLegal k)) = ⊥

  -- the number that a flip of e gives its row, or that it is blocked, whatever values the rows stand for
  abbrev pub FlipsRow : ℕ → Triangulation → ℕ → List N → Result N CarryFault → Type 0
  FlipsRow k t e rows (Ok n) =
      (v : Values K.exact) → Standing K t.edges v rows → ((o : Operation) → ResultHeld K t.next e v o) × Stands K (flip_value K.exact t.next e v) n
  FlipsRow k t e rows (Err f) =
      (v : Values K.exact) → Standing K t.edges v rows → (f.step ≡ k) × FlipBlocked K t.next e v f.fault.operation

  -- a step from t to u: the rows stand for the values to which it leads, whatever values they stood for
  pub record Stepped (s : Move) (t u : Triangulation) (before after : List N) : Type 0 where
    pub legal : LegalStep s t
    pub moved : u ≡ apply_step s t
    pub held : (v : Values K.exact) → Standing K t.edges v before → StepHeld K s t.next v
    pub rows : (v : Values K.exact) → Standing K t.edges v before → Standing K t.edges (value_step K.exact s t.next v) after

  -- a step that is refused for want of a stored number leaves the rows
  pub record StepRefused (k : ℕ) (s : Move) (t : Triangulation) (before after : List N) (f : CarryFault) : Type 0 where
    pub legal : LegalStep s t
    pub kept : after ≡ before
    pub blocked : (v : Values K.exact) → Standing K t.edges v before → (f.step ≡ k) × StepBlocked K s t.next v f.fault.operation

  -- what the step with the index k answers
  abbrev pub Steps : {U : Type 0} → ℕ → Move → Triangulation → Triangulation → List N → List N → Result U CarryRefusal → Type 0
  Steps k s t u before after (Ok _) = Stepped s t u before after
  Steps k s t u before after (Err (RowCount n)) = ⊥
  Steps k s t u before after (Err (NotStored f)) = ⊥
  Steps k s t u before after (Err (NoStoredResult f)) = StepRefused k s t before after f
  Steps k s t u before after (Err (NotLegal j)) = (j ≡ k) × (LegalStep s t → ⊥) × (after ≡ before)
