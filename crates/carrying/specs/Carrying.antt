-- What carrying rows along a walk answers.
use Rattle.std.specs.Prelude.{◌≡◌, ℕ, ◌≢◌, List, length, take, Some, Ok, Err, Result}
use Rattle.std.specs.List.{slice_get}
use Rattle.triangulations.specs.Triangulations.{Triangulation}
use Rattle.triangulations.specs.Steps.{leads, Legal, LegalStep}
use Rattle.triangulations.specs.Steps.{Step as Move}
use Rattle.numbers.specs.Numbers.{Numbers}
use Rattle.numbers.specs.Reading.{Judges}
use Rattle.numbers.specs.declared.fault.Operation.{Operation}
use Rattle.relations.specs.Values.{leads_values}
use Rattle.carrying.specs.declared.refusal.CarryRefusal.{CarryRefusal}
use Rattle.carrying.specs.declared.refusal.CarryRefusal.TheVariants.{RowCount, NotStored, NoStoredResult, NotLegal}
use Rattle.carrying.specs.Rows.{worths, Ready, Standing}
use Rattle.carrying.specs.Results.{StepBlocked, WalkHeld}

module _ {N : Type 0} (K : Numbers N) where
  -- a walk from t is granted: it is legal, each exact result on the way has a stored number, and the rows after it stand for the
  -- exact values to which it leads from those of the rows before it
  pub record Granted (w : List Move) (t : Triangulation) (before after : List N) : Type 0 where
    pub ready : Ready K t.edges before
    pub legal : Legal w t
    pub held : WalkHeld K w t (worths K before)
    pub rows : Standing K t.edges (leads_values K.exact w t (worths K before)) after

  -- the steps before step k are granted, step k is legal there, and o is its first operation whose exact result no stored number has
  pub record Halted (w : List Move) (t : Triangulation) (before after : List N) (k : ℕ) (o : Operation) : Type 0 where
    pub step : Move
    pub there : slice_get w k ≡ Some step
    pub reached : Granted (take k w) t before after
    pub legal : LegalStep step (leads (take k w) t)
    pub blocked : StepBlocked K step (leads (take k w) t).next (leads_values K.exact (take k w) t (worths K before)) o

  -- the steps before step k are granted, and step k is not legal there
  pub record Illegal (w : List Move) (t : Triangulation) (before after : List N) (k : ℕ) : Type 0 where
    pub step : Move
    pub there : slice_get w k ≡ Some step
    pub reached : Granted (take k w) t before after
    pub illegal : LegalStep step (leads (take k w) t) → ⊥

  -- there are n rows, and not one for each edge
  pub record Miscounted (edges : ℕ) (rows : List N) (n : ℕ) : Type 0 where
    pub count : n ≡ length rows
    pub wrong : n ≢ edges

  -- the rows are granted, or the first refusal: those of the rows come first and leave them, those of a step leave what it found
  abbrev pub Carries : {U : Type 0} → List Move → Triangulation → List N → List N → Result U CarryRefusal → Type 0
  Carries w t before after (Ok _) = Granted w t before after
  Carries w t before after (Err (RowCount n)) = Miscounted t.edges before n × (after ≡ before)
  Carries {U} w t before after (Err (NotStored f)) = (length before ≡ t.edges) × Judges {U = U} K before (Err f) × (after ≡ before)
  Carries w t before after (Err (NoStoredResult f)) = Halted w t before after f.step f.fault.operation
  Carries w t before after (Err (NotLegal k)) = Illegal w t before after k
