-- Why a record is refused for a walk w from t.
use Rattle.std.specs.Prelude.{◌≡◌, ℕ, ◌<◌, ◌≤◌, ◌⊎◌, List, ◌++◌, length, take, drop, Ok, Err}
use Rattle.triangulations.specs.Triangulations.{Triangulation}
use Rattle.triangulations.specs.Steps.{Step, leads, LegalStep}
use Rattle.triangulations.specs.Meaning.{meant}
use Rattle.triangulations.specs.declared.step.Step.{Step as Named}
use Rattle.triangulations.specs.declared.records.RecordFault.{RecordFault}
use Rattle.rewriting_records.specs.declared.record.Record.{Record}
use Rattle.rewriting_records.specs.declared.record.Rewriting.{Rewriting}
use Rattle.rewriting_records.specs.declared.record.Rewriting.TheVariants.{DropPair, InsertPair, JoinDouble, SplitDouble, Exchange, CarryRight, CarryLeft, ClosePentagon, OpenPentagon}
use Rattle.rewriting_records.specs.declared.fault.RewritingFault.{RewritingFault}
use Rattle.rewriting_records.specs.declared.fault.RewritingFault.TheVariants.{BadRecord, PlaceBeyond, NoForm, NoCondition, TooLong}
use Rattle.rewriting_records.specs.Records.{spelling}
use Rattle.relations.specs.Pentagons.{Pentagon}
use Rattle.relations.specs.Rewritings.{Changes, Rewrites}

-- the rewritings that ask for steps of a form that does not depend on the triangulation
abbrev pub Formed : Rewriting → Type 0
Formed DropPair = Unit {0}
Formed (InsertPair s) = ⊥
Formed JoinDouble = Unit {0}
Formed SplitDouble = Unit {0}
Formed Exchange = Unit {0}
Formed CarryRight = Unit {0}
Formed CarryLeft = Unit {0}
Formed (ClosePentagon e f) = ⊥
Formed (OpenPentagon e f) = ⊥

-- w begins with steps that the rewriting would change in some triangulation
pub record Shaped (r : Rewriting) (w : List Step) : Type 0 where
  pub where_so : Triangulation
  pub old : List Step
  pub new : List Step
  pub after : List Step
  pub change : Changes where_so r old new
  pub from : w ≡ old ++ after

-- a pentagon of e and f, either way
abbrev pub Pentagonal : Rewriting → ℕ → ℕ → Type 0
Pentagonal r e f = (r ≡ ClosePentagon e f) ⊎ (r ≡ OpenPentagon e f)

module _ (t : Triangulation) (w : List Step) (ρ : Record) where
  -- no walk is related to w by the record
  abbrev pub Unlisted : Type 0
  Unlisted = (w' : List Step) → Rewrites t ρ w w' → ⊥

  -- the triangulation at the record's place
  abbrev pub there : Triangulation
  there = leads (take ρ.place w) t

  -- the record spells r, and its place is in the walk
  pub record Placed (r : Rewriting) : Type 0 where
    pub spells : spelling t.edges ρ ≡ Ok r
    pub inside : ρ.place ≤ length w

  pub data Refusal : RewritingFault → Type 0 where
    -- 5, 6 and 7
    misspelt : (f : RecordFault) → spelling t.edges ρ ≡ Err f → Refusal (BadRecord ρ.place f)
    -- 13
    beyond : (r : Rewriting) → spelling t.edges ρ ≡ Ok r → length w < ρ.place → Refusal (PlaceBeyond ρ.place)
    -- 14 and 15, of the rules whose form comes first
    no_form : (r : Rewriting) → Placed r → Formed r → (Shaped r (drop ρ.place w) → ⊥) → Refusal (NoForm ρ.place)
    no_condition : (r : Rewriting) → Placed r → Formed r → Shaped r (drop ρ.place w) → Unlisted → Refusal (NoCondition ρ.place)
    -- 15, of a step that is not legal there
    not_legal_there : (s : Named) → Placed (InsertPair s) → (LegalStep (meant s) there → ⊥) → Refusal (NoCondition ρ.place)
    -- 15 and 14, of the pentagon, whose condition comes first
    no_pentagon : (r : Rewriting) (e f : ℕ) → Placed r → Pentagonal r e f → ((x y : ℕ) → Pentagon there.next e f x y → ⊥) → Refusal (NoCondition ρ.place)
    pentagon_form : (r : Rewriting) (e f x y : ℕ) → Placed r → Pentagonal r e f → Pentagon there.next e f x y → Unlisted → Refusal (NoForm ρ.place)
    -- 11
    too_long : (w' : List Step) → Rewrites t ρ w w' → 256 < length w' → Refusal TooLong
