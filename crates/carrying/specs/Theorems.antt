-- When rows are granted, and that they are settled by the exact values, so that walks which agree give the same rows.
use Rattle.std.specs.Prelude.{◌≡◌, ℕ, true, List, is_ok, Result}
use Rattle.triangulations.specs.Triangulations.{Triangulation, Lawful}
use Rattle.triangulations.specs.Steps.{Legal}
use Rattle.triangulations.specs.Steps.{Step as Move}
use Rattle.numbers.specs.Numbers.{Numbers}
use Rattle.relations.specs.Rewritings.{Rewritten}
use Rattle.relations.specs.Values.{Values, Same}
use Rattle.carrying.specs.declared.refusal.CarryRefusal.{CarryRefusal}
use Rattle.carrying.specs.Rows.{worths, Ready, Standing}
use Rattle.carrying.specs.Results.{WalkHeld}
use Rattle.carrying.specs.Carrying.{Granted, Carries}

module _ {N : Type 0} (K : Numbers N) where
  -- rows that are ready are granted along a legal walk if each exact result on the way has a stored number
  abbrev pub GrantedWhenever : Type 0
  GrantedWhenever =
      (w : List Move) (t : Triangulation) (before after : List N) (r : Result (Unit {0}) CarryRefusal) → Carries K w t before after r
      → Ready K t.edges before → Legal w t → WalkHeld K w t (worths K before) → is_ok r ≡ true

  -- rows that stand for the same exact values are equal
  abbrev pub Settled : Type 0
  Settled = (n : ℕ) (v v' : Values K.exact) (a b : List N) → Standing K n v a → Standing K n v' b → Same K.exact v v' → a ≡ b

  -- a walk and what records make of it, where both are granted from the same rows, give the same rows
  abbrev pub RowsAgree : Type 0
  RowsAgree =
      (t : Triangulation) → Lawful t → (w w' : List Move) → Legal w t → Rewritten t w w'
      → (before a b : List N) → Granted K w t before a → Granted K w' t before b → a ≡ b
