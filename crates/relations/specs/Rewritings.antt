-- The list of rewritings, as a relation on walks.
use Rattle.std.specs.Prelude.{◌≡◌, ℕ, min, max, Bool, true, false, not, T as Yes, List, [], ◌∷◌, ◌++◌, length, Ok}
use Rattle.triangulations.specs.Triangulations.{Triangulation, flippable, shares}
use Rattle.triangulations.specs.Steps.{Step, L, R, T, S, Direction, flip_step, exchanged, inverse, leads, LegalStep}
use Rattle.triangulations.specs.Meaning.{meant}
use Rattle.triangulations.specs.declared.step.Step.{Step as Named}
use Rattle.rewriting_records.specs.declared.record.Record.{Record}
use Rattle.rewriting_records.specs.declared.record.Rewriting.{Rewriting}
use Rattle.rewriting_records.specs.declared.record.Rewriting.TheVariants.{DropPair, InsertPair, JoinDouble, SplitDouble, Exchange, CarryRight, CarryLeft, ClosePentagon, OpenPentagon}
use Rattle.rewriting_records.specs.Records.{spelling}
use Rattle.relations.specs.Pentagons.{Pentagon, five, swap_and_turns}

-- a step with e and f exchanged in its names, those of a swap in rising order
abbrev pub renamed_step : ℕ → ℕ → Step → Step
renamed_step e f (L k) = L (exchanged e f k)
renamed_step e f (R k) = R (exchanged e f k)
renamed_step e f (T k) = T (exchanged e f k)
renamed_step e f (S k l) = S (min (exchanged e f k) (exchanged e f l)) (max (exchanged e f k) (exchanged e f l))

-- a turn passes flips and turns, and no swaps
abbrev pub passed : Step → Bool
passed (L e) = true
passed (R e) = true
passed (T e) = true
passed (S e f) = false

-- the steps that a rewriting takes out at a place and those that it puts in for them, where t is the triangulation there
pub data Changes (t : Triangulation) : Rewriting → List Step → List Step → Type 0 where
  -- pair: L(e) R(e), R(e) L(e), T(e) T(e) and S(e, f) S(e, f) are dropped; a legal step and its undoing are put in
  pair_dropped : (s : Step) → Changes t DropPair (s ∷ inverse s ∷ []) []
  pair_put_in : (s : Named) → LegalStep (meant s) t → Changes t (InsertPair s) [] (meant s ∷ inverse (meant s) ∷ [])
  -- double: two left flips of an edge are its turn
  double_joined : (e : ℕ) → Changes t JoinDouble (L e ∷ L e ∷ []) (T e ∷ [])
  double_split : (e : ℕ) → Yes (flippable t.next e) → Changes t SplitDouble (T e ∷ []) (L e ∷ L e ∷ [])
  -- apart: two flips whose edges share no triangle change places
  apart : (w w' : Direction) (e f : ℕ) → Yes (not (shares t.next e f))
      → Changes t Exchange (flip_step w e ∷ flip_step w' f ∷ []) (flip_step w' f ∷ flip_step w e ∷ [])
  -- carry over: a swap passes any step and renames it, a turn passes flips and turns, to the right and to the left
  swap_right : (e f : ℕ) (s : Step) → Changes t CarryRight (S e f ∷ s ∷ []) (renamed_step e f s ∷ S e f ∷ [])
  turn_right : (e : ℕ) (s : Step) → Yes (passed s) → Changes t CarryRight (T e ∷ s ∷ []) (s ∷ T e ∷ [])
  swap_left : (e f : ℕ) (s : Step) → Changes t CarryLeft (s ∷ S e f ∷ []) (S e f ∷ renamed_step e f s ∷ [])
  turn_left : (e : ℕ) (s : Step) → Yes (passed s) → Changes t CarryLeft (s ∷ T e ∷ []) (T e ∷ s ∷ [])
  -- pentagon: five left flips in turn are a swap and turns
  pentagon_closed : (e f x y : ℕ) → Pentagon t.next e f x y → Changes t (ClosePentagon e f) (five e f) (swap_and_turns e f x y t.next)
  pentagon_opened : (e f x y : ℕ) → Pentagon t.next e f x y → Changes t (OpenPentagon e f) (swap_and_turns e f x y t.next) (five e f)

-- the record makes w' of the walk w from t: it spells a rewriting, which changes the steps at the record's place
pub record Rewrites (t : Triangulation) (ρ : Record) (w w' : List Step) : Type 0 where
  pub rewriting : Rewriting
  pub before : List Step
  pub old : List Step
  pub new : List Step
  pub after : List Step
  pub spells : spelling t.edges ρ ≡ Ok rewriting
  pub place : length before ≡ ρ.place
  pub change : Changes (leads before t) rewriting old new
  pub from : w ≡ before ++ (old ++ after)
  pub to : w' ≡ before ++ (new ++ after)

-- some records, one after the other, make w' of w
pub data Rewritten (t : Triangulation) : List Step → List Step → Type 0 where
  none : (w : List Step) → Rewritten t w w
  then : {u v w : List Step} (ρ : Record) → Rewritten t u v → Rewrites t ρ v w → Rewritten t u w
