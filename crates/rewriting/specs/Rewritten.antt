-- What a call that rewrites a walk answers, and what the walk then holds.
use Rattle.std.specs.Prelude.{◌≡◌, ℕ, List, map, drop, Some, None, Ok, Err, Option, Result}
use Rattle.triangulations.specs.Triangulations.{Table}
use Rattle.triangulations.specs.Steps.{Step as Move}
use Rattle.triangulations.specs.Meaning.{meant}
use Rattle.triangulations.specs.declared.step.Side.{Side}
use Rattle.triangulations.specs.declared.step.Side.TheVariants.{Left, Right}
use Rattle.triangulations.specs.declared.step.Flip.{Flip}
use Rattle.triangulations.specs.declared.step.Label.{Label}
use Rattle.triangulations.specs.declared.step.Label.TheVariants.{Turn, Swap}
use Rattle.triangulations.specs.declared.step.Step.{Step}
use Rattle.triangulations.specs.declared.step.Step.TheVariants as step
use Rattle.rewriting_records.specs.declared.fault.RewritingFault.{RewritingFault}
use Rattle.rewriting_records.specs.declared.fault.RewritingFault.TheVariants.{NoCondition}
use Rattle.relations.specs.Pentagons.{swap_and_turns}
use Rattle.relations.specs.Judging.{Judged, carried_right, carried_left, fitting, put}
use Rattle.rewriting.specs.declared.run.SwapAndTurns.{SwapAndTurns}
use Rattle.rewriting.specs.declared.run.SwapAndTurns.TheVariants as run

-- Granted, the walk then means what was judged; refused, it has that fault and holds what it held.
abbrev pub Answers : {U : Type 0} → (held : List Step) → Result U RewritingFault → (after : List Step) → Result (List Move) RewritingFault → Type 0
Answers held (Ok _) after judged = judged ≡ Ok (map meant after)
Answers held (Err f) after judged = (judged ≡ Err f) × (after ≡ held)

-- a change made at the place p of a walk, if the steps there are those that it takes out
abbrev pub done : (p : ℕ) → List Move → Judged → Result (List Move) RewritingFault
done p w j = put p w (fitting p (drop p w) j)

-- what carry over changes, by where the label step moves
abbrev pub carried : (p : ℕ) → Side → Move → Move → Judged
carried p Right = carried_right p
carried p Left = carried_left p

-- the flip that a step is
abbrev pub flip_in : Step → Option Flip
flip_in (step.Flip f) = Some f
flip_in (step.Label l) = None

abbrev pub left_side : Side → ℕ → Option ℕ
left_side Left e = Some e
left_side Right e = None

-- the edge that a left flip flips
abbrev pub left_in : Step → Option ℕ
left_in (step.Flip f) = left_side f.side f.edge
left_in (step.Label l) = None

abbrev pub turn_of : Label → Option ℕ
turn_of (Turn e) = Some e
turn_of (Swap e f) = None

-- the edge that a turn turns
abbrev pub turn_in : Step → Option ℕ
turn_in (step.Flip f) = None
turn_in (step.Label l) = turn_of l

-- a swap, and the turns after it
abbrev pub steps_of : SwapAndTurns → List Step
steps_of (run.Swap steps) = steps
steps_of (run.OneTurn steps) = steps
steps_of (run.TwoTurns steps) = steps

abbrev pub run_meant : Result SwapAndTurns RewritingFault → Result (List Move) RewritingFault
run_meant (Ok r) = Ok (map meant (steps_of r))
run_meant (Err f) = Err f

-- what the five flips of e and f amount to where they make a pentagon, of the darts d
abbrev pub turned_swap : (p : ℕ) → Table → (e f : ℕ) → Option (ℕ × ℕ) → Result (List Move) RewritingFault
turned_swap p t e f None = Err (NoCondition p)
turned_swap p t e f (Some d) = Ok (swap_and_turns e f d.0 d.1 t)
