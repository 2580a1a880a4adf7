-- What the steps of the code mean.
use Rattle.std.specs.Prelude.{ℕ, ◌<◌}
use Rattle.triangulations.specs.Steps.{T, S, Direction, left, right, flip_step, turn, swap}
use Rattle.triangulations.specs.Steps.{Step as Move}
use Rattle.triangulations.specs.declared.step.Side.{Side}
use Rattle.triangulations.specs.declared.step.Side.TheVariants.{Left, Right}
use Rattle.triangulations.specs.declared.step.Flip.{Flip}
use Rattle.triangulations.specs.declared.step.Label.{Label}
use Rattle.triangulations.specs.declared.step.Label.TheVariants.{Turn, Swap}
use Rattle.triangulations.specs.declared.step.Step.{Step}
use Rattle.triangulations.specs.declared.step.Step.TheVariants as step

abbrev pub direction : Side → Direction
direction Left = left
direction Right = right

abbrev pub meant_flip : Flip → Move
meant_flip f = flip_step (direction f.side) f.edge

abbrev pub meant_label : Label → Move
meant_label (Turn e) = T e
meant_label (Swap e f) = S e f

abbrev pub meant : Step → Move
meant (step.Flip f) = meant_flip f
meant (step.Label l) = meant_label l

-- what a label step does to the name of a dart
abbrev pub naming : Label → ℕ → ℕ
naming (Turn e) = turn e
naming (Swap e f) = swap e f

-- it names edges below n, a swap the smaller first
abbrev pub NamesLabel : Label → ℕ → Type 0
NamesLabel (Turn e) n = e < n
NamesLabel (Swap e f) n = (e < f) × (f < n)

abbrev pub Names : Step → ℕ → Type 0
Names (step.Flip f) n = f.edge < n
Names (step.Label l) n = NamesLabel l n
