-- The steps that a walk holds, what they mean, and what edits make of them.
use Rattle.std.specs.Prelude.{ℕ, ◌+◌, ◌-◌, min, max, List, ◌++◌, map, take, drop, if◌then◌else◌, nat_le, Ok, Err, Result}
use Rattle.triangulations.specs.Steps.{exchanged}
use Rattle.triangulations.specs.Steps.{Step as Move}
use Rattle.triangulations.specs.Meaning.{meant}
use Rattle.triangulations.specs.declared.step.Label.{Label}
use Rattle.triangulations.specs.declared.step.Label.TheVariants.{Turn, Swap}
use Rattle.triangulations.specs.declared.step.Step.{Step}
use Rattle.triangulations.specs.declared.step.Step.TheVariants as step
use Rattle.walks.specs.declared.fault.EditFault.{EditFault}
use Rattle.walks.specs.declared.fault.EditFault.TheVariants.{NoSteps, NoRoom}
use Rattle.walks.specs.declared.walk.Walk.{Walk}

-- the steps that a walk holds
abbrev pub held : Walk → List Step
held w = take w.len w.steps

-- what they mean
abbrev pub moves : Walk → List Move
moves w = map meant (held w)

-- whether, of so many steps, those that are taken out stand from a place on, and there is room for so many others
abbrev pub replaceable : (at taken put steps : ℕ) → Result (Unit {0}) EditFault
replaceable at taken put steps = if nat_le (at + taken) steps then (if nat_le (steps - taken + put) 256 then Ok tt else Err NoRoom) else Err NoSteps

-- a list with others in place of so many from a place on
abbrev pub replaced : {X : Type 0} → ℕ → ℕ → List X → List X → List X
replaced at taken new xs = take at xs ++ (new ++ drop (at + taken) xs)

-- a label step with e and f exchanged in its names, those of a swap in rising order
abbrev pub renamed_label : ℕ → ℕ → Label → Label
renamed_label e f (Turn k) = Turn (exchanged e f k)
renamed_label e f (Swap k l) = Swap (min (exchanged e f k) (exchanged e f l)) (max (exchanged e f k) (exchanged e f l))

-- a step with e and f exchanged in its names
abbrev pub renamed_named : ℕ → ℕ → Step → Step
renamed_named e f (step.Flip x) = step.Flip (record { side = x.side; edge = exchanged e f x.edge })
renamed_named e f (step.Label l) = step.Label (renamed_label e f l)
