-- Faults with their places, one inside the other.
use Rattle.std.specs.Prelude.{ℕ, Ok, Err, Result}
use Rattle.numbers.specs.declared.fault.Placed.{Placed}
use Rattle.numbers.specs.declared.fault.RangeFault.{RangeFault}
use Rattle.numbers.specs.declared.fault.Operation.{Operation}
use Rattle.numbers.specs.declared.fault.FlipFault.{FlipFault}
use Rattle.numbers.specs.declared.fault.CarryFault.{CarryFault}

-- The fault of an answer, with the place where it befell.
abbrev pub with_place : {T P F : Type 0} → P → Result T F → Result T (Placed P F)
with_place p (Ok x) = Ok x
with_place p (Err f) = Err (record { place = p; fault = f })

-- A number's fault in the operation of a flip, and a flip's fault in the step of a walk.
abbrev pub in_flip : Placed Operation RangeFault → FlipFault
in_flip f = record { operation = f.place; fault = f.fault }

abbrev pub in_carry : Placed ℕ FlipFault → CarryFault
in_carry f = record { step = f.place; fault = f.fault }

-- The fault of a flip's answer, at a step.
abbrev pub at_step : {N : Type 0} → ℕ → Result N FlipFault → Result N CarryFault
at_step step (Ok n) = Ok n
at_step step (Err f) = Err (record { step = step; fault = f })

-- The number by which a carry fault is told. Its place is the step.
abbrev pub carry_fault_number : CarryFault → ℕ
carry_fault_number f = 18
