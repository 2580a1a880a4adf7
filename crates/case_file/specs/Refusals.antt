-- The number, the layer and the place of each refusal. Layer 1 is the file, 2 the surface, 3 the walk, 6 the numbers.
use Rattle.std.specs.Prelude.{ℕ}
use Rattle.numbers.specs.Faults.{carry_fault_number}
use Rattle.triangulations.specs.Records.{fault_number}
use Rattle.case_file.specs.declared.refusal.Refusal.{Refusal}
use Rattle.case_file.specs.declared.refusal.Refusal.TheVariants.{EndsEarly, UnknownMark, CountOutside, NotDiagonal, Crosses, StepRecord, NotFlippable, NotNumber, NoStoredResult, ValueCount}

abbrev pub refusal_number : Refusal → ℕ
refusal_number (EndsEarly length) = 1
refusal_number (UnknownMark offset) = 3
refusal_number (CountOutside offset) = 4
refusal_number (NotDiagonal index) = 8
refusal_number (Crosses index) = 9
refusal_number (StepRecord index fault) = fault_number fault
refusal_number (NotFlippable index) = 10
refusal_number (NotNumber index) = 17
refusal_number (NoStoredResult fault) = carry_fault_number fault
refusal_number (ValueCount count) = 19

abbrev pub refusal_layer : Refusal → ℕ
refusal_layer (EndsEarly length) = 1
refusal_layer (UnknownMark offset) = 1
refusal_layer (CountOutside offset) = 1
refusal_layer (NotDiagonal index) = 2
refusal_layer (Crosses index) = 2
refusal_layer (StepRecord index fault) = 3
refusal_layer (NotFlippable index) = 3
refusal_layer (NotNumber index) = 6
refusal_layer (NoStoredResult fault) = 6
refusal_layer (ValueCount count) = 6

-- the file's length, an offset in the file, the index of a diagonal, of a record in its section, of a step or of a value, or a count
abbrev pub refusal_place : Refusal → ℕ
refusal_place (EndsEarly length) = length
refusal_place (UnknownMark offset) = offset
refusal_place (CountOutside offset) = offset
refusal_place (NotDiagonal index) = index
refusal_place (Crosses index) = index
refusal_place (StepRecord index fault) = index
refusal_place (NotFlippable index) = index
refusal_place (NotNumber index) = index
refusal_place (NoStoredResult fault) = fault.step
refusal_place (ValueCount count) = count
