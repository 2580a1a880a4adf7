-- The number, the layer and the place of each refusal. Layer 3 is the walk, 6 the numbers.
use Rattle.std.specs.Prelude.{ℕ}
use Rattle.numbers.specs.Faults.{carry_fault_number}
use Rattle.numbers.specs.Reading.{unstored_number}
use Rattle.carrying.specs.declared.refusal.CarryRefusal.{CarryRefusal}
use Rattle.carrying.specs.declared.refusal.CarryRefusal.TheVariants.{RowCount, NotStored, NoStoredResult, NotLegal}

abbrev pub refusal_number : CarryRefusal → ℕ
refusal_number (RowCount count) = 19
refusal_number (NotStored f) = unstored_number f
refusal_number (NoStoredResult f) = carry_fault_number f
refusal_number (NotLegal step) = 10

abbrev pub refusal_layer : CarryRefusal → ℕ
refusal_layer (RowCount count) = 6
refusal_layer (NotStored f) = 6
refusal_layer (NoStoredResult f) = 6
refusal_layer (NotLegal step) = 3

-- how many rows there are, the index of a row, or that of a step
abbrev pub refusal_place : CarryRefusal → ℕ
refusal_place (RowCount count) = count
refusal_place (NotStored f) = f.index
refusal_place (NoStoredResult f) = f.step
refusal_place (NotLegal step) = step
