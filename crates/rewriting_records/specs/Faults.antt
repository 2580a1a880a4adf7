-- The number, the layer and the place of each refusal of a rewriting. Layer 3 is the walk, 5 the rewritings.
use Rattle.std.specs.Prelude.{ℕ}
use Rattle.triangulations.specs.Records.{fault_number}
use Rattle.rewriting_records.specs.declared.fault.RewritingFault.{RewritingFault}
use Rattle.rewriting_records.specs.declared.fault.RewritingFault.TheVariants.{BadRecord, PlaceBeyond, NotLegal, NoForm, NoCondition, TooLong}

abbrev pub rewriting_fault_number : RewritingFault → ℕ
rewriting_fault_number (BadRecord place fault) = fault_number fault
rewriting_fault_number (PlaceBeyond place) = 13
rewriting_fault_number (NotLegal step) = 10
rewriting_fault_number (NoForm place) = 14
rewriting_fault_number (NoCondition place) = 15
rewriting_fault_number TooLong = 11

abbrev pub rewriting_fault_layer : RewritingFault → ℕ
rewriting_fault_layer (BadRecord place fault) = 5
rewriting_fault_layer (PlaceBeyond place) = 5
rewriting_fault_layer (NotLegal step) = 3
rewriting_fault_layer (NoForm place) = 5
rewriting_fault_layer (NoCondition place) = 5
rewriting_fault_layer TooLong = 5

abbrev pub rewriting_fault_place : RewritingFault → ℕ
rewriting_fault_place (BadRecord place fault) = place
rewriting_fault_place (PlaceBeyond place) = place
rewriting_fault_place (NotLegal step) = step
rewriting_fault_place (NoForm place) = place
rewriting_fault_place (NoCondition place) = place
rewriting_fault_place TooLong = 256
