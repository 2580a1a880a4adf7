-- Worked rewritings, which hold by evaluation.
use Rattle.std.specs.Prelude.{◌≡◌, [], ◌∷◌, Ok, Err}
use Rattle.triangulations.specs.Triangulations.{Triangulation}
use Rattle.triangulations.specs.Steps.{T, S}
use Rattle.rewriting_records.specs.declared.record.Record.{Record}
use Rattle.rewriting_records.specs.declared.fault.RewritingFault.TheVariants.{NoForm}
use Rattle.rewriting_records.specs.Faults.{rewriting_fault_number}
use Rattle.relations.specs.Judging.{judge}

-- carry over, way 0, at the first step
abbrev pub carry_right : Record
carry_right = record { rule = 4; way = 0; place = 0; code = 0; e = 0; f = 0 }

pub record WorkedRewritings : Type 0 where
  -- a turn does not pass a swap, which is refused with 14
  pub turn_stays : (t : Triangulation) → judge t (T 5 ∷ S 5 6 ∷ []) carry_right ≡ Err (NoForm 0)
  pub number : rewriting_fault_number (NoForm 0) ≡ 14
  -- a swap passes a turn and exchanges its names there
  pub swap_passes : (t : Triangulation) → judge t (S 5 6 ∷ T 5 ∷ []) carry_right ≡ Ok (T 6 ∷ S 5 6 ∷ [])
