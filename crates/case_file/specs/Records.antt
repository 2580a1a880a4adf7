-- The records of a case file, as they lie in it.
use Rattle.std.specs.Prelude.{ℕ, List, take, Ok, Err, Result, slice_index}
use Rattle.triangulations.specs.declared.step.Step.{Step}
use Rattle.triangulations.specs.declared.records.RecordFault.{RecordFault}
use Rattle.triangulations.specs.Records.{read_as}
use Rattle.case_file.specs.declared.record.Record.{Record}
use Rattle.case_file.specs.declared.record.Record.TheVariants as kind
use Rattle.case_file.specs.declared.refusal.Refusal.{Refusal}
use Rattle.case_file.specs.declared.refusal.Refusal.TheVariants.{StepRecord}
use Rattle.case_file.specs.Reading.{Position, offset, whole}

-- a record, by its offset and its bytes
pub data Seen : Type 0 where
  step : (offset code e f : ℕ) → Seen
  value : (offset : ℕ) → List ℕ → Seen

abbrev pub seen : Record → Seen
seen (kind.Step offset code e f) = step offset code.now e.now f.now
seen (kind.Value offset bytes) = value offset bytes.now

abbrev pub step_record_in : ℕ → List ℕ → Result Seen Refusal
step_record_in offset bytes = Ok (step offset (slice_index bytes 0) (slice_index bytes 1) (slice_index bytes 2))

abbrev pub step_record_at : Position → Result (Seen × Position) Refusal
step_record_at p = whole 3 (step_record_in (offset p)) p

abbrev pub value_record_at : ℕ → Position → Result (Seen × Position) Refusal
value_record_at width p = whole width (λ bytes. Ok (value (offset p) (take width bytes))) p

-- a fault of the record with this index in its section
abbrev pub with_index : ℕ → Result Step RecordFault → Result Step Refusal
with_index index (Ok s) = Ok s
with_index index (Err fault) = Err (StepRecord index fault)

-- the step that three bytes spell
abbrev pub step_in : (edges index : ℕ) → List ℕ → Result Step Refusal
step_in edges index bytes = with_index index (read_as edges (slice_index bytes 0) (slice_index bytes 1) (slice_index bytes 2))

abbrev pub step_at : (edges index : ℕ) → Position → Result (Step × Position) Refusal
step_at edges index = whole 3 (step_in edges index)
