-- Numbers in bytes, one and many, and rows that are judged.
use Rattle.std.specs.Prelude.{◌≡◌, ℕ, ◌*◌, ◌<◌, ◌≤◌, List, length, take, drop, Ok, Err, Result, ◌≢◌, slice_index, slice_index_or}
use Rattle.std.specs.List.{All}
use Rattle.numbers.specs.Numbers.{Numbers}
use Rattle.numbers.specs.Layouts.{Layout, Row}
use Rattle.numbers.specs.declared.read.ReadFault.{ReadFault}
use Rattle.numbers.specs.declared.read.ReadFault.TheVariants.{Short, NotStored}
use Rattle.numbers.specs.declared.read.RunFault.{RunFault}
use Rattle.numbers.specs.declared.read.MarkedFault.{MarkedFault}
use Rattle.numbers.specs.declared.read.MarkedFault.TheVariants.{NoMark, OtherMark, Run}
use Rattle.numbers.specs.declared.judge.Unstored.{Unstored}

module _ {N : Type 0} (K : Numbers N) (L : Layout N) where
  -- Why the first bytes are no number: there are too few of them, or the row that they stand for is no stored number.
  abbrev pub NoNumber : List ℕ → ReadFault → Type 0
  NoNumber bytes Short = length bytes < L.width
  NoNumber bytes NotStored = (L.width ≤ length bytes) × (K.stored (L.row (take L.width bytes)) → ⊥)

  -- The number at the front of the bytes.
  abbrev pub ReadsFront : List ℕ → Result N ReadFault → Type 0
  ReadsFront bytes (Ok n) = Row K L (take L.width bytes) n
  ReadsFront bytes (Err f) = NoNumber bytes f

  -- The bytes from the i-th number of a run on.
  abbrev pub from : List ℕ → ℕ → List ℕ
  from bytes i = drop (i * L.width) bytes

  -- The first `count` numbers of a run stand in the rows, and the other rows are as they were.
  pub record RunTo (bytes : List ℕ) (before after : List N) (count : ℕ) : Type 0 where
    pub front : (i : ℕ) (d : N) → i < count → Row K L (take L.width (from bytes i)) (slice_index_or after i d)
    pub back : (i : ℕ) (d : N) → count ≤ i → slice_index_or after i d ≡ slice_index_or before i d

  -- A run of as many numbers as there are rows, or the first that is none.
  abbrev pub ReadsRun : {U : Type 0} → List ℕ → List N → List N → Result U RunFault → Type 0
  ReadsRun bytes before after (Ok _) = RunTo bytes before after (length before)
  ReadsRun bytes before after (Err f) = (f.index < length before) × RunTo bytes before after f.index × NoNumber (from bytes f.index) f.fault

-- Each row is a stored number, or the first that is none.
abbrev pub Judges : {N U : Type 0} → Numbers N → List N → Result U Unstored → Type 0
Judges K rows (Ok _) = All K.stored rows
Judges {N} K rows (Err f) = (f.index < length rows) × All K.stored (take f.index rows) × ((d : N) → K.stored (slice_index_or rows f.index d) → ⊥)

-- The number by which a row that is no stored number is told. Its place is the index.
abbrev pub unstored_number : Unstored → ℕ
unstored_number f = 17

-- The numbers by which bytes that are no number are told: 1 where they end too early, 17 where the row is no stored number.
abbrev pub read_fault_number : ReadFault → ℕ
read_fault_number Short = 1
read_fault_number NotStored = 17

-- The mark of a kind, and then a run of its numbers: or that there is no mark, or that of another kind, or the first number
-- that is none. The rows stay where the mark is refused.
module _ {N U : Type 0} (K : Numbers N) (L : Layout N) (bytes : List ℕ) (before after : List N) where
  abbrev pub ReadsMarked : Result U MarkedFault → Type 0
  ReadsMarked (Ok u) = (1 ≤ length bytes) × (slice_index bytes 0 ≡ L.mark) × ReadsRun K L {U = U} (drop 1 bytes) before after (Ok u)
  ReadsMarked (Err NoMark) = (length bytes ≡ 0) × (after ≡ before)
  ReadsMarked (Err OtherMark) = (1 ≤ length bytes) × (slice_index bytes 0 ≢ L.mark) × (after ≡ before)
  ReadsMarked (Err (Run f)) = (1 ≤ length bytes) × (slice_index bytes 0 ≡ L.mark) × ReadsRun K L {U = U} (drop 1 bytes) before after (Err f)

-- The numbers by which they are told: 1 where the bytes end before the mark, 3 for another mark.
abbrev pub marked_fault_number : MarkedFault → ℕ
marked_fault_number NoMark = 1
marked_fault_number OtherMark = 3
marked_fault_number (Run f) = read_fault_number f.fault
