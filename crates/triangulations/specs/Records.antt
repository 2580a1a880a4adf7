-- Step records: three bytes, a code and two edge names e and f. Codes 0 to 3 are L(e), R(e), T(e) and S(e, f); f is 0 where it is not used.
use Rattle.std.specs.Prelude.{ℕ, Bool, cond, not, ◌&&◌, ◌||◌, List, [], ◌∷◌, Ok, Err, Result, ◌==◌, nat_le, nat_lt, slice_index}
use Rattle.triangulations.specs.declared.step.Side.{Side}
use Rattle.triangulations.specs.declared.step.Side.TheVariants.{Left, Right}
use Rattle.triangulations.specs.declared.step.Label.{Label}
use Rattle.triangulations.specs.declared.step.Label.TheVariants.{Turn, Swap}
use Rattle.triangulations.specs.declared.step.Step.{Step}
use Rattle.triangulations.specs.declared.step.Step.TheVariants as step
use Rattle.triangulations.specs.declared.records.RecordFault.{RecordFault}
use Rattle.triangulations.specs.declared.records.RecordFault.TheVariants.{UnknownCode, EdgeBeyond, NotRising}

-- the numbers of the refusals
abbrev pub fault_number : RecordFault → ℕ
fault_number UnknownCode = 5
fault_number EdgeBeyond = 6
fault_number NotRising = 7

abbrev pub side_code : Side → ℕ
side_code Left = 0
side_code Right = 1

abbrev pub label_record : Label → List ℕ
label_record (Turn e) = 2 ∷ e ∷ 0 ∷ []
label_record (Swap e f) = 3 ∷ e ∷ f ∷ []

-- the record of a step
abbrev pub record_of : Step → List ℕ
record_of (step.Flip f) = side_code f.side ∷ f.edge ∷ 0 ∷ []
record_of (step.Label l) = label_record l

-- the step that a record spells whose code is known
abbrev pub spelt : (code e f : ℕ) → Step
spelt code e f =
    cond (code == 0) (step.Flip (record { side = Left; edge = e }))
    (cond (code == 1) (step.Flip (record { side = Right; edge = e }))
    (cond (code == 2) (step.Label (Turn e))
    (step.Label (Swap e f))))

-- only a swap, code 3, uses f
abbrev pub swaps : ℕ → Bool
swaps code = code == 3

-- the code is one of the four, and f is 0 where it is not used
abbrev pub known : (code f : ℕ) → Bool
known code f = nat_le code 3 && (swaps code || f == 0)

-- each name that is used is below the number of edges
abbrev pub named : (edges code e f : ℕ) → Bool
named edges code e f = nat_lt e edges && (not (swaps code) || nat_lt f edges)

-- the names of a swap rise
abbrev pub rises : (code e f : ℕ) → Bool
rises code e f = not (swaps code) || nat_lt e f

-- what a record is read as: the step it spells, or the first fault, in this order
abbrev pub read_as : (edges code e f : ℕ) → Result Step RecordFault
read_as edges code e f =
    cond (not (known code f)) (Err UnknownCode)
    (cond (not (named edges code e f)) (Err EdgeBeyond)
    (cond (not (rises code e f)) (Err NotRising)
    (Ok (spelt code e f))))

abbrev pub reading : ℕ → List ℕ → Result Step RecordFault
reading edges r = read_as edges (slice_index r 0) (slice_index r 1) (slice_index r 2)

-- the edge with this name, which is to be below the number of edges
abbrev pub edge_name : (edges name : ℕ) → Result ℕ RecordFault
edge_name edges name = cond (nat_lt name edges) (Ok name) (Err EdgeBeyond)

-- the swap of two edges whose names are to rise
abbrev pub rising_swap : (e f : ℕ) → Result Label RecordFault
rising_swap e f = cond (nat_lt e f) (Ok (Swap e f)) (Err NotRising)
