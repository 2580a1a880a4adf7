-- The sections of a case file. Each opens with its count, two bytes.
use Rattle.std.specs.Prelude.{ℕ, ◌+◌, ◌-◌, ◌*◌, ◌/◌, min, Bool, if◌then◌else◌, ◌||◌, List, map, length, Some, None, Ok, Err, Option, Result, ◌==◌, nat_lt, slice_index}
use Rattle.std.specs.List.{range_with_len}
use Rattle.triangulations.specs.Triangulations.{Triangulation}
use Rattle.surfaces.specs.declared.faults.SurfaceFault.{SurfaceFault}
use Rattle.surfaces.specs.declared.faults.SurfaceFault.TheVariants as fault
use Rattle.surfaces.specs.Torus.{torus}
use Rattle.polygon_counting.specs.declared.diagonal.Diagonal.{Diagonal}
use Rattle.polygon_counting.specs.Polygons.{polygon}
use Rattle.polygons.specs.Judging.{first_fault}
use Rattle.polygons.specs.Meaning.{triangulation_of}
use Rattle.case_file.specs.declared.surface_section.CaseSurface.{CaseSurface}
use Rattle.case_file.specs.declared.surface_section.CaseSurface.TheVariants as surface
use Rattle.case_file.specs.declared.values_section.ValuesHead.{ValuesHead}
use Rattle.case_file.specs.declared.refusal.Refusal.{Refusal}
use Rattle.case_file.specs.declared.refusal.Refusal.TheVariants.{EndsEarly, UnknownMark, CountOutside, NotDiagonal, Crosses}
use Rattle.case_file.specs.Reading.{Position, offset, past, whole, and_then, refused_if, count_at, mark_at}

-- whether a count lies outside its limits
abbrev pub outside : (least most count : ℕ) → Bool
outside least most count = nat_lt count least || nat_lt most count

-- the triangulation that the surface of a case means
abbrev pub meaning : CaseSurface → Triangulation
meaning (surface.Torus t) = torus t.punctures
meaning (surface.Polygon p) = triangulation_of p

-- the pair of corners with the index k, a byte each
abbrev pub pair_in : List ℕ → ℕ → Diagonal
pair_in bytes k = record { low = slice_index bytes (2 * k); high = slice_index bytes (2 * k + 1) }

-- how many of n pairs the bytes have whole
abbrev pub whole_pairs : ℕ → List ℕ → ℕ
whole_pairs n bytes = min n (length bytes / 2)

-- these pairs
abbrev pub pairs_in : ℕ → List ℕ → List Diagonal
pairs_in n bytes = map (pair_in bytes) (range_with_len 0 (whole_pairs n bytes))

-- the refusal of a surface whose count stands at this offset
abbrev pub surface_refusal : ℕ → SurfaceFault → Refusal
surface_refusal start fault.CountOutside = CountOutside start
surface_refusal start (fault.NotDiagonal k) = NotDiagonal k
surface_refusal start (fault.Crosses k) = Crosses k

abbrev pub refused_by : {Y : Type 0} → ℕ → Option SurfaceFault → Result Y Refusal → Result Y Refusal
refused_by start None r = r
refused_by start (Some fault) r = Err (surface_refusal start fault)

-- the n - 3 diagonals of a polygon: read from left to right, so that a fault of one comes before the want of a later one
abbrev pub polygon_at : (start n : ℕ) → Position → Result (Triangulation × Position) Refusal
polygon_at start n p =
    refused_by start (first_fault n (pairs_in (n - 3) p.rest))
    (refused_if (nat_lt (length p.rest) (2 * (n - 3))) (EndsEarly p.size)
    (Ok (polygon n (pairs_in (n - 3) p.rest), past (2 * (n - 3)) p)))

-- The surface: its count, its mark, and what follows for that mark. Hex 50 marks a polygon of so many corners, hex 54 a torus of
-- so many punctures.
abbrev pub surface_at : Position → Result (Triangulation × Position) Refusal
surface_at p =
    and_then (count_at p) (λ n. and_then (mark_at n.1) (λ m.
    if m.0 == 0x50 then refused_if (outside 3 33 n.0) (CountOutside (offset p)) (polygon_at (offset p) n.0 m.1)
    else (if m.0 == 0x54 then refused_if (outside 1 21 n.0) (CountOutside (offset p)) (Ok (torus n.0, m.1))
    else Err (UnknownMark (offset n.1)))))

-- a section of records of so many bytes, passed over unjudged
abbrev pub passed_at : ℕ → Position → Result (ℕ × Position) Refusal
passed_at width p = and_then (count_at p) (λ n. whole (n.0 * width) (λ bytes. Ok n.0) n.1)

-- the head of the values: their count and the mark of their kind
abbrev pub values_head_at : Position → Result (ValuesHead × Position) Refusal
values_head_at p = and_then (count_at p) (λ n. and_then (mark_at n.1) (λ m. Ok (record { count = n.0; mark = m.0; offset = offset n.1 }, m.1)))

-- the count of a walk's steps, at most 256
abbrev pub walk_count_at : Position → Result (ℕ × Position) Refusal
walk_count_at p = and_then (count_at p) (λ n. refused_if (nat_lt 256 n.0) (CountOutside (offset p)) (Ok n))
