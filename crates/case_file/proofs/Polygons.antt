-- A polygon that was read whole.
use Rattle.std.proofs.Common.{◌≡◌, ℕ, ◌-◌, ◌*◌, ◌≤◌, true, List, length, drop, Some, None, Ok, Err, Option, Result, is_ok, MatchResult, sym, refl, ap, ◌∙◌, arith, subst}
use Rattle.std.proofs.lemmas.Bool.{le-ltb}
use Rattle.std.proofs.lemmas.List.FromFn.{length-map-range_with_len}
use Rattle.triangulations.specs.Triangulations.{Triangulation}
use Rattle.surfaces.specs.declared.faults.SurfaceFault.{SurfaceFault}
use Rattle.polygon_counting.specs.declared.diagonal.Diagonal.{Diagonal}
use Rattle.polygon_counting.specs.Polygons.{polygon}
use Rattle.polygons.specs.declared.polygon.Polygon.{Polygon}
use Rattle.polygons.specs.Judging.{first_fault, told}
use Rattle.polygons.specs.Meaning.{triangulation_of, Made}
use Rattle.case_file.specs.declared.refusal.Refusal.{Refusal}
use Rattle.case_file.specs.declared.refusal.Refusal.TheVariants.{EndsEarly}
use Rattle.case_file.specs.Reading.{Position, Gives, refused_if}
use Rattle.case_file.specs.Sections.{pair_in, whole_pairs, pairs_in, refused_by, polygon_at}

-- where an answer without an error tells the first fault, there is none
pub faultless : (o : Option SurfaceFault) (r : Result (Unit {0}) SurfaceFault) → r ≡ told o → is_ok r ≡ true → o ≡ None
faultless None r e t = refl
faultless (Some fault) r e t = absurd (cc (e, t))

-- what such bytes spell, where the diagonals ds have no fault and the bytes of all of them are there
pub polygon_spelt : (start n : ℕ) (p : Position) (ds : List Diagonal) (t : Triangulation) (rest : List ℕ)
    → ds ≡ pairs_in (n - 3) p.rest → first_fault n ds ≡ None → 2 * (n - 3) ≤ length p.rest → polygon n ds ≡ t → drop (2 * (n - 3)) p.rest ≡ rest
    → polygon_at start n p ≡ Ok (t, record { size = p.size; rest = rest })
polygon_spelt start n p ds t rest is none enough means left =
    (λ i. refused_by start ((ap (first_fault n) (sym is) ∙ none) i)
    (refused_if (le-ltb (length p.rest) (2 * (n - 3)) enough i) (EndsEarly p.size)
    (Ok ((ap (polygon n) (sym is) ∙ means) i, record { size = p.size; rest = left i }))))

-- what is answered, r, where the diagonals ds have no fault and the bytes of all of them are there
pub polygon_read : (start n : ℕ) (p : Position) (ds : List Diagonal) (rest : List ℕ) (new : Result Polygon SurfaceFault) (r : Result Polygon Refusal) (Q : SurfaceFault → Type 0)
    → ds ≡ pairs_in (n - 3) p.rest → first_fault n ds ≡ None → 3 ≤ n → n ≤ 33 → 2 * (n - 3) ≤ length p.rest → drop (2 * (n - 3)) p.rest ≡ rest
    → Made n ds new → MatchResult new (λ x. r ≡ Ok x) Q
    → Gives triangulation_of r (record { size = p.size; rest = rest }) (polygon_at start n p)
polygon_read start n p ds rest (Ok made) r Q is none least most enough left h e =
    let P : Result Polygon Refusal → Type 0 = λ x. Gives triangulation_of x (record { size = p.size; rest = rest }) (polygon_at start n p) in
    subst P (sym e) (polygon_spelt start n p ds _ rest is none enough (λ j. polygon (sym h.corners j) (sym h.diagonals j)) left)
polygon_read start n p ds rest (Err fault) r Q is none least most enough left h e =
    let many : length ds ≡ whole_pairs (n - 3) p.rest = ap length is ∙ length-map-range_with_len (pair_in p.rest) 0 (whole_pairs (n - 3) p.rest) in
    let all : length ds ≡ n - 3 = omega arith in
    grind arith
