-- Which polygons are made, and why others are refused.
use Rattle.std.specs.Prelude.{◌≡◌, ℕ, ◌+◌, ◌-◌, ◌≤◌, Bool, cond, not, ◌&&◌, List, length, take, Some, None, Ok, Err, Option, Result, ◌==◌, nat_le}
use Rattle.std.specs.List.{list_all}
use Rattle.surfaces.specs.declared.faults.SurfaceFault.{SurfaceFault}
use Rattle.surfaces.specs.declared.faults.SurfaceFault.TheVariants.{CountOutside, NotDiagonal, Crosses}
use Rattle.polygon_counting.specs.declared.diagonal.Diagonal.{Diagonal}
use Rattle.polygon_counting.specs.Diagonals.{at, proper, clashes, Uncrossed}
use Rattle.polygon_counting.specs.Polygons.{first_some}

-- what makes a polygon of n corners that the diagonals ds cut into triangles
pub record Admitted (n : ℕ) (ds : List Diagonal) : Type 0 where
  pub least : 3 ≤ n
  pub most : n ≤ 33
  pub full : n ≡ length ds + 3
  pub uncrossed : Uncrossed n ds

-- whether diagonal k neither crosses nor repeats an earlier one
abbrev pub clear : List Diagonal → ℕ → Bool
clear ds k = list_all (λ earlier. not (clashes (at ds k) earlier)) (take k ds)

-- the fault of diagonal k of the polygon with n corners, where it has one
abbrev pub diagonal_fault : ℕ → List Diagonal → ℕ → Option SurfaceFault
diagonal_fault n ds k = cond (proper n (at ds k)) (cond (clear ds k) None (Some (Crosses k))) (Some (NotDiagonal k))

-- the first fault of the diagonals, in their order
unfoldable pub first_fault : ℕ → List Diagonal → Option SurfaceFault
first_fault n ds = first_some (length ds) (diagonal_fault n ds)

-- it as an answer: `Ok` where there is none
abbrev pub told : Option SurfaceFault → Result (Unit {0}) SurfaceFault
told None = Ok tt
told (Some fault) = Err fault

-- whether there are from 3 to 33 corners, and three diagonals fewer
abbrev pub counts_fit : (corners diagonals : ℕ) → Bool
counts_fit n m = (nat_le 3 n && nat_le n 33) && m == n - 3

-- why n corners and the diagonals ds make no polygon, where they make none
abbrev pub polygon_fault : ℕ → List Diagonal → Option SurfaceFault
polygon_fault n ds = cond (counts_fit n (length ds)) (first_fault n ds) (Some CountOutside)
