-- What a polygon of the code means, and what making one answers.
use Rattle.std.specs.Prelude.{◌≡◌, ℕ, ◌-◌, List, take, Some, None, Ok, Err, Result}
use Rattle.triangulations.specs.Triangulations.{Triangulation}
use Rattle.surfaces.specs.declared.faults.SurfaceFault.{SurfaceFault}
use Rattle.polygon_counting.specs.declared.diagonal.Diagonal.{Diagonal}
use Rattle.polygon_counting.specs.Polygons.{polygon}
use Rattle.polygon_counting.specs.Theorem.{Triangulated}
use Rattle.polygons.specs.declared.polygon.Polygon.{Polygon}
use Rattle.polygons.specs.Judging.{polygon_fault}

-- the diagonals in use: three fewer than corners
abbrev pub cut_by : Polygon → List Diagonal
cut_by p = take (p.corners - 3) p.diagonals

abbrev pub triangulation_of : Polygon → Triangulation
triangulation_of p = polygon p.corners (cut_by p)

-- n corners and the diagonals ds have no fault, p is the polygon that has them, and it is cut into triangles
pub record IsPolygon (n : ℕ) (ds : List Diagonal) (p : Polygon) : Type 0 where
  pub faultless : polygon_fault n ds ≡ None
  pub corners : p.corners ≡ n
  pub diagonals : cut_by p ≡ ds
  pub triangulated : Triangulated n ds

-- what is answered to n corners and the diagonals ds: their polygon, or their fault
abbrev pub Made : ℕ → List Diagonal → Result Polygon SurfaceFault → Type 0
Made n ds (Ok p) = IsPolygon n ds p
Made n ds (Err e) = polygon_fault n ds ≡ Some e
