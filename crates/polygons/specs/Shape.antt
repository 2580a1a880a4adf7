-- What every polygon of the code has.
use Rattle.std.specs.Prelude.{◌≡◌, ℕ, ◌+◌, ◌-◌, ◌<◌, Bool, length, Some}
use Rattle.std.proofs.Common.{arith}
use Rattle.std.proofs.lemmas.List.{length-take-le}
use Rattle.std.specs.List.{position}
use Rattle.std.proofs.lemmas.List.Quantifiers.{position-Some}
use Rattle.surfaces.specs.Surfaces.{Sound}
use Rattle.polygon_counting.specs.declared.diagonal.Diagonal.{Diagonal}
use Rattle.polygon_counting.specs.Diagonals.{Uncrossed}
use Rattle.polygon_counting.specs.Polygons.{ends}
use Rattle.polygon_counting.proofs.Laws.{cut_into_triangles, corners_below}
use Rattle.polygons.specs.declared.polygon.Polygon.{Polygon}
use Rattle.polygons.specs.Meaning.{cut_by, triangulation_of}
use Rattle.polygons.specs.Admission.{uncrossed}

pub cut_length : (p : Polygon) → length (cut_by p) ≡ p.corners - 3
cut_length p = length-take-le (p.corners - 3) p.diagonals (omega (arith, p.room, p.most))

full : (p : Polygon) → p.corners ≡ length (cut_by p) + 3
full p = omega (arith, cut_length p, p.least)

apart : (p : Polygon) → Uncrossed p.corners (cut_by p)
apart p = uncrossed p.corners (cut_by p) p.faultless

pub polygon_sound : (p : Polygon) → Sound (triangulation_of p)
polygon_sound p = record {
  lawful = (cut_into_triangles p.corners (cut_by p) (full p) (apart p)).lawful;
  least = omega (arith, p.least);
  most = omega (arith, cut_length p, p.most);
}

-- the darts run from corner to corner
pub ends_below : (p : Polygon) (d u v : ℕ) → ends p.corners (cut_by p) d ≡ Some (u, v) → (u < p.corners) × (v < p.corners)
ends_below p = corners_below p.corners (cut_by p) (full p) (apart p)

pub found_diagonal : (p : Polygon) (f : Diagonal → Bool) (k : ℕ) → position f (cut_by p) ≡ Some k → k + 3 < p.corners
found_diagonal p f k e = omega (arith, (position-Some f (cut_by p) k (record { low = 0; high = 0 }) e).0, full p)
