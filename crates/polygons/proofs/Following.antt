-- What follows a dart, by what is known of it; what a search below the count of diagonals finds.
use Rattle.std.proofs.Common.{◌≡◌, ℕ, ◌+◌, ◌<◌, Bool, length, Some, None, Option, ap, ◌∙◌, arith}
use Rattle.std.specs.Option.{option_and_then}
use Rattle.polygon_counting.specs.Polygons.{first_below, dart_to, apex, following, ends, polygon_next}
use Rattle.polygon_counting.proofs.Searching.{found_below}
use Rattle.polygons.specs.declared.polygon.Polygon.{Polygon}
use Rattle.polygons.specs.Meaning.{cut_by}
use Rattle.polygons.specs.Shape.{cut_length}

pub found_number : (p : Polygon) (f : ℕ → Bool) (k : ℕ) → first_below (length (cut_by p)) f ≡ Some k → k + 3 < p.corners
found_number p f k e = omega (arith, found_below (length (cut_by p)) f k e, cut_length p, p.least)

module _ (p : Polygon) (d : ℕ) where
  abbrev then_following : Option (ℕ × ℕ) → Option ℕ
  then_following = option_and_then (λ e. following p.corners (cut_by p) e.0 e.1)

  -- it lies outside
  pub next_outside : ends p.corners (cut_by p) d ≡ None → polygon_next p.corners (cut_by p) d ≡ None
  unfolding polygon_next
  next_outside e = ap then_following e

  -- no corner closes a triangle at it
  pub next_open : (u v : ℕ) → ends p.corners (cut_by p) d ≡ Some (u, v) → apex p.corners (cut_by p) u v ≡ None → polygon_next p.corners (cut_by p) d ≡ None
  unfolding polygon_next
  next_open u v e f = ap then_following e ∙ ap (option_and_then (dart_to p.corners (cut_by p) v)) f

  -- the corner w closes one
  pub next_closed : (u v w : ℕ) → ends p.corners (cut_by p) d ≡ Some (u, v) → apex p.corners (cut_by p) u v ≡ Some w → polygon_next p.corners (cut_by p) d ≡ dart_to p.corners (cut_by p) v w
  unfolding polygon_next
  next_closed u v w e f = ap then_following e ∙ ap (option_and_then (dart_to p.corners (cut_by p) v)) f
