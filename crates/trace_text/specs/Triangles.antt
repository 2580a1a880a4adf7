-- The triangle of a dart, as it is listed: its darts in following order, the smallest first.
use Rattle.std.specs.Prelude.{ℕ, ◌+◌, ◌*◌, if◌then◌else◌, ◌&&◌, Option, option_map, option_and_then, nat_lt}
use Rattle.triangulations.specs.Triangulations.{Table}
use Rattle.trace_text.specs.declared.triangles.Triangle.{Triangle}

abbrev pub smallest_first : (x y z : ℕ) → Triangle
smallest_first x y z =
    if nat_lt x y && nat_lt x z then record { first = x; second = y; third = z }
    else (if nat_lt y z then record { first = y; second = z; third = x }
    else record { first = z; second = x; third = y })

-- none for a dart that lies outside or does not exist
abbrev pub triangle_of : Table → ℕ → Option Triangle
triangle_of t d = option_and_then (λ a. option_map (smallest_first d a) (t a)) (t d)

-- two triangles, the one with the smaller dart first
abbrev pub rising : Triangle → Triangle → Triangle × Triangle
rising a b = if nat_lt a.first b.first then (a, b) else (b, a)

-- the triangles of the two darts of an edge, rising; none where one of them lies outside or does not exist
abbrev pub triangles_at : Table → ℕ → Option (Triangle × Triangle)
triangles_at t e = option_and_then (λ a. option_map (rising a) (triangle_of t (2 * e + 1))) (triangle_of t (2 * e))
