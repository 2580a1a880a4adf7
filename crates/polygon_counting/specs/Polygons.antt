-- A polygon with the corners 0, 1, .., n - 1, counterclockwise, cut along diagonals. Edge i below n is the side from corner i to the
-- next; its even dart runs that way and is inside, and its odd dart lies outside. Diagonal k is edge n + k; its even dart runs from
-- its smaller corner, its odd dart from its larger.
use Rattle.std.specs.Prelude.{ℕ, zero, suc, ◌+◌, ◌-◌, ◌*◌, ◌%◌, Bool, cond, ◌&&◌, ◌||◌, List, length, is_some, Some, None, Option, ◌==◌, nat_lt}
use Rattle.std.specs.Option.{option_or, option_and_then}
use Rattle.std.specs.List.{position}
use Rattle.triangulations.specs.Triangulations.{Triangulation, edge_of}
use Rattle.polygon_counting.specs.declared.diagonal.Diagonal.{Diagonal}
use Rattle.polygon_counting.specs.Diagonals.{at}

-- the first of f 0, f 1, .., f (n - 1) that there is
abbrev pub first_some : {A : Type 0} → ℕ → (ℕ → Option A) → Option A
first_some zero f = None
first_some (suc n) f = option_or (first_some n f) (f n)

-- the least number below n that passes the test, where one does
unfoldable pub first_below : ℕ → (ℕ → Bool) → Option ℕ
first_below n p = first_some n (λ k. cond (p k) (Some k) None)

-- the corner after corner i
abbrev pub onward : ℕ → ℕ → ℕ
onward n i = cond (i + 1 == n) 0 (i + 1)

-- whether w is met strictly between v and u, going counterclockwise from v
abbrev pub between : ℕ → ℕ → ℕ → Bool
between v w u = cond (nat_lt v u) (nat_lt v w && nat_lt w u) (nat_lt v w || nat_lt w u)

-- whether a diagonal joins u and v
abbrev pub joins : ℕ → ℕ → Diagonal → Bool
joins u v a = (a.low == u && a.high == v) || (a.low == v && a.high == u)

-- the dart of diagonal k that runs from u to v: the even one where u is the smaller
abbrev pub diagonal_dart : ℕ → ℕ → ℕ → ℕ → ℕ
diagonal_dart n u v k = 2 * (n + k) + cond (nat_lt u v) 0 1

-- the inside dart from corner u to corner v, where there is one
unfoldable pub dart_to : ℕ → List Diagonal → ℕ → ℕ → Option ℕ
dart_to n ds u v =
    cond (v == onward n u) (Some (2 * u))
    (option_and_then (λ k. Some (diagonal_dart n u v k)) (position (joins u v) ds))

-- whether an inside dart runs from u to v
abbrev pub joined : ℕ → List Diagonal → ℕ → ℕ → Bool
joined n ds u v = is_some (dart_to n ds u v)

-- whether w closes a triangle on the left of the dart from u to v: it is joined to both and met going counterclockwise from v to u
abbrev pub closes : ℕ → List Diagonal → ℕ → ℕ → ℕ → Bool
closes n ds u v w = between v w u && (joined n ds v w && joined n ds w u)

-- the first corner that does
unfoldable pub apex : ℕ → List Diagonal → ℕ → ℕ → Option ℕ
apex n ds u v = first_below n (closes n ds u v)

-- the dart that follows the one from u to v
abbrev pub following : ℕ → List Diagonal → ℕ → ℕ → Option ℕ
following n ds u v = option_and_then (dart_to n ds v) (apex n ds u v)

-- the corners from and to which the dart of side i runs, where it is the even one
abbrev pub side_ends : ℕ → ℕ → Bool → Option (ℕ × ℕ)
side_ends n i even = cond even (Some (i, onward n i)) None

-- those of the even or the odd dart of a diagonal
abbrev pub diagonal_ends : Diagonal → Bool → ℕ × ℕ
diagonal_ends a even = cond even (a.low, a.high) (a.high, a.low)

-- the corners from and to which an inside dart runs
unfoldable pub ends : ℕ → List Diagonal → ℕ → Option (ℕ × ℕ)
ends n ds d =
    cond (nat_lt (edge_of d) n) (side_ends n (edge_of d) (d % 2 == 0))
    (cond (nat_lt (edge_of d) (n + length ds)) (Some (diagonal_ends (at ds (edge_of d - n)) (d % 2 == 0))) None)

-- the dart that follows d, where d is inside
unfoldable pub polygon_next : ℕ → List Diagonal → ℕ → Option ℕ
polygon_next n ds d = option_and_then (λ e. following n ds e.0 e.1) (ends n ds d)

abbrev pub polygon : ℕ → List Diagonal → Triangulation
polygon n ds = record { edges = n + length ds; next = polygon_next n ds }
