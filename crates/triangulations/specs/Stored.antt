-- Triangulations stored as lists of followers, and the laws as a test of such a list.
use Rattle.std.specs.Prelude.{ℕ, zero, suc, ◌+◌, ◌*◌, ◌<◌, Bool, true, not, ◌&&◌, ◌||◌, List, length, Some, None, Option, ◌==◌, nat_lt, slice_index, slice_index_or, slice_set}
use Rattle.triangulations.specs.Triangulations.{Table, Triangulation, after, inside}

-- the table that a list stores: its entry d is the dart that follows d
abbrev pub table_of : List (Option ℕ) → Table
table_of xs d = slice_index_or xs d None

-- the triangulation of n edges that a list stores
abbrev pub stored : ℕ → List (Option ℕ) → Triangulation
stored n xs = record { edges = n; next = table_of xs }

-- a list of three darts, all below n
abbrev pub Within : ℕ → List ℕ → Type 0
Within n xs = (slice_index xs 0 < n) × (slice_index xs 1 < n) × (slice_index xs 2 < n)

-- the list with a triangle x, y, z written into it
abbrev pub written : (x y z : ℕ) → List (Option ℕ) → List (Option ℕ)
written x y z xs = slice_set (slice_set (slice_set xs z (Some x)) y (Some z)) x (Some y)

-- whether p holds of each number below n
abbrev pub all_below : ℕ → (ℕ → Bool) → Bool
all_below zero p = true
all_below (suc n) p = p n && all_below n p

-- whether only a dart of the n edges has a follower
abbrev pub within : ℕ → ℕ → Option ℕ → Bool
within n d None = true
within n d (Some a) = nat_lt d (2 * n)

-- whether the follower a of d is inside, is not d, and leads back to d
abbrev pub turns_back : Table → ℕ → Option ℕ → Bool
turns_back t d None = true
turns_back t d (Some a) = inside t a && (not (a == d) && after t (after t a) == d)

-- whether a dart of e is inside
abbrev pub covers : Table → ℕ → Bool
covers t e = inside t (2 * e) || inside t (2 * e + 1)

abbrev pub lawful_test : ℕ → Table → Bool
lawful_test n t = all_below (2 * n) (λ d. turns_back t d (t d)) && all_below n (covers t)

-- whether the triangulation of n edges that a list stores is lawful
unfoldable pub lawful_list : ℕ → List (Option ℕ) → Bool
lawful_list n xs = all_below (length xs) (λ d. within n d (table_of xs d)) && lawful_test n (table_of xs)
