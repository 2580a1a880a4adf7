-- The diagonals of a polygon with the corners 0, 1, .., n - 1, counterclockwise.
use Rattle.std.specs.Prelude.{◌≡◌, ℕ, ◌+◌, ◌<◌, Bool, true, false, not, ◌&&◌, ◌||◌, List, length, ◌==◌, nat_lt, slice_index_or}
use Rattle.polygon_counting.specs.declared.diagonal.Diagonal.{Diagonal}

-- diagonal k of a list
abbrev pub at : List Diagonal → ℕ → Diagonal
at ds k = slice_index_or ds k (record { low = 0; high = 0 })

-- whether the corners i and j, of which i is the smaller, are neighbours: the last corner and 0 are
abbrev pub neighbours : (n i j : ℕ) → Bool
neighbours n i j = j == i + 1 || (i == 0 && j + 1 == n)

-- whether two corners rise, are below n, and are no neighbours
abbrev pub proper : ℕ → Diagonal → Bool
proper n a = (nat_lt a.low a.high && nat_lt a.high n) && not (neighbours n a.low a.high)

-- whether b starts strictly inside a and ends strictly beyond it
abbrev pub leaves : Diagonal → Diagonal → Bool
leaves a b = (nat_lt a.low b.low && nat_lt b.low a.high) && nat_lt a.high b.high

-- whether two diagonals cross or are one
abbrev pub clashes : Diagonal → Diagonal → Bool
clashes a b = leaves a b || (leaves b a || (a.low == b.low && a.high == b.high))

-- each is a diagonal, and none crosses or repeats an earlier one
pub record Uncrossed (n : ℕ) (ds : List Diagonal) : Type 0 where
  pub diagonals : (k : ℕ) → k < length ds → proper n (at ds k) ≡ true
  pub apart : (j k : ℕ) → j < k → k < length ds → clashes (at ds k) (at ds j) ≡ false
