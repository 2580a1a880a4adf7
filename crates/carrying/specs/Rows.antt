-- Rows of numbers, one for each edge, and the exact values for which they stand.
use Rattle.std.specs.Prelude.{◌≡◌, ℕ, ◌<◌, List, map, length, slice_index_or}
use Rattle.std.specs.List.{All}
use Rattle.triangulations.specs.Triangulations.{edge_of}
use Rattle.triangulations.specs.declared.quadrilateral.Quadrilateral.{Quadrilateral}
use Rattle.numbers.specs.Numbers.{Numbers, Stands}
use Rattle.numbers.specs.declared.ptolemy.Sides.{Sides}
use Rattle.relations.specs.Values.{Values}

-- the edges of the darts at a flip are all below n
pub record Within (around : Quadrilateral) (n : ℕ) : Type 0 where
  pub a_below : edge_of around.a < n
  pub b_below : edge_of around.b < n
  pub c_below : edge_of around.c < n
  pub g_below : edge_of around.g < n
  pub d_below : edge_of around.d < n

-- the rows of the edges of these darts
pub record IsSides {N : Type 0} (around : Quadrilateral) (rows : List N) (sides : Sides N) : Type 0 where
  pub a_row : sides.a ≡ slice_index_or rows (edge_of around.a) sides.a
  pub b_row : sides.b ≡ slice_index_or rows (edge_of around.b) sides.b
  pub c_row : sides.c ≡ slice_index_or rows (edge_of around.c) sides.c
  pub g_row : sides.g ≡ slice_index_or rows (edge_of around.g) sides.g
  pub e_row : sides.e ≡ slice_index_or rows (edge_of around.d) sides.e

module _ {N : Type 0} (K : Numbers N) where
  -- the exact value of each row, edge by edge, and the unit past the last row
  abbrev pub worths : List N → Values K.exact
  worths rows k = slice_index_or (map K.value rows) k K.exact.unit

  -- there is a row for each of n edges, and each is a stored number
  pub record Ready (n : ℕ) (rows : List N) : Type 0 where
    pub count : length rows ≡ n
    pub stored : All K.stored rows

  -- there is a row for each of n edges, and each is a stored number of the exact value of its edge
  pub record Standing (n : ℕ) (v : Values K.exact) (rows : List N) : Type 0 where
    pub count : length rows ≡ n
    pub each : (k : ℕ) (d : N) → k < n → Stands K (v k) (slice_index_or rows k d)
