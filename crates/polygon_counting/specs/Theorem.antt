-- Three diagonals fewer than corners, none of which crosses or repeats another, cut a polygon into triangles.
use Rattle.std.specs.Prelude.{◌≡◌, ℕ, ◌+◌, ◌<◌, true, List, length, Some}
use Rattle.triangulations.specs.Triangulations.{Lawful}
use Rattle.polygon_counting.specs.declared.diagonal.Diagonal.{Diagonal}
use Rattle.polygon_counting.specs.Diagonals.{Uncrossed}
use Rattle.polygon_counting.specs.Polygons.{dart_to, closes, ends, polygon}

-- the inside dart d is followed by a: it runs from a corner u to a corner v, one corner and no other closes the triangle on its left,
-- and a runs from v to that corner
pub record Closed (n : ℕ) (ds : List Diagonal) (d a : ℕ) : Type 0 where
  pub from : ℕ
  pub to : ℕ
  pub corner : ℕ
  pub runs : ends n ds d ≡ Some (from, to)
  pub below : corner < n
  pub closing : closes n ds from to corner ≡ true
  pub only : (w : ℕ) → w < n → closes n ds from to w ≡ true → w ≡ corner
  pub onto : dart_to n ds to corner ≡ Some a

-- the table is lawful, and each inside dart has just one corner that closes its triangle
pub record Triangulated (n : ℕ) (ds : List Diagonal) : Type 0 where
  pub lawful : Lawful (polygon n ds)
  pub closed : (d a : ℕ) → (polygon n ds).next d ≡ Some a → Closed n ds d a

abbrev pub CutIntoTriangles : Type 0
CutIntoTriangles = (n : ℕ) (ds : List Diagonal) → n ≡ length ds + 3 → Uncrossed n ds → Triangulated n ds
