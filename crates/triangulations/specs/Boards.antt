-- The triangulation on a board.
use Rattle.std.specs.Prelude.{ℕ, ◌+◌, ◌*◌}
use Rattle.triangulations.specs.Triangulations.{Triangulation, Table, after}
use Rattle.triangulations.specs.Stored.{table_of, stored}
use Rattle.triangulations.specs.declared.board.Board.{Board}
use Rattle.triangulations.specs.declared.quadrilateral.Quadrilateral.{Quadrilateral}

abbrev pub table : Board → Table
table b = table_of b.table.next

abbrev pub on : Board → Triangulation
on b = stored b.table.edges b.table.next

-- the two triangles at an edge that can be flipped
abbrev pub around : Table → ℕ → Quadrilateral
around t e = record {
  d = 2 * e;
  a = after t (2 * e);
  b = after t (after t (2 * e));
  p = 2 * e + 1;
  c = after t (2 * e + 1);
  g = after t (after t (2 * e + 1));
}
