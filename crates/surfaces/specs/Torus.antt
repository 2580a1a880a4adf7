-- The torus with m punctures in a ring, cut into two triangles for each. Cell j, counted modulo m, owns the edges 3 j, 3 j + 1 and
-- 3 j + 2, called h, v and g, and so the darts 6 j to 6 j + 5: even h, odd h, even v, odd v, even g, odd g.
use Rattle.std.specs.Prelude.{ℕ, ◌+◌, ◌-◌, ◌*◌, ◌/◌, ◌%◌, cond, Some, None, Option, ◌==◌, nat_lt}
use Rattle.triangulations.specs.Triangulations.{Triangulation}

-- the cells after and before cell j in the ring
abbrev pub ahead : ℕ → ℕ → ℕ
ahead m j = cond (j + 1 == m) 0 (j + 1)

abbrev pub behind : ℕ → ℕ → ℕ
behind m j = cond (j == 0) (m - 1) (j - 1)

-- The triangles of cell j, counterclockwise, are even h, even v of the cell after it, odd g; and even g, odd h, odd v.
-- So this follows its dart r:
abbrev pub in_cell : ℕ → ℕ → ℕ → ℕ
in_cell m j r =
    cond (r == 0) (6 * ahead m j + 2)
    (cond (r == 1) (6 * j + 3)
    (cond (r == 2) (6 * behind m j + 5)
    (cond (r == 3) (6 * j + 4)
    (cond (r == 4) (6 * j + 1)
    (6 * j)))))

abbrev pub torus_next : ℕ → ℕ → Option ℕ
torus_next m d = cond (nat_lt d (6 * m)) (Some (in_cell m (d / 6) (d % 6))) None

abbrev pub torus : ℕ → Triangulation
torus m = record { edges = 3 * m; next = torus_next m }
