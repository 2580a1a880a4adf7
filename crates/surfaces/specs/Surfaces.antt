-- What every surface shows of its triangulation.
use Rattle.std.specs.Prelude.{ℕ, ◌≤◌}
use Rattle.triangulations.specs.Triangulations.{Triangulation, Lawful}
use Rattle.surfaces.specs.declared.faults.SurfaceFault.{SurfaceFault}
use Rattle.surfaces.specs.declared.faults.SurfaceFault.TheVariants.{CountOutside, NotDiagonal, Crosses}

-- it is lawful, and has from 2 to 64 edges
pub record Sound (t : Triangulation) : Type 0 where
  pub lawful : Lawful t
  pub least : 2 ≤ t.edges
  pub most : t.edges ≤ 64

-- the numbers of the refusals
abbrev pub fault_number : SurfaceFault → ℕ
fault_number CountOutside = 4
fault_number (NotDiagonal k) = 8
fault_number (Crosses k) = 9
