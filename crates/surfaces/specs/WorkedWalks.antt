-- Worked walks, which hold by evaluation.
use Rattle.std.specs.Prelude.{◌≡◌, ℕ, zero, suc, List, [], ◌∷◌, ◌++◌, Some}
use Rattle.triangulations.specs.Triangulations.{Triangulation, after}
use Rattle.triangulations.specs.Steps.{L, Legal, leads}
use Rattle.surfaces.specs.Torus.{torus}

-- x, y, z is a triangle of t
pub record Triangle (t : Triangulation) (x y z : ℕ) : Type 0 where
  pub first : t.next x ≡ Some y
  pub second : t.next y ≡ Some z
  pub third : t.next z ≡ Some x

-- the darts that follow the darts 0 to n - 1
abbrev pub followers : ℕ → Triangulation → List ℕ
followers zero t = []
followers (suc n) t = followers n t ++ (after t.next n ∷ [])

-- on the torus with one puncture, whose triangles are 0, 2, 5 and 4, 1, 3, the walk L(2) is legal and makes 4, 3, 0 and 5, 2, 1
pub record LeftFlipOfTwo : Type 0 where
  pub one_before : Triangle (torus 1) 0 2 5
  pub other_before : Triangle (torus 1) 4 1 3
  pub legal : Legal (L 2 ∷ []) (torus 1)
  pub one_after : Triangle (leads (L 2 ∷ []) (torus 1)) 4 3 0
  pub other_after : Triangle (leads (L 2 ∷ []) (torus 1)) 5 2 1
