-- Worked walks on a pentagon, which hold by evaluation.
use Rattle.std.specs.Prelude.{◌≡◌, List, [], ◌∷◌}
use Rattle.triangulations.specs.Triangulations.{Triangulation}
use Rattle.triangulations.specs.Steps.{Step, L, T, S, Legal, leads}
use Rattle.polygon_counting.specs.Polygons.{polygon}

-- the pentagon with the diagonals 0–2 and 0–3, which are the edges 5 and 6
abbrev pub pentagon : Triangulation
pentagon = polygon 5 (record { low = 0; high = 2 } ∷ record { low = 0; high = 3 } ∷ [])

-- the pentagon after T(5)
abbrev pub turned_pentagon : Triangulation
turned_pentagon = leads (T 5 ∷ []) pentagon

-- both walks are legal on t and lead to one triangulation
pub record Meet (t : Triangulation) (w w' : List Step) : Type 0 where
  pub legal : Legal w t
  pub other_legal : Legal w' t
  pub one_end : leads w t ≡ leads w' t

-- five left flips, of the two diagonals in turn, are a swap and turns; which turns depends on the directions of the diagonals and on
-- which is flipped first
pub record PentagonWalks : Type 0 where
  pub from_five : Meet pentagon (L 5 ∷ L 6 ∷ L 5 ∷ L 6 ∷ L 5 ∷ []) (S 5 6 ∷ T 5 ∷ T 6 ∷ [])
  pub from_five_turned : Meet turned_pentagon (L 5 ∷ L 6 ∷ L 5 ∷ L 6 ∷ L 5 ∷ []) (S 5 6 ∷ [])
  pub from_six : Meet pentagon (L 6 ∷ L 5 ∷ L 6 ∷ L 5 ∷ L 6 ∷ []) (S 5 6 ∷ T 5 ∷ [])
  pub from_six_turned : Meet turned_pentagon (L 6 ∷ L 5 ∷ L 6 ∷ L 5 ∷ L 6 ∷ []) (S 5 6 ∷ T 6 ∷ [])
