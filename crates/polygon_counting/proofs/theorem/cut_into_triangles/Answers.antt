use Rattle.polygon_counting.proofs.Laws.{cut_into_triangles}
use Rattle.polygon_counting.proofs.theorem.cut_into_triangles.Goals as goal

pub returns : goal.returns
returns c = cut_into_triangles
