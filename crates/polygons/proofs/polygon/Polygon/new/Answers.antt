use Rattle.std.proofs.Common.{ℕ, take, refl, ap, ◌∙◌, arith, rules}
use Rattle.polygon_counting.proofs.Laws.{cut_into_triangles}
use Rattle.polygons.proofs.Admission.{admitted}
use Rattle.polygons.proofs.polygon.Polygon.new.Goals as goal

pub returns-clause-made : goal.returns-clause-made
returns-clause-made c =
    let n = c.args.corners in
    let ds = c.args.diagonals.now in
    let a = admitted n ds (search rules) (search rules) in
    record {
      faultless = search rules;
      corners = refl;
      diagonals = ap (λ (k : ℕ). take k c.table.result) (omega (arith, a.full)) ∙ c.table.ensures.front;
      triangulated = cut_into_triangles n ds a.full a.uncrossed;
    }
