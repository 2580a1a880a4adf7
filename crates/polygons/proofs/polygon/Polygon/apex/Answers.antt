use Rattle.std.proofs.Common.{◌≡◌, true, false, rules}
use Rattle.std.proofs.lemmas.Iterator.{first_from_Range}
use Rattle.polygon_counting.specs.Polygons.{closes, apex}
use Rattle.polygon_counting.proofs.Searching.{range_found}
use Rattle.polygons.specs.Meaning.{cut_by}
use Rattle.polygons.proofs.polygon.Polygon.apex.Goals as goal

pub returns : goal.returns
unfolding apex
returns c =
    let s = c.args.self.now in
    let p = closes s.corners (cut_by s) c.args.u c.args.v in
    range_found s.corners p _ (first_from_Range _ _ _ _ (λ w. p w ≡ true) (λ w. p w ≡ false) c.find.ensures.ran (λ x q k. search rules) (λ x q k. search rules))
