use Rattle.std.proofs.Common.{length, ap, ◌∙◌, rules}
use Rattle.polygon_counting.proofs.Searching.{told_first}
use Rattle.polygons.specs.Judging.{diagonal_fault, first_fault, told}
use Rattle.polygons.proofs.Mapping.{first_mapped}
use Rattle.polygons.proofs.judging.Cut.judge.Goals as goal

pub returns : goal.returns
unfolding first_fault
returns c =
    let ds = c.args.self.now.diagonals.now in
    let fault = diagonal_fault c.args.self.now.corners ds in
    let first = told_first (length ds) fault _ (first_mapped fault (length ds) _ c.find_map.result c.find_map.ensures.runs (cc) (λ x b q k. search rules)) in
    search rules ∙ ap told first
