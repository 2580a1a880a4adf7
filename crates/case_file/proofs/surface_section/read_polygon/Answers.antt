use Rattle.std.proofs.Common.{◌-◌, ◌*◌, is_ok, sym, ap, ◌∙◌, arith}
use Rattle.std.proofs.lemmas.List.{take_rest}
use Rattle.case_file.specs.Reading.{position}
use Rattle.case_file.proofs.Polygons.{faultless, polygon_read}
use Rattle.case_file.proofs.surface_section.read_polygon.Goals as goal

pub returns : goal.returns
returns c =
    let p = position c.args.from.now in
    let n = c.args.corners in
    let ds = c.deref-2.result.now in
    let found = rw c.in_ok-from.ensures.ok_part at c.get.ensures.lookup.0 in
    let same = c.deref.ensures.0 ∙ sym c.deref-2.ensures.0 in
    polygon_read c.args.start n p ds c.in_ok-from.field-0.now c.new.result c.map_err-2.result _ (c.deref-2.ensures.0 ∙ c.pairs_in-diagonals.ensures)
    (faultless _ c.judge_diagonals.result (cc (c.judge_diagonals.ensures.judged (omega arith), same)) (sym c.map_err.ensures.variant ∙ ap is_ok c.in_ok-map_err.was))
    c.requires.0 c.requires.1 found.0 (sym (take_rest p.rest (2 * (n - 3))) ∙ sym found.2) c.new.ensures.made c.map_err-2.ensures.cases
