use Rattle.std.proofs.Common.{◌<◌, length, sym, ◌∙◌, is_ok, arith, rules}
use Rattle.std.proofs.lemmas.Result.{err_from_is_err_and}
use Rattle.triangulations.specs.Steps.{flip_step}
use Rattle.triangulations.specs.Meaning.{direction}
use Rattle.triangulations.specs.Boards.{on}
use Rattle.carrying.proofs.Ends.{can, edge_below, within, sides_stand}
use Rattle.triangulations.proofs.Moved.{flip_legal}
use Rattle.carrying.proofs.Flipping.{moved_by, flips_row, flip_stepped, flip_refused}
use Rattle.carrying.proofs.carry.carry_flip.Goals as goal

pub sides_in-requires : goal.sides_in-requires
sides_in-requires g c = within c.args.board.now c.args.flip.edge c.in_ok-around.around (sym c.around.ensures ∙ c.in_ok-around.ensures.ok_part) _ c.requires

pub returns-in_err-value-clause-stepped : goal.returns-in_err-value-clause-stepped
returns-in_err-value-clause-stepped g c =
    let x = c.args.board.now in
    let w = direction c.args.flip.side in
    let e = c.args.flip.edge in
    let q = c.in_ok-around.around in
    let given = sym c.around.ensures ∙ c.in_ok-around.ensures.ok_part in
    let lawful = g.met.K.Kind.lawful in
    let p = err_from_is_err_and c.from_residual-in_err-value.result c.from_residual-in_err-value.ensures.1 in
    let row = flips_row lawful c.sides_in.result c.args.k (on x) e c.args.rows.now _ c.in_err-value.ensures (sides_stand x e q given lawful c.args.rows.now c.sides_in.result c.sides_in.ensures) in
    rw (p.1, p.2) (flip_refused w c.args.k e (on x) c.args.rows.now c.in_err-value.field-0.0 (flip_legal w e (on x) (can x e q given)) row)

pub offset_bounds-rows-flip : goal.offset_bounds-rows-flip
offset_bounds-rows-flip g c =
    let low = edge_below c.args.board.now c.args.flip.edge c.in_ok-around.around (sym c.around.ensures ∙ c.in_ok-around.ensures.ok_part) in
    let h : c.args.flip.edge < length c.args.rows.now = omega arith in
    search rules

pub bounds-rows-flip : goal.bounds-rows-flip
bounds-rows-flip g c =
    let low = edge_below c.args.board.now c.args.flip.edge c.in_ok-around.around (sym c.around.ensures ∙ c.in_ok-around.ensures.ok_part) in
    omega arith

pub returns-clause-stepped : goal.returns-clause-stepped
returns-clause-stepped g c =
    let x = c.args.board.now in
    let w = direction c.args.flip.side in
    let e = c.args.flip.edge in
    let q = c.in_ok-around.around in
    let given = sym c.around.ensures ∙ c.in_ok-around.ensures.ok_part in
    let lawful = g.met.K.Kind.lawful in
    let legal = flip_legal w e (on x) (can x e q given) in
    let moved = moved_by (flip_step w e) (on x) (on c.step.new.self) (is_ok c.step.result) c.step.ensures.legal c.step.ensures.moved legal in
    let row = flips_row lawful c.sides_in.result c.args.k (on x) e c.args.rows.now _ c.in_ok-value.ensures (sides_stand x e q given lawful c.args.rows.now c.sides_in.result c.sides_in.ensures) in
    flip_stepped w c.args.k e (on x) (on c.step.new.self) c.args.rows.now c.in_ok-value.value legal moved (edge_below x e q given) row
