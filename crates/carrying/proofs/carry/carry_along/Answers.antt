use Rattle.std.proofs.Common.{◌≡◌, map}
use Rattle.std.proofs.lemmas.Option.{slice_get-get_or}
use Rattle.std.proofs.lemmas.Result.{err_from_is_err_and}
use Rattle.triangulations.specs.Meaning.{meant}
use Rattle.triangulations.specs.Boards.{on}
use Rattle.walks.proofs.Moves.{nth_meant}
use Rattle.carrying.proofs.Going.{going_count, going_more, going_refused}
use Rattle.carrying.proofs.carry.carry_along.Goals as goal

pub returns-in_err-carry_step : goal.returns-in_err-carry_step
returns-in_err-carry_step g c =
    let steps = c.args.steps.now in
    let k = c.loop-k.k in
    let there = nth_meant steps k _ (slice_get-get_or steps k _ c.loop-k-test.true) in
    let p = err_from_is_err_and {Q = λ y. y ≡ c.in_err-carry_step.field-0.0} c.from_residual.result c.from_residual.ensures.1 in
    let count = going_count g.K.Kind.numbers (map meant steps) (on c.args.board.now) c.args.rows.now k (on c.loop-k.board) c.loop-k.rows c.loop-k.invariant in
    rw (p.1, p.2)
    (going_refused g.K.Kind.numbers (map meant steps) (on c.args.board.now) c.args.rows.now k (on c.loop-k.board) c.loop-k.rows c.loop-k.invariant _ there
    (on c.carry_step.new.board) c.carry_step.new.rows c.in_err-carry_step.field-0.0 (c.in_err-carry_step.ensures.stepped count))

pub loop-k-preserved : goal.loop-k-preserved
loop-k-preserved g c =
    let steps = c.args.steps.now in
    let k = c.loop-k.k in
    let there = nth_meant steps k _ (slice_get-get_or steps k _ c.loop-k-test.true) in
    let count = going_count g.K.Kind.numbers (map meant steps) (on c.args.board.now) c.args.rows.now k (on c.loop-k.board) c.loop-k.rows c.loop-k.invariant in
    going_more g.K.Kind.numbers (map meant steps) (on c.args.board.now) c.args.rows.now k (on c.loop-k.board) c.loop-k.rows c.loop-k.invariant _ there
    (on c.carry_step.new.board) c.carry_step.new.rows (c.in_ok-carry_step.ensures.stepped count)
