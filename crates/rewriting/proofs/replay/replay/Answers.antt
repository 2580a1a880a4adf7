use Rattle.std.proofs.Common.{is_ok, map, sym, ap, ◌∙◌, arith, rules}
use Rattle.triangulations.specs.Meaning.{meant}
use Rattle.triangulations.specs.Boards.{on}
use Rattle.relations.proofs.Beginnings.{none_illegal}
use Rattle.rewriting.specs.Replays.{told}
use Rattle.rewriting.proofs.Replaying.{walked_more, stopped, walked_all, all_reached, meant_at, meant_length}
use Rattle.rewriting.proofs.replay.replay.Goals as goal

pub loop-i-preserved : goal.loop-i-preserved
loop-i-preserved c =
    let steps = c.args.steps.now in
    let i = c.loop-i.i-counter in
    let e = c.step.ensures in
    walked_more (map meant steps) (on c.args.board.now) (on c.loop-i.board) i _ (omega (arith, meant_length steps)) (meant_at steps i _ c.loop-i-test.true) c.loop-i.invariant
    (on c.step.new.self) _ e.legal e.moved (sym c.map_err.ensures.variant ∙ ap is_ok c.in_ok-map_err.was)

pub returns-in_err-map_err : goal.returns-in_err-map_err
returns-in_err-map_err c =
    let steps = c.args.steps.now in
    let i = c.loop-i.i-counter in
    let e = c.step.ensures in
    let stop = stopped (map meant steps) (on c.args.board.now) (on c.loop-i.board) i _ (omega (arith, meant_length steps)) (meant_at steps i _ c.loop-i-test.true) c.loop-i.invariant
    (on c.step.new.self) _ e.legal e.moved (sym c.map_err.ensures.variant ∙ ap is_ok c.in_err-map_err.was) in
    record { illegal = search rules ∙ ap told stop.illegal; reached = stop.reached }

pub returns : goal.returns
returns c =
    let steps = c.args.steps.now in
    let all = walked_all (map meant steps) (on c.args.board.now) (on c.loop-i.board) c.loop-i.i-counter (omega (arith, meant_length steps)) c.loop-i.invariant in
    record { illegal = ap told (sym (none_illegal (map meant steps) (on c.args.board.now) all.legal)); reached = all_reached (map meant steps) (on c.args.board.now) (on c.loop-i.board) all }
