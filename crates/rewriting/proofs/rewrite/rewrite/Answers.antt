use Rattle.std.proofs.Common.{◌≡◌, ◌+◌, map, take, Ok, Err, sym, refl, ap, ◌∙◌, arith, rules}
use Rattle.std.proofs.lemmas.List.{length-map}
use Rattle.std.proofs.lemmas.Option.{slice_get-map}
use Rattle.std.proofs.lemmas.Result.{err_from_is_err_and}
use Rattle.triangulations.specs.Steps.{leads}
use Rattle.triangulations.specs.Meaning.{meant}
use Rattle.triangulations.specs.Boards.{on}
use Rattle.rewriting_records.specs.Records.{spelling}
use Rattle.relations.specs.Judging.{first_illegal, change}
use Rattle.walks.specs.Walks.{held, moves}
use Rattle.rewriting.specs.Replays.{told, before}
use Rattle.rewriting.specs.Rewritten.{done}
use Rattle.rewriting.proofs.Edits.{answers_as}
use Rattle.rewriting.proofs.Answering.{beyond, illegal, reached, all_legal, moves_before, reached_there}
use Rattle.rewriting.proofs.rewrite.rewrite.Goals.{In_ok-rewriting, After-steps}
use Rattle.rewriting.proofs.rewrite.rewrite.Goals as goal

spelt : (c : In_ok-rewriting) → Ok c.in_ok-rewriting.rewriting ≡ spelling c.edges.result c.args.asked
spelt c = search rules

front : (c : After-steps) → map meant (take c.args.asked.place c.steps.result.now) ≡ take c.args.asked.place (moves c.args.walk.now)
front c = moves_before c.args.asked.place _ (held c.args.walk.now) c.steps.ensures

pub returns-then-place-len-clause-judged : goal.returns-then-place-len-clause-judged
returns-then-place-len-clause-judged c =
    let t = on c.args.table.now in
    let w = moves c.args.walk.now in
    let l = length-map (held c.args.walk.now) meant in
    (beyond t w c.args.asked c.edges.result c.edges.ensures.value _ (spelt (goal.at.returns-then-place-len-clause-judged c).In_ok-rewriting) (omega arith), refl)

pub returns-in_err-replay-clause-judged : goal.returns-in_err-replay-clause-judged
returns-in_err-replay-clause-judged c =
    let t = on c.args.table.now in
    let w = moves c.args.walk.now in
    let l = length-map (held c.args.walk.now) meant in
    let k = goal.at.returns-in_err-replay-clause-judged c in
    let p = err_from_is_err_and c.from_residual-in_err-replay.result c.from_residual-in_err-replay.ensures.1 in
    let q = illegal t w c.args.asked c.edges.result c.edges.ensures.value _ (spelt k.In_ok-rewriting) (omega arith) c.in_err-replay.field-0.0
    (sym c.in_err-replay.was ∙ c.replay.ensures.illegal ∙ ap (λ u. told (first_illegal u t)) (front k.After-steps)) in
    rw p.1 (q ∙ ap Err (sym p.2), refl)

pub returns-clause-judged : goal.returns-clause-judged
returns-clause-judged c =
    let t = on c.args.table.now in
    let ws = held c.args.walk.now in
    let w = map meant ws in
    let p = c.args.asked.place in
    let r = c.in_ok-rewriting.rewriting in
    let l = length-map ws meant in
    let k = goal.at.returns-clause-judged c in
    let none = all_legal _ (sym c.in_ok-replay.was ∙ c.replay.ensures.illegal ∙ ap (λ u. told (first_illegal u t)) (front k.After-steps)) in
    let there = reached_there (take p w) t _ none (c.replay.ensures.reached ∙ ap (λ u. leads (before (first_illegal u t) u) t) (front k.After-steps)) in
    answers_as _ _ (search rules)
    ((λ i. done p w (change p (there i) r (sym (slice_get-map meant ws p) i) (sym (slice_get-map meant ws (p + 1)) i)))
    ∙ sym (reached t w c.args.asked c.edges.result c.edges.ensures.value r (spelt k.In_ok-rewriting) (omega arith) none))
    c.apply.ensures.1
