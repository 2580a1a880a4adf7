use Rattle.std.proofs.Common.{◌≡◌, ◌+◌, get_or, take, set, ap, ◌∙◌, arith}
use Rattle.std.proofs.Math.Seq.{take-set-lt}
use Rattle.walks.proofs.Places.{nth_taken, two_crossed}
use Rattle.walks.proofs.walk.Walk.exchange.Goals as goal

pub returns-clause-exchanged : goal.returns-clause-exchanged
returns-clause-exchanged c = λ a b p q.
    let xs = c.args.self.now.steps in
    let n = c.args.self.now.len in
    let at = c.args.at in
    let u : get_or xs at a ≡ a = nth_taken n xs at a a p in
    let v : get_or xs (at + 1) a ≡ b = nth_taken n xs (at + 1) b a q in
    ap (take n) (c.swap.ensures.by_index.3 a)
    ∙ ap (λ y. take n (set (set xs at y) (at + 1) (get_or xs at a))) v
    ∙ ap (λ y. take n (set (set xs at b) (at + 1) y)) u
    ∙ take-set-lt n (set xs at b) (at + 1) a (omega arith)
    ∙ ap (λ ys. set ys (at + 1) a) (take-set-lt n xs at b (omega arith))
    ∙ two_crossed (take n xs) at a b p q
