use Rattle.std.proofs.Common.{take, set, ap, ◌∙◌, arith}
use Rattle.std.proofs.Math.Seq.{take-set-lt}
use Rattle.walks.specs.Walks.{renamed_named}
use Rattle.walks.proofs.Places.{nth_taken, one_replaced}
use Rattle.walks.proofs.walk.Walk.rename.Goals as goal

pub returns-clause-renamed : goal.returns-clause-renamed
returns-clause-renamed c = λ s p.
    let xs = c.args.self.now.steps in
    let n = c.args.self.now.len in
    let at = c.args.at in
    let new = renamed_named c.args.e c.args.f in
    ap (λ y. take n (set xs at y)) (c.rename_step.ensures ∙ ap new (nth_taken n xs at s _ p))
    ∙ take-set-lt n xs at (new s) (omega arith)
    ∙ one_replaced (take n xs) at s (new s) p
