use Rattle.std.proofs.Common.{◌∙◌, ◌-◌, take, arith}
use Rattle.walks.proofs.Cuts.{closed_up}
use Rattle.walks.proofs.walk.Walk.cut.Goals as goal

pub returns-clause-rest : goal.returns-clause-rest
returns-clause-rest c =
    let w = c.args.self.now in
    (λ i. take (c.slide.ensures.len i - c.args.taken) (c.slide.ensures.slid i)) ∙ closed_up w.steps c.args.at w.len c.args.taken (omega arith) (omega arith)
