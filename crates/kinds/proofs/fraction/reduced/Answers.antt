use Rattle.std.proofs.Common.{arith, rules}
use Rattle.kinds.specs.Common.{gcd_pos}
use Rattle.kinds.specs.Lowered.{reduced_stands, held_reduced}
use Rattle.kinds.proofs.fraction.reduced.Goals as goal
use Rattle.kinds.proofs.fraction.reduced.Goals.{else-numerator-via-then-numerator+else-denominator, else-numerator-via-else-numerator}

pub returns-then-common-eq0 : goal.returns-then-common-eq0
returns-then-common-eq0 c pa pb held = omega (arith, gcd_pos c.args.top c.args.bottom _ pa pb c.gcd-common.ensures)

pub returns-then-denominator : goal.returns-then-denominator
returns-then-denominator c pa pb = reduced_stands c.args.top c.args.bottom c.gcd-common.result pa pb c.gcd-common.ensures (search rules) (search rules)

pub returns-else-numerator : goal.returns-else-numerator
returns-else-numerator c pa pb held =
    let both = held_reduced c.args.top c.args.bottom c.gcd-common.result pa pb c.gcd-common.ensures held in
    elim c.else-numerator.branch [
      | else-numerator-via-then-numerator+else-denominator w ↦ omega (arith, both.1, w.if-denominator)
      | else-numerator-via-else-numerator w ↦ omega (arith, both.0, w.if-numerator)
    ]
