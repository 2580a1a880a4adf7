use Rattle.std.proofs.Common.{◌≡◌, ℕ, ◌+◌, ◌*◌, ◌<◌, subst, mul-pos, arith}
use Rattle.numbers.specs.Numbers.{Answers}
use Rattle.kinds.specs.Fractions.{fractions, over}
use Rattle.kinds.specs.Lowered.{fractions_lawful, sum_over}
use Rattle.numbers.proofs.Answered.{answers_same}
use Rattle.kinds.proofs.fraction.FractionKind.sum.Goals as goal

pub returns : goal.returns
returns c h k =
    let p = c.args.self in
    let r = c.args.other in
    let top : c.in_ok-top.top ≡ p.numerator * r.denominator + r.numerator * p.denominator = (rw c.in_ok-top.ensures.ok_part at c.checked_add.ensures).1 in
    let positive : 0 < c.in_ok-top.top = omega (arith, top, mul-pos h.numerator_from k.denominator_from) in
    let P : ℕ → Type 0 = λ t. Answers fractions (over t (p.denominator * r.denominator)) c.reduced.result in
    answers_same fractions_lawful c.reduced.result
    (sum_over p.numerator p.denominator r.numerator r.denominator h.numerator_from h.denominator_from k.numerator_from k.denominator_from)
    (subst P top (c.reduced.ensures positive (mul-pos h.denominator_from k.denominator_from)))
