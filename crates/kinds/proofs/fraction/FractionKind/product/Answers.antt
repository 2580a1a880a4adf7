use Rattle.std.proofs.Common.{mul-pos}
use Rattle.kinds.specs.Lowered.{fractions_lawful, product_over}
use Rattle.numbers.proofs.Answered.{answers_same}
use Rattle.kinds.proofs.fraction.FractionKind.product.Goals as goal

pub returns : goal.returns
returns c h k =
    let p = c.args.self in
    let r = c.args.other in
    answers_same fractions_lawful c.reduced.result
    (product_over p.numerator p.denominator r.numerator r.denominator h.numerator_from h.denominator_from k.numerator_from k.denominator_from)
    (c.reduced.ensures (mul-pos h.numerator_from k.numerator_from) (mul-pos h.denominator_from k.denominator_from))
