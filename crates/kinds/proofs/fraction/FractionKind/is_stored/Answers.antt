use Rattle.std.proofs.Common.{rules}
use Rattle.kinds.specs.Lowered.{coprime_decided}
use Rattle.kinds.proofs.fraction.FractionKind.is_stored.Goals as goal

pub returns-then-self-le-LARGEST-2 : goal.returns-then-self-le-LARGEST-2
returns-then-self-le-LARGEST-2 c =
    let both = coprime_decided c.args.self.numerator c.args.self.denominator c.gcd.result c.gcd.ensures in (
      λ e. record { numerator_from = search rules; numerator_to = search rules; denominator_from = search rules; denominator_to = search rules; coprime = both.0 e },
      λ h. both.1 h.coprime,
    )
