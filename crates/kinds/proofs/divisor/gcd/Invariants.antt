use Rattle.std.proofs.Common.{ℕ}
use Rattle.std.specs.Int.{IsGcd}
use Rattle.kinds.proofs.divisor.gcd.Given as goal

-- the common divisors stay the same
abbrev pub invariant-loop-b : goal.invariant-loop-b
invariant-loop-b l = (g : ℕ) → IsGcd l.a l.b g → IsGcd l.initial.a l.initial.b g

abbrev pub decreases-loop-b : goal.decreases-loop-b
decreases-loop-b l = l.b
