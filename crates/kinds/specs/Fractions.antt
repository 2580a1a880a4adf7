-- Positive fractions, and those that are stored.
use Rattle.std.specs.Prelude.{ℕ, suc, pred, ◌+◌, ◌*◌, ◌/◌, ◌%◌, ◌≤◌, cond, ◌&&◌, List, [], ◌∷◌, ◌++◌, take, drop, Some, None, decimal, Option, nat_le}
use Rattle.std.proofs.Common.{arith}
use Rattle.exact.specs.Models.{Ratio, ratios}
use Rattle.numbers.specs.Numbers.{Numbers}
use Rattle.numbers.specs.Layouts.{Layout, high_first}
use Rattle.kinds.specs.Divisors.{Coprime, euclid}
use Rattle.kinds.specs.declared.fraction.Fraction.{Fraction}

-- 2^31 - 1
abbrev pub largest : ℕ
largest = 2147483647

-- a / b, with 1 in place of 0.
abbrev pub over : ℕ → ℕ → Ratio
over a b = record { top = suc (pred a); bottom = suc (pred b); top_positive = omega arith; bottom_positive = omega arith }

-- Both parts are from 1 to 2^31 - 1, and have no common factor.
pub record Lowest (f : Fraction) : Type 0 where
  pub numerator_from : 1 ≤ f.numerator
  pub numerator_to : f.numerator ≤ largest
  pub denominator_from : 1 ≤ f.denominator
  pub denominator_to : f.denominator ≤ largest
  pub coprime : Coprime f.numerator f.denominator

abbrev pub in_range : ℕ → ℕ → Option Fraction
in_range a b = cond (nat_le a largest && nat_le b largest) (Some (record { numerator = a; denominator = b })) None

-- The greatest common divisor is taken out, and then the parts are judged.
abbrev pub fraction_result : Ratio → Option Fraction
fraction_result x = in_range (x.top / euclid x.top x.bottom) (x.bottom / euclid x.top x.bottom)

abbrev pub fractions : Numbers Fraction
fractions = record { exact = ratios; stored = Lowest; value = λ f. over f.numerator f.denominator; result = fraction_result }

-- n thousandths as whole part, point and three digits: 1500 is 1.500.
abbrev pub in_thousandths : ℕ → List ℕ
in_thousandths n = decimal (n / 1000) ++ (46 ∷ (48 + n / 100 % 10) ∷ (48 + n / 10 % 10) ∷ (48 + n % 10) ∷ [])

-- Four bytes for the numerator, four for the denominator. The text gives thousandths, cut off downwards.
abbrev pub fraction_layout : Layout Fraction
fraction_layout = record {
  mark = 2;
  width = 8;
  row = λ bytes. record { numerator = high_first 0 (take 4 bytes); denominator = high_first 0 (drop 4 bytes) };
  text = λ f. in_thousandths (f.numerator * 1000 / f.denominator);
}
