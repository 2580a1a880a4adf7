-- Two fields: the integers with the larger of two for their sum, and the positive fractions.
use Rattle.std.specs.Prelude.{◌≡◌, ℕ, ◌+◌, ◌*◌, ◌<◌, ℤ, pos, ◌+ℤ◌, ◌-ℤ◌}
use Rattle.std.proofs.Common.{mul-pos, arith}
use Rattle.std.specs.Int.{int_max}
use Rattle.exact.specs.Field.{Field}

-- All integers: the sum is the larger of two, the product their sum, the quotient their difference.
abbrev pub integers : Field
integers = record {
  Exact = ℤ;
  same = λ x y. x ≡ y;
  sum = int_max;
  product = ◌+ℤ◌;
  quotient = ◌-ℤ◌;
  unit = pos 0;
}

-- A positive fraction, top ÷ bottom, in any terms.
pub record Ratio : Type 0 where
  pub top : ℕ
  pub bottom : ℕ
  pub top_positive : 0 < top
  pub bottom_positive : 0 < bottom

-- p/q and r/s are the same when p·s is r·q.
abbrev pub SameRatio : Ratio → Ratio → Type 0
SameRatio x y = x.top * y.bottom ≡ y.top * x.bottom

abbrev pub ratio_sum : Ratio → Ratio → Ratio
ratio_sum x y = record {
  top = x.top * y.bottom + y.top * x.bottom;
  bottom = x.bottom * y.bottom;
  top_positive = omega (arith, mul-pos x.top_positive y.bottom_positive);
  bottom_positive = mul-pos x.bottom_positive y.bottom_positive;
}

abbrev pub ratio_product : Ratio → Ratio → Ratio
ratio_product x y = record {
  top = x.top * y.top;
  bottom = x.bottom * y.bottom;
  top_positive = mul-pos x.top_positive y.top_positive;
  bottom_positive = mul-pos x.bottom_positive y.bottom_positive;
}

abbrev pub ratio_quotient : Ratio → Ratio → Ratio
ratio_quotient x y = record {
  top = x.top * y.bottom;
  bottom = x.bottom * y.top;
  top_positive = mul-pos x.top_positive y.bottom_positive;
  bottom_positive = mul-pos x.bottom_positive y.top_positive;
}

-- All positive fractions, with their usual sum, product and quotient.
abbrev pub ratios : Field
ratios = record {
  Exact = Ratio;
  same = SameRatio;
  sum = ratio_sum;
  product = ratio_product;
  quotient = ratio_quotient;
  unit = record { top = 1; bottom = 1; top_positive = omega arith; bottom_positive = omega arith };
}
