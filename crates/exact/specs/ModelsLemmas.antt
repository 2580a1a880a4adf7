-- The two fields of specs/Models keep the laws.
use Rattle.std.specs.Prelude.{◌≡◌, ℕ, ◌*◌, refl}
use Rattle.std.proofs.Common.{sym, ap, ◌∙◌, arith}
use Rattle.std.proofs.Math.Nat.{eq_of_mul-eq-mul_left}
use Rattle.std.proofs.lemmas.Int.{ints, clamps}
use Rattle.exact.specs.Field.{Laws}
use Rattle.exact.specs.Models.{integers, Ratio, SameRatio, ratio_sum, ratio_product, ratio_quotient, ratios}

pub integers_laws : Laws integers
integers_laws = record {
  same_refl = λ x. refl;
  same_sym = λ x y e. sym e;
  same_trans = λ x y z e f. e ∙ f;
  sum_same = λ x x' y y' e f. cc;
  product_same = λ x x' y y' e f. cc;
  quotient_same = λ x x' y y' e f. cc;
  sum_assoc = λ x y z. omega (arith, ints, clamps);
  sum_comm = λ x y. omega (arith, ints, clamps);
  product_assoc = λ x y z. omega (arith, ints);
  product_comm = λ x y. omega (arith, ints);
  distrib = λ x y z. omega (arith, ints, clamps);
  product_unit = λ x. omega (arith, ints);
  quotient_product = λ x y. omega (arith, ints);
}

ratio_trans : (x y z : Ratio) → SameRatio x y → SameRatio y z → SameRatio x z
ratio_trans x y z e f =
    eq_of_mul-eq-mul_left y.bottom y.bottom_positive _ _
    (omega (arith, ap (λ (t : ℕ). t * z.bottom) e, ap (λ (t : ℕ). t * x.bottom) f))

sum_same : (x x' y y' : Ratio) → SameRatio x x' → SameRatio y y' → SameRatio (ratio_sum x y) (ratio_sum x' y')
sum_same x x' y y' e f =
    omega (arith, ap (λ (t : ℕ). t * (y.bottom * y'.bottom)) e, ap (λ (t : ℕ). t * (x.bottom * x'.bottom)) f)

product_same : (x x' y y' : Ratio) → SameRatio x x' → SameRatio y y' → SameRatio (ratio_product x y) (ratio_product x' y')
product_same x x' y y' e f =
    let both : (x.top * x'.bottom) * (y.top * y'.bottom) ≡ (x'.top * x.bottom) * (y'.top * y.bottom) = cc in
    omega (arith, both)

quotient_same : (x x' y y' : Ratio) → SameRatio x x' → SameRatio y y' → SameRatio (ratio_quotient x y) (ratio_quotient x' y')
quotient_same x x' y y' e f =
    let both : (x.top * x'.bottom) * (y'.top * y.bottom) ≡ (x'.top * x.bottom) * (y.top * y'.bottom) = cc in
    omega (arith, both)

pub ratios_laws : Laws ratios
ratios_laws = record {
  same_refl = λ x. refl;
  same_sym = λ x y e. sym e;
  same_trans = ratio_trans;
  sum_same = sum_same;
  product_same = product_same;
  quotient_same = quotient_same;
  sum_assoc = λ x y z. omega arith;
  sum_comm = λ x y. omega arith;
  product_assoc = λ x y z. omega arith;
  product_comm = λ x y. omega arith;
  distrib = λ x y z. omega arith;
  product_unit = λ x. omega arith;
  quotient_product = λ x y. omega arith;
}
