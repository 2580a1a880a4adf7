-- Fractions in lowest terms: the stored number of a value, and the laws.
use Rattle.std.specs.Prelude.{◌≡◌, ℕ, suc, pred, ◌+◌, ◌*◌, ◌/◌, ◌<◌, ◌≤◌, true, ◌⊎◌, Some, None, Decides, ◌==◌, nat_le, refl}
use Rattle.std.proofs.Common.{ap, subst, ◌∙◌, inl, inr, ⊎_elim, mul-pos, div-le_self, arith, length-append}
use Rattle.std.specs.Int.{◌∣◌, IsGcd}
use Rattle.std.proofs.Math.Nat.{eq_of_mul-eq-mul_left, dvd-one}
use Rattle.std.proofs.lemmas.Bool.Decides.{Decides-eqb, Decides-like, leb_tells}
use Rattle.std.proofs.lemmas.Fmt.{length-decimal-le}
use Rattle.exact.specs.Models.{Ratio, SameRatio, ratio_sum, ratio_product, ratio_quotient}
use Rattle.exact.specs.ModelsLemmas.{ratios_laws}
use Rattle.numbers.specs.Numbers.{Lawful, Stands, Held}
use Rattle.numbers.specs.Layouts.{Bounded}
use Rattle.kinds.specs.Divisors.{Coprime, euclid}
use Rattle.kinds.specs.Fractions.{largest, over, Lowest, in_range, fraction_result, fractions, fraction_layout}
use Rattle.kinds.specs.declared.fraction.Fraction.{Fraction}
use Rattle.kinds.specs.Common.{reduced_unique, gcd_left, gcd_right, gcd_pos, left_pos, right_pos, lowest_terms, same_terms, euclid_is}

kept : (n : ℕ) → 0 < n → suc (pred n) ≡ n
kept n h = omega arith

same_over : (a b c d : ℕ) → 0 < a → 0 < b → 0 < c → 0 < d → a * d ≡ c * b → SameRatio (over a b) (over c d)
same_over a b c d ha hb hc hd e = rw (kept a ha, kept b hb, kept c hc, kept d hd) e

cross : (a b c d : ℕ) → 0 < a → 0 < b → 0 < c → 0 < d → SameRatio (over a b) (over c d) → a * d ≡ c * b
cross a b c d ha hb hc hd e =
    let ea : suc (pred a) ≡ a = omega arith in
    let eb : suc (pred b) ≡ b = omega arith in
    let ec : suc (pred c) ≡ c = omega arith in
    let ed : suc (pred d) ≡ d = omega arith in
    rw (ea, eb, ec, ed) at e

abbrev of_parts : ℕ → ℕ → Fraction
of_parts a b = record { numerator = a; denominator = b }

apart : (m n : Fraction) → Lowest m → Lowest n → SameRatio (over m.numerator m.denominator) (over n.numerator n.denominator) → m ≡ n
apart m n h k e =
    let crossed : m.numerator * n.denominator ≡ n.numerator * m.denominator = cross _ _ _ _ h.numerator_from h.denominator_from k.numerator_from k.denominator_from e in
    let equal = reduced_unique m.numerator m.denominator n.numerator n.denominator h.numerator_from h.denominator_from k.numerator_from k.denominator_from h.coprime k.coprime crossed in
    ap (λ (a : ℕ). of_parts a m.denominator) equal.0 ∙ ap (of_parts n.numerator) equal.1

module _ (a b g : ℕ) (pa : 0 < a) (pb : 0 < b) (h : IsGcd a b g) where
  pub reduced_stands : a / g ≤ largest → b / g ≤ largest → Stands fractions (over a b) (record { numerator = a / g; denominator = b / g })
  reduced_stands la lb = record {
    stored = record {
      numerator_from = left_pos a b g pa pb h;
      numerator_to = la;
      denominator_from = right_pos a b g pa pb h;
      denominator_to = lb;
      coprime = lowest_terms a b g pa pb h;
    };
    same = same_over _ _ a b (left_pos a b g pa pb h) (right_pos a b g pa pb h) pa pb (same_terms a b g pa pb h);
  }

  pub held_reduced : Held fractions (over a b) → (a / g ≤ largest) × (b / g ≤ largest)
  held_reduced held =
      let f = held.0 in
      let low = held.1.stored in
      let crossed : f.numerator * b ≡ a * f.denominator = cross _ _ a b low.numerator_from low.denominator_from pa pb held.1.same in
      let less : f.numerator * (b / g) ≡ a / g * f.denominator =
      eq_of_mul-eq-mul_left g (gcd_pos a b g pa pb h) _ _
      (omega (arith, crossed, ap (λ (t : ℕ). f.numerator * t) (gcd_right a b g pa pb h), ap (λ (t : ℕ). t * f.denominator) (gcd_left a b g pa pb h))) in
      let equal = reduced_unique f.numerator f.denominator (a / g) (b / g) low.numerator_from low.denominator_from (left_pos a b g pa pb h) (right_pos a b g pa pb h) low.coprime (lowest_terms a b g pa pb h) less in
      (omega (arith, equal.0, low.numerator_to), omega (arith, equal.1, low.denominator_to))

abbrev Judged : ℕ → ℕ → Type 0
Judged a b =
    ((a ≤ largest) × (b ≤ largest) × (in_range a b ≡ Some (of_parts a b))) ⊎ (((a ≤ largest) × (b ≤ largest) → ⊥) × (in_range a b ≡ None))

judged : (a b : ℕ) → Judged a b
judged a b =
    ⊎_elim
    (λ (h : (nat_le a largest ≡ true) × (a ≤ largest)).
    ⊎_elim
    (λ (k : (nat_le b largest ≡ true) × (b ≤ largest)). inl (h.1, k.1, rw (h.0, k.0) refl))
    (λ k. inr (λ both. omega (arith, both.1, k.1), rw (h.0, k.0) refl))
    (leb_tells b largest))
    (λ h. inr (λ both. omega (arith, both.0, h.1), rw h.0 refl))
    (leb_tells a largest)

module _ (x : Ratio) where
  abbrev t : ℕ
  t = x.top

  abbrev b : ℕ
  b = x.bottom

  abbrev common : ℕ
  common = euclid t b

  -- the parts of x are those of `over`
  whole : SameRatio (over t b) x
  whole = rw (kept t x.top_positive, kept b x.bottom_positive) refl

  found : (n : Fraction) → fraction_result x ≡ Some n → Stands fractions x n
  found n e =
      ⊎_elim
      (λ (h : (t / common ≤ largest) × (b / common ≤ largest) × (in_range (t / common) (b / common) ≡ Some (of_parts (t / common) (b / common)))).
      let is : of_parts (t / common) (b / common) ≡ n = cc in
      let P : Fraction → Type 0 = λ f. Stands fractions x f in
      let stands = reduced_stands t b common x.top_positive x.bottom_positive (euclid_is t b) h.0 h.1 in
      subst P is (record { stored = stands.stored; same = ratios_laws.same_trans (over (t / common) (b / common)) (over t b) x stands.same whole }))
      (λ h. let z : ◌≡◌ {A = ℕ} 0 1 = cc h.1 in absurd (omega arith))
      (judged (t / common) (b / common))

  missing : fraction_result x ≡ None → Held fractions x → ⊥
  missing e held =
      ⊎_elim
      (λ (h : (t / common ≤ largest) × (b / common ≤ largest) × (in_range (t / common) (b / common) ≡ Some (of_parts (t / common) (b / common)))).
      let z : ◌≡◌ {A = ℕ} 0 1 = cc h.2 in absurd (omega arith))
      (λ h.
      h.0 (held_reduced t b common x.top_positive x.bottom_positive (euclid_is t b)
      (held.0, record { stored = held.1.stored; same = ratios_laws.same_trans (over held.0.numerator held.0.denominator) x (over t b) held.1.same (ratios_laws.same_sym (over t b) x whole) })))
      (judged (t / common) (b / common))

pub fractions_lawful : Lawful fractions
fractions_lawful = record { laws = ratios_laws; apart = apart; found = found; missing = missing }

pub fractions_bounded : Bounded fractions fraction_layout
fractions_bounded = record {
  wide = omega arith;
  brief = λ f h.
      let n = f.numerator * 1000 / f.denominator in
      let small : n ≤ f.numerator * 1000 = div-le_self (f.numerator * 1000) f.denominator in
      let short = length-decimal-le 13 (n / 1000) (omega arith) (omega (arith, h.numerator_to, small)) (omega (arith, h.numerator_to, small)) in
      simp length-append (omega (arith, short));
}

-- numbers with the greatest common divisor 1
pub coprime_decided : (a b g : ℕ) → IsGcd a b g → Decides (g == 1) (Coprime a b)
coprime_decided a b g h =
    Decides-like (g == 1)
    (λ (e : g ≡ 1). λ d l r. let P : ℕ → Type 0 = λ n. d ∣ n in dvd-one.0 (subst P e (h.2 d l r)))
    (λ (u : Coprime a b). u g h.0 h.1)
    (Decides-eqb g 1)

module _ (p q r s : ℕ) (hp : 0 < p) (hq : 0 < q) (hr : 0 < r) (hs : 0 < s) where
  pub sum_over : SameRatio (over (p * s + r * q) (q * s)) (ratio_sum (over p q) (over r s))
  sum_over =
      let top : 0 < p * s + r * q = omega (arith, mul-pos hp hs) in
      rw (kept (p * s + r * q) top, kept (q * s) (mul-pos hq hs), kept p hp, kept q hq, kept r hr, kept s hs) refl

  pub product_over : SameRatio (over (p * r) (q * s)) (ratio_product (over p q) (over r s))
  product_over = rw (kept (p * r) (mul-pos hp hr), kept (q * s) (mul-pos hq hs), kept p hp, kept q hq, kept r hr, kept s hs) refl

  pub quotient_over : SameRatio (over (p * s) (q * r)) (ratio_quotient (over p q) (over r s))
  quotient_over = rw (kept (p * s) (mul-pos hp hs), kept (q * r) (mul-pos hq hr), kept p hp, kept q hq, kept r hr, kept s hs) refl
