-- Common divisors: Euclid's lemma, and the one reduced form.
use Rattle.std.specs.Prelude.{◌≡◌, ℕ, zero, suc, ◌+◌, ◌-◌, ◌*◌, ◌/◌, ◌%◌, ◌<◌, ◌≤◌, Bool, true, false, ◌⊎◌, ◌==◌, ◌≢◌}
use Rattle.std.proofs.Common.{sym, ap, subst, ◌∙◌, inl, inr, ⊎_elim, mod-lt, arith}
use Rattle.std.specs.Int.{◌∣◌, IsGcd}
use Rattle.std.proofs.Math.Nat.{dvd-mul_right, dvd-mul_right_of_dvd, dvd-add_iff_right, dvd_antisymm, dvd-one, dvd_of_mul-dvd-mul_left, mul-div_cancel', mul-dvd-mul_left, eq_of_mul-eq-mul_right}
use Rattle.std.proofs.lemmas.Nat.Gcd.{IsGcd-from_zero, IsGcd-from_mod}
use Rattle.std.proofs.lemmas.Bool.{cases_lt}
use Rattle.std.proofs.lemmas.Bool.Decides.{leb_tells, eqb_tells}
use Rattle.kinds.specs.Divisors.{Coprime, euclid, euclid_in}

-- a multiple of a is a multiple of b and g, where g divides both
pub record Combined (a b : ℕ) : Type 0 where
  pub x : ℕ
  pub y : ℕ
  pub g : ℕ
  pub k : ℕ
  pub l : ℕ
  pub sum : a * x ≡ b * y + g
  pub first : a ≡ g * k
  pub second : b ≡ g * l

-- b times the first factor goes to the other side
add_first : (m b a : ℕ) → a ≡ m + b → Combined m b → Combined a b
add_first m b a d w = record {
  x = w.x;
  y = w.x + w.y;
  g = w.g;
  k = w.k + w.l;
  l = w.l;
  sum = omega (arith, w.sum, ap (λ (t : ℕ). t * w.x) d);
  first = omega (arith, w.first, w.second);
  second = w.second;
}

add_second : (a m b : ℕ) → b ≡ m + a → Combined a m → Combined a b
add_second a m b d w = record {
  x = w.x + w.y;
  y = w.y;
  g = w.g;
  k = w.k;
  l = w.k + w.l;
  sum = omega (arith, w.sum, ap (λ (t : ℕ). t * w.y) d);
  first = w.first;
  second = omega (arith, w.first, w.second);
}

-- n bounds the number of turns of Euclid's algorithm by subtraction
pub combined : (n a b : ℕ) → a + b ≤ n → 0 < a → Combined a b
combined zero a b h p = absurd (omega arith)
combined (suc n) a b h p =
    ⊎_elim
    (λ (r : a < b). add_second a (b - a) b (omega arith) (combined n a (b - a) (omega arith) p))
    (λ (r : b ≤ a). ⊎_elim
    (λ (q : b < a). ⊎_elim
    (λ (z : 0 < b). add_first (a - b) b a (omega arith) (combined n (a - b) b (omega arith) (omega arith)))
    (λ (z : b ≤ 0). record { x = 1; y = 0; g = a; k = 1; l = 0; sum = omega arith; first = omega arith; second = omega arith })
    (cases_lt 0 b))
    (λ (q : a ≤ b). record { x = 1; y = 0; g = a; k = 1; l = 1; sum = omega arith; first = omega arith; second = omega arith })
    (cases_lt b a))
    (cases_lt a b)

pub divides : (a b k : ℕ) → b ≡ a * k → a ∣ b
divides a b k e = let P : ℕ → Type 0 = λ n. a ∣ n in subst P (sym e) (dvd-mul_right a k)

-- Euclid's lemma
pub coprime_divides : (a b s : ℕ) → 0 < a → Coprime a b → b ∣ a * s → b ∣ s
coprime_divides a b s p apart d =
    let w = combined (a + b) a b (omega arith) p in
    let one : w.g ≡ 1 = apart w.g (divides _ _ w.k w.first) (divides _ _ w.l w.second) in
    let turned : a * s * w.x ≡ b * (w.y * s) + s = omega (arith, ap (λ (t : ℕ). t * s) w.sum, ap (λ (t : ℕ). t * s) one) in
    let P : ℕ → Type 0 = λ n. b ∣ n in
    (dvd-add_iff_right b (dvd-mul_right b (w.y * s))).1 (subst P turned (dvd-mul_right_of_dvd b d w.x))

-- a fraction has one reduced form
pub reduced_unique : (p q r s : ℕ) → 0 < p → 0 < q → 0 < r → 0 < s → Coprime p q → Coprime r s → p * s ≡ r * q → (p ≡ r) × (q ≡ s)
reduced_unique p q r s hp hq hr hs u v e =
    let one : q ∣ s = coprime_divides p q s hp u (divides q (p * s) r (omega (arith, e))) in
    let two : s ∣ q = coprime_divides r s q hr v (divides s (r * q) p (omega (arith, e))) in
    let both : q ≡ s = dvd_antisymm one two in
    let turned : p * s ≡ r * s = e ∙ ap (λ (t : ℕ). r * t) both in
    (eq_of_mul-eq-mul_right s hs p r turned, both)

factor_pos : (x y z : ℕ) → x * y ≡ z → 0 < z → 0 < x
factor_pos zero y z e h = absurd (omega arith)
factor_pos (suc x) y z e h = omega arith

module _ (a b g : ℕ) (pa : 0 < a) (pb : 0 < b) (h : IsGcd a b g) where
  pub gcd_left : g * (a / g) ≡ a
  gcd_left = mul-div_cancel' g h.0

  pub gcd_right : g * (b / g) ≡ b
  gcd_right = mul-div_cancel' g h.1

  pub gcd_pos : 0 < g
  gcd_pos = factor_pos g (a / g) a gcd_left pa

  pub left_pos : 0 < a / g
  left_pos = factor_pos (a / g) g a (omega (arith, gcd_left)) pa

  pub right_pos : 0 < b / g
  right_pos = factor_pos (b / g) g b (omega (arith, gcd_right)) pb

  -- what is left has no common factor
  pub lowest_terms : Coprime (a / g) (b / g)
  lowest_terms d l r =
      let P : ℕ → Type 0 = λ n. g * d ∣ n in
      let big : g * d ∣ g = h.2 (g * d) (subst P gcd_left (mul-dvd-mul_left d g l)) (subst P gcd_right (mul-dvd-mul_left d g r)) in
      let one : g ≡ g * 1 = omega arith in
      dvd-one.0 (dvd_of_mul-dvd-mul_left d gcd_pos (subst P one big))

  pub same_terms : a / g * b ≡ a * (b / g)
  same_terms = omega (arith, ap (λ (t : ℕ). a / g * t) gcd_right, ap (λ (t : ℕ). t * (b / g)) gcd_left)

pub euclid_turns : (k a b : ℕ) → b < k → IsGcd a b (euclid_in k a b)
euclid_turns zero a b h = absurd (omega arith)
euclid_turns (suc k) a b h = go (b == 0) (eqb_tells b 0) (λ positive. euclid_turns k b (a % b) (omega (arith, mod-lt a positive)))
  where
    go :
        (t : Bool) → ((t ≡ true) × (b ≡ 0)) ⊎ ((t ≡ false) × (b ≢ 0)) → (0 < b → IsGcd b (a % b) (euclid_in k b (a % b))) →
        IsGcd a b (elim t [ true ↦ a | false ↦ euclid_in k b (a % b) ])
    go true h next =
        let zero_is : b ≡ 0 = ⊎_elim (λ z. z.1) (λ z. absurd (let e : ◌≡◌ {A = ℕ} 0 1 = cc z.0 in omega arith)) h in
        IsGcd-from_zero a b zero_is
    go false h next =
        let not_zero : b ≡ 0 → ⊥ = ⊎_elim (λ z. absurd (let e : ◌≡◌ {A = ℕ} 0 1 = cc z.0 in omega arith)) (λ z. z.1) h in
        IsGcd-from_mod a b _ (next (omega (arith, not_zero)))

pub euclid_is : (a b : ℕ) → IsGcd a b (euclid a b)
euclid_is a b = euclid_turns (suc b) a b (omega arith)
