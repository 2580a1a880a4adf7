-- The laws of the weights.
use Rattle.std.specs.Prelude.{◌≡◌, ℕ, ◌≤◌, Bool, true, false, cond, ◌&&◌, T, ℤ, pos, negsuc, neg_ℤ, ◌≤ℤ◌, Some, None, int_le, refl}
use Rattle.std.proofs.Common.{sym, ap, subst, arith}
use Rattle.std.specs.Int.Signed.{mag}
use Rattle.std.proofs.lemmas.Int.{ints}
use Rattle.std.proofs.lemmas.Fmt.{length_signed_le}
use Rattle.exact.specs.ModelsLemmas.{integers_laws}
use Rattle.numbers.specs.Numbers.{Lawful, Stands, Held}
use Rattle.numbers.specs.Layouts.{Bounded}
use Rattle.kinds.specs.Weights.{limit, Weighs, weight_result, weights, weight_layout}
use Rattle.kinds.specs.declared.weight.Weight.{Weight}

abbrev of_value : ℤ → Weight
of_value z = record { value = z }

found : (z : ℤ) (n : Weight) → weight_result z ≡ Some n → Stands weights z n
found z n = go (int_le (neg_ℤ (pos limit)) z) refl (int_le z (pos limit)) refl
  where
    go : (x : Bool) → int_le (neg_ℤ (pos limit)) z ≡ x → (y : Bool) → int_le z (pos limit) ≡ y → cond (x && y) (Some (of_value z)) None ≡ Some n → Stands weights z n
    go true p true q e =
        let is : of_value z ≡ n = cc in
        let P : Weight → Type 0 = λ w. Stands weights z w in
        subst P is (record { stored = (record { le = subst T (sym p) tt }, record { le = subst T (sym q) tt }); same = refl })
    go true p false q e = let z : ◌≡◌ {A = ℕ} 0 1 = cc in absurd (omega arith)
    go false p y q e = let z : ◌≡◌ {A = ℕ} 0 1 = cc in absurd (omega arith)

missing : (z : ℤ) → weight_result z ≡ None → Held weights z → ⊥
missing z e held =
    let P : ℤ → Type 0 = λ v. Weighs (of_value v) in
    go (int_le (neg_ℤ (pos limit)) z) refl (int_le z (pos limit)) refl e (subst P held.1.same held.1.stored)
  where
    go : (x : Bool) → int_le (neg_ℤ (pos limit)) z ≡ x → (y : Bool) → int_le z (pos limit) ≡ y → cond (x && y) (Some (of_value z)) None ≡ None → Weighs (of_value z) → ⊥
    go true p true q e w = let z : ◌≡◌ {A = ℕ} 0 1 = cc in omega arith
    go true p false q e w = subst T q w.1.le
    go false p y q e w = subst T p w.0.le

pub weights_lawful : Lawful weights
weights_lawful = record { laws = integers_laws; apart = λ m n _ _ e. ap of_value e; found = found; missing = missing }

small : (z : ℤ) → neg_ℤ (pos limit) ≤ℤ z → z ≤ℤ pos limit → mag z ≤ limit
small (pos n) l h = omega (arith, ints, l, h)
small (negsuc n) l h = omega (arith, ints, l, h)

pub weights_bounded : Bounded weights weight_layout
weights_bounded = record {
  wide = omega arith;
  brief = λ w h.
      let mag_small : mag w.value ≤ limit = small w.value h.0 h.1 in
      let short = length_signed_le 14 w.value (omega arith) (omega arith) in
      omega (arith, short);
}
