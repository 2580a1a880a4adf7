-- What a search finds.
use Rattle.std.proofs.Common.{◌≡◌, ℕ, zero, suc, ◌<◌, ◌≤◌, Bool, true, false, cond, ltb, List, length, get_or, Some, None, Option, sym, refl, ap, ◌∙◌, subst, inl, inr, arith}
use Rattle.std.proofs.lemmas.Bool.{cases_lt, cases_order, cond-true, cond-false, lt-ltb, false_from_ne_true}
use Rattle.std.proofs.lemmas.List.Sums.{position_or_len_is}
use Rattle.std.specs.List.{position, position_or_len}
use Rattle.std.specs.Option.{option_or, MatchOption}
use Rattle.polygon_counting.specs.Polygons.{first_some, first_below}

-- what the first of f 0, f 1, .., f (n - 1) that there is tells
abbrev pub Tells : {A : Type 0} → ℕ → (ℕ → Option A) → Option A → Type 0
Tells n f None = (k : ℕ) → k < n → f k ≡ None
Tells n f (Some x) = (i : ℕ) × (i < n) × (f i ≡ Some x) × ((k : ℕ) → k < i → f k ≡ None)

pub first_tells : {A : Type 0} (n : ℕ) (f : ℕ → Option A) → Tells n f (first_some n f)
first_tells zero f = λ k h. absurd (omega arith)
first_tells {A} (suc n) f = step (first_some n f) (first_tells n f) (f n) refl
  where
    step : (o : Option A) → Tells n f o → (p : Option A) → f n ≡ p → Tells (suc n) f (option_or o p)
    step (Some x) w p e = (w.0, omega (arith, w.1), w.2, w.3)
    step None w (Some x) e = (n, omega arith, e, w)
    step None w None e = λ k h. elim (cases_lt k n) [ inl l ↦ w k l | inr l ↦ (let q : k ≡ n = omega arith in ap f q ∙ e) ]

-- what tells so much is the first
pub told_first : {A : Type 0} (n : ℕ) (f : ℕ → Option A) (o : Option A) → Tells n f o → o ≡ first_some n f
told_first {A} n f o w = same o (first_some n f) w (first_tells n f)
  where
    same : (a b : Option A) → Tells n f a → Tells n f b → a ≡ b
    same None None v w = refl
    same None (Some y) v w = absurd (cc (v w.0 w.1, w.2))
    same (Some x) None v w = absurd (cc (w v.0 v.1, v.2))
    same (Some x) (Some y) v w = elim (cases_order v.0 w.0) [
      | inl q ↦ sym v.2 ∙ ap f q ∙ w.2
      | inr (inl l) ↦ absurd (cc (w.3 v.0 l, v.2))
      | inr (inr l) ↦ absurd (cc (v.3 w.0 l, w.2))
    ]

module _ (n : ℕ) (p : ℕ → Bool) where
  -- the only one that passes is found
  pub only_found : (k : ℕ) → k < n → p k ≡ true → ((l : ℕ) → l < n → p l ≡ true → l ≡ k) → first_below n p ≡ Some k
  unfolding first_below
  only_found k h t u =
      sym (told_first n (λ k. cond (p k) (Some k) None) (Some k) (
        k,
        h,
        cond-true (p k) (Some k) None t,
        λ l m. cond-false (p l) (Some l) None (false_from_ne_true (p l) (λ e. omega (arith, u l (omega arith) e))),
      ))

  -- what is found is below n
  pub found_below : (k : ℕ) → first_below n p ≡ Some k → k < n
  unfolding first_below
  found_below k e = (let w = subst (Tells n (λ k. cond (p k) (Some k) None)) e (first_tells n (λ k. cond (p k) (Some k) None)) in
      let i = passed (p w.0) w.0 k w.2 in omega (arith, w.1))
    where
      passed : (b : Bool) (i k : ℕ) → cond b (Some i) None ≡ Some k → i ≡ k
      passed true i k e = cc
      passed false i k e = cc

  -- what a search of the numbers from 0 finds
  pub range_found : (o : Option ℕ) → MatchOption o ((k : ℕ) → 0 ≤ k → k < n → p k ≡ false) (λ i. (0 ≤ i) × (i < n) × (p i ≡ true) × ((k : ℕ) → 0 ≤ k → k < i → p k ≡ false))
      → o ≡ first_below n p
  unfolding first_below
  range_found None w = told_first n (λ k. cond (p k) (Some k) None) None (λ k h. cond-false (p k) (Some k) None (w k (omega arith) h))
  range_found (Some i) w =
      told_first n (λ k. cond (p k) (Some k) None) (Some i)
      (i, w.1, cond-true (p i) (Some i) None w.2, λ k h. cond-false (p k) (Some k) None (w.3 k (omega arith) h))

-- the only element that passes is found
pub only_position : {X : Type 0} (p : X → Bool) (xs : List X) (d : X) (k : ℕ) → k < length xs → p (get_or xs k d) ≡ true
    → ((l : ℕ) → l < length xs → p (get_or xs l d) ≡ true → l ≡ k) → position p xs ≡ Some k
only_position p xs d k h t u =
    let e = position_or_len_is p xs k d (omega arith) (λ l m. false_from_ne_true (p (get_or xs l d)) (λ s. omega (arith, u l (omega arith) s))) (λ _. t) in
    cond-true (ltb (position_or_len p xs) (length xs)) (Some (position_or_len p xs)) None (lt-ltb (position_or_len p xs) (length xs) (omega arith)) ∙ ap Some e
