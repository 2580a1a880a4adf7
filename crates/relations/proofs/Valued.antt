-- Values on named darts, what flips do to them, and that steps respect sameness.
use Rattle.std.proofs.Common.{◌≡◌, ℕ, ◌+◌, ◌*◌, ◌<◌, Bool, true, false, cond, ◌||◌, eqb, ◌≢◌, List, [], ◌∷◌, sym, ap, ◌∙◌, subst, arith, eq-eqb, ne_eqb}
use native.Mathlib.Decide.{ℕ_discrete}
use Rattle.triangulations.specs.Triangulations.{Table, Triangulation, after, edge_of}
use Rattle.triangulations.specs.Steps.{exchanged, Step, L, R, T, S, apply_step}
use Rattle.triangulations.proofs.Frames.{Apart, Seen}
use Rattle.triangulations.proofs.Flips.{seen_after, seen_after₂}
use Rattle.exact.specs.Field.{Field, Laws}
use Rattle.exact.specs.Flips.{flipped}
use Rattle.exact.proofs.Ptolemy.{flipped_same}
use Rattle.relations.specs.Values.{Values, worth, flip_value, value_step, leads_values, Same}

-- a flip of the edge with the names i and j, on values of any kind at the names
abbrev pub flip_w : {Q : Type 0} → (Q → Q → Q → Q → Q → Q) → ℕ → ℕ → (ℕ → ℕ) → (ℕ → Q) → ℕ → Q
flip_w new i j σ w k = cond (eqb k i || eqb k j) (new (w (σ i)) (w (σ j)) (w (σ (σ i))) (w (σ (σ j))) (w i)) (w k)

module _ (F : Field) where
  -- the values after a flip of e, in either direction
  abbrev pub bump : Table → ℕ → Values F → Values F
  bump t e v k = cond (eqb k e) (flip_value F t e v) (v k)

  pub bump_off : (t : Table) (e : ℕ) (v : Values F) (k : ℕ) → k ≢ e → bump t e v k ≡ v k
  bump_off t e v k h = ap (λ b. cond b (flip_value F t e v) (v k)) (ne_eqb k e h)

  -- w has the values at the names
  abbrev pub Valued : (ℕ → ℕ) → ℕ → (ℕ → F.Exact) → Values F → Type 0
  Valued φ n w v = (k : ℕ) → k < n → worth F v (φ k) ≡ w k

  module _ (φ : ℕ → ℕ) (n : ℕ) (different : Apart n φ) (t₀ : Table) (e i j : ℕ) (hi : i < n) (hj : j < n) (di : 2 * e ≡ φ i) (dj : 2 * e + 1 ≡ φ j) where
    edge_i : edge_of (φ i) ≡ e
    edge_i = omega arith

    edge_j : edge_of (φ j) ≡ e
    edge_j = omega arith

    edge_test : (k : ℕ) → k < n → eqb (edge_of (φ k)) e ≡ (eqb k i || eqb k j)
    edge_test k h = go (ℕ_discrete k i) (ℕ_discrete k j)
      where
        off : k ≢ i → k ≢ j → edge_of (φ k) ≢ e
        off p q r =
            let a : φ k ≢ 2 * e = λ s. p (different k i h hi (s ∙ di)) in
            let b : φ k ≢ 2 * e + 1 = λ s. q (different k j h hj (s ∙ dj)) in
            omega arith

        go : Dec (k ≡ i) → Dec (k ≡ j) → eqb (edge_of (φ k)) e ≡ (eqb k i || eqb k j)
        go (yes p) q = eq-eqb (edge_of (φ k)) e (ap (λ m. edge_of (φ m)) p ∙ edge_i) ∙ sym (ap (λ b. b || eqb k j) (eq-eqb k i p))
        go (no p) (yes q) = eq-eqb (edge_of (φ k)) e (ap (λ m. edge_of (φ m)) q ∙ edge_j) ∙ sym (λ m. ne_eqb k i p m || eq-eqb k j q m)
        go (no p) (no q) = ne_eqb (edge_of (φ k)) e (off p q) ∙ sym (λ m. ne_eqb k i p m || ne_eqb k j q m)

    pub valued_flip : (σ : ℕ → ℕ) (t : Table) → Seen φ n t₀ σ t → (w : ℕ → F.Exact) (v : Values F) → Valued φ n w v
        → Valued φ n (flip_w (flipped F) i j σ w) (bump t e v)
    unfolding flip_value
    valued_flip σ t s w v h k hk = λ m. cond (edge_test k hk m) (flipped F (a m) (c m) (b m) (g m) (ve m)) (h k hk m)
      where
        a : worth F v (after t (2 * e)) ≡ w (σ i)
        a = ap (λ d. worth F v (after t d)) di ∙ (ap (worth F v) (seen_after φ n different t₀ σ t s i hi) ∙ h _ (s.closed i hi))

        c : worth F v (after t (2 * e + 1)) ≡ w (σ j)
        c = ap (λ d. worth F v (after t d)) dj ∙ (ap (worth F v) (seen_after φ n different t₀ σ t s j hj) ∙ h _ (s.closed j hj))

        b : worth F v (after t (after t (2 * e))) ≡ w (σ (σ i))
        b = ap (λ d. worth F v (after t (after t d))) di ∙ (ap (worth F v) (seen_after₂ φ n different t₀ σ t s i hi) ∙ h _ (s.closed _ (s.closed i hi)))

        g : worth F v (after t (after t (2 * e + 1))) ≡ w (σ (σ j))
        g = ap (λ d. worth F v (after t (after t d))) dj ∙ (ap (worth F v) (seen_after₂ φ n different t₀ σ t s j hj) ∙ h _ (s.closed _ (s.closed j hj)))

        ve : v e ≡ w i
        ve = ap v (sym edge_i) ∙ h i hi

    pub value_at : (w : ℕ → F.Exact) (v : Values F) → Valued φ n w v → v e ≡ w i
    value_at w v h = ap v (sym edge_i) ∙ h i hi

module _ {F : Field} (laws : Laws F) where
  pub same_of : {x y : F.Exact} → x ≡ y → F.same x y
  same_of {x} {y} e = subst (F.same x) e (laws.same_refl x)

  pub cond_same : (b : Bool) {x x' y y' : F.Exact} → F.same x x' → F.same y y' → F.same (cond b x y) (cond b x' y')
  cond_same true h k = h
  cond_same false h k = k

  flip_value_same : (t : Table) (e : ℕ) (v v' : Values F) → Same F v v' → F.same (flip_value F t e v) (flip_value F t e v')
  unfolding flip_value
  flip_value_same t e v v' h = flipped_same laws (h _) (h _) (h _) (h _) (h e)

  value_step_same : (s : Step) (t : Table) (v v' : Values F) → Same F v v' → Same F (value_step F s t v) (value_step F s t v')
  value_step_same (L e) t v v' h k = cond_same (eqb k e) (flip_value_same t e v v' h) (h k)
  value_step_same (R e) t v v' h k = cond_same (eqb k e) (flip_value_same t e v v' h) (h k)
  value_step_same (T e) t v v' h k = h k
  value_step_same (S e f) t v v' h k = h (exchanged e f k)

  pub leads_values_same : (w : List Step) (t : Triangulation) (v v' : Values F) → Same F v v' → Same F (leads_values F w t v) (leads_values F w t v')
  leads_values_same [] t v v' h = h
  leads_values_same (s ∷ w) t v v' h = leads_values_same w (apply_step s t) _ _ (value_step_same s t.next v v' h)
