-- The flips and turns on named darts, and the frame of two triangles.
use Rattle.std.proofs.Math.Facts.{and_yes}
use Rattle.std.proofs.lemmas.Bool.{cond-false, cond-true}
use Rattle.std.proofs.Common.{◌≡◌, ℕ, ◌+◌, ◌*◌, ◌<◌, Bool, true, false, cond, not, ◌&&◌, T as Yes, eqb, ltb, ◌≢◌, List, [], ◌∷◌, Some, sym, refl, ap, ◌∙◌, subst, arith, eqb→eq, ltb→lt, eq-eqb, ne_eqb}
use native.Mathlib.Decide.{ℕ_discrete}
use Rattle.triangulations.specs.Triangulations.{Table, Triangulation, Lawful}
use Rattle.triangulations.specs.Steps.{Direction, turn, swap, relabelled, flipped}
use Rattle.triangulations.specs.Stored.{all_below}
use Rattle.triangulations.proofs.Frames.{Closed, Apart, Sits, Off, Seen, tri, flip, seen_flip, seen_relabel, at_below}
use Rattle.triangulations.proofs.Triangles.{nth, Fresh, Distinct, Disjoint, distinct-++, apart, each, Tri, tri_distinct, tri_disjoint, stays_off, turn_even, turn_odd, turn_else, swap_else}

abbrev pub exch : ℕ → ℕ → ℕ → ℕ
exch i j k = cond (eqb k i) j (cond (eqb k j) i k)

pub swap_other : (e f d : ℕ) → d ≢ 2 * e → d ≢ 2 * e + 1 → d ≢ 2 * f → d ≢ 2 * f + 1 → swap e f d ≡ d
swap_other e f d a b c g = swap_else e f d (λ q. omega arith) (λ q. omega arith)

module _ (φ : ℕ → ℕ) (n : ℕ) (ap-φ : Apart n φ) (t₀ : Table) (far : (x y : ℕ) → Off φ n x → t₀ x ≡ Some y → Off φ n y) where
  module _ (e i j : ℕ) (hi : i < n) (hj : j < n) (di : 2 * e ≡ φ i) (dj : 2 * e + 1 ≡ φ j) where
    pub seen_step_flip : (w : Direction) (σ : ℕ → ℕ) (t : Table) → Seen φ n t₀ σ t → Seen φ n t₀ (flip w i j σ) (flipped w (2 * e) (2 * e + 1) t)
    seen_step_flip w σ t v = subst (λ d. Seen φ n t₀ (flip w i j σ) (flipped w d (2 * e + 1) t)) (sym di)
        (subst (λ p. Seen φ n t₀ (flip w i j σ) (flipped w (φ i) p t)) (sym dj) (seen_flip φ n ap-φ t₀ w i j hi hj σ t v))

    exch_closed : Closed n (exch i j)
    exch_closed k h = go (eqb k i) (eqb k j)
      where
        go : (b c : Bool) → cond b j (cond c i k) < n
        go true c = hj
        go false true = hi
        go false false = h

    turn_named : (k : ℕ) → k < n → turn e (φ k) ≡ φ (exch i j k)
    turn_named k h = go (ℕ_discrete k i) (ℕ_discrete k j)
      where
        go : Dec (k ≡ i) → Dec (k ≡ j) → turn e (φ k) ≡ φ (exch i j k)
        go (yes q) r = ap (turn e) (ap φ q ∙ sym di) ∙ (turn_even e ∙ (dj ∙ ap φ (sym (cond-true (eqb k i) j (cond (eqb k j) i k) (eq-eqb k i q)))))
        go (no q) (yes r) = ap (turn e) (ap φ r ∙ sym dj) ∙ (turn_odd e ∙ (di ∙ ap φ (sym
            (cond-false (eqb k i) j (cond (eqb k j) i k) (ne_eqb k i q) ∙ cond-true (eqb k j) i k (eq-eqb k j r)))))
        go (no q) (no r) = turn_else e (φ k) (λ s. q (ap-φ k i h hi (s ∙ di))) (λ s. r (ap-φ k j h hj (s ∙ dj)))
            ∙ ap φ (sym (cond-false (eqb k i) j (cond (eqb k j) i k) (ne_eqb k i q) ∙ cond-false (eqb k j) i k (ne_eqb k j r)))

    pub seen_turn : (σ : ℕ → ℕ) (t : Table) → Seen φ n t₀ σ t → Seen φ n t₀ (λ k. exch i j (σ (exch i j k))) (relabelled (turn e) t)
    seen_turn σ t v = seen_relabel φ n ap-φ t₀ (turn e) (exch i j) exch_closed turn_named
        (λ x o. turn_else e x (λ s. o i hi (s ∙ di)) (λ s. o j hj (s ∙ dj))) far σ t v

-- two triangles, closed
abbrev pub σ₆ : ℕ → ℕ
σ₆ = tri 0 1 2 (tri 3 4 5 (λ k. k))

-- a closed test that σ keeps below n, moves each number and leads back in three steps
abbrev pub lawful_below : ℕ → (ℕ → ℕ) → Bool
lawful_below n σ = all_below n (λ k. ltb (σ k) n && (not (eqb (σ k) k) && eqb (σ (σ (σ k))) k))

abbrev one_below : ℕ → (ℕ → ℕ) → ℕ → Bool
one_below n σ k = ltb (σ k) n && (not (eqb (σ k) k) && eqb (σ (σ (σ k))) k)

pub not_eqb : (m n : ℕ) → Yes (not (eqb m n)) → m ≢ n
not_eqb m n h e = subst (λ b. Yes (not b)) (eq-eqb m n e) h

module _ (n : ℕ) (σ : ℕ → ℕ) (c : Yes (lawful_below n σ)) where
  pub below_closed : Closed n σ
  below_closed k h = ltb→lt (σ k) n ((and_yes (ltb (σ k) n) _ (at_below n (one_below n σ) c k h)).0)

  pub below_moves : (k : ℕ) → k < n → σ k ≢ k
  below_moves k h = not_eqb (σ k) k ((and_yes (not (eqb (σ k) k)) _ ((and_yes (ltb (σ k) n) _ (at_below n (one_below n σ) c k h)).1)).0)

  pub below_round : (k : ℕ) → k < n → σ (σ (σ k)) ≡ k
  below_round k h = eqb→eq _ _ ((and_yes (not (eqb (σ k) k)) _ ((and_yes (ltb (σ k) n) _ (at_below n (one_below n σ) c k h)).1)).1)

-- names for all darts of some triangles
pub record Framed (t : Table) (φ : ℕ → ℕ) (n : ℕ) (σ : ℕ → ℕ) : Type 0 where
  pub different : Apart n φ
  pub seen : Seen φ n t σ t
  pub far : (x y : ℕ) → Off φ n x → t x ≡ Some y → Off φ n y

pub turned_round : (x y z p c g : ℕ) → Disjoint (p ∷ c ∷ g ∷ []) (x ∷ y ∷ z ∷ []) → Disjoint (x ∷ y ∷ z ∷ []) (p ∷ c ∷ g ∷ [])
turned_round x y z p c g h = (
  (λ e. h.0.0 (sym e), (λ e. h.1.0.0 (sym e), (λ e. h.1.1.0.0 (sym e), tt))),
  (
    (λ e. h.0.1.0 (sym e), (λ e. h.1.0.1.0 (sym e), (λ e. h.1.1.0.1.0 (sym e), tt))),
    ((λ e. h.0.1.1.0 (sym e), (λ e. h.1.0.1.1.0 (sym e), (λ e. h.1.1.0.1.1.0 (sym e), tt))), tt),
  ),
)

module _ (t : Triangulation) (law : Lawful t) where
  pub framed : (n : ℕ) (σ : ℕ → ℕ) (xs : List ℕ) → Apart n (nth xs) → Yes (lawful_below n σ) → Sits (nth xs) n σ t.next
      → Framed t.next (nth xs) n σ
  framed n σ xs d c s = record {
    different = d;
    seen = record { sits = s; rest = λ x o. refl; closed = below_closed n σ c };
    far = stays_off t law (nth xs) n σ s (below_closed n σ c) (below_round n σ c);
  }

  module _ (x y z p c g : ℕ) (r : Tri t.next x y z) (s : Tri t.next p c g) (f : Fresh p (x ∷ y ∷ z ∷ [])) where
    apart₂ : Disjoint (x ∷ y ∷ z ∷ []) (p ∷ c ∷ g ∷ [])
    apart₂ = turned_round x y z p c g (tri_disjoint t law x y z r p c g s f)

    pub distinct₂ : Distinct (x ∷ y ∷ z ∷ p ∷ c ∷ g ∷ [])
    distinct₂ = distinct-++ (x ∷ y ∷ z ∷ []) (p ∷ c ∷ g ∷ []) (tri_distinct t law x y z r) (tri_distinct t law p c g s) apart₂

    pub framed₂ : Framed t.next (nth (x ∷ y ∷ z ∷ p ∷ c ∷ g ∷ [])) 6 σ₆
    framed₂ = framed 6 σ₆ (x ∷ y ∷ z ∷ p ∷ c ∷ g ∷ []) (apart (x ∷ y ∷ z ∷ p ∷ c ∷ g ∷ []) distinct₂) tt
        (each 6 (λ k. t.next (nth (x ∷ y ∷ z ∷ p ∷ c ∷ g ∷ []) k) ≡ Some (nth (x ∷ y ∷ z ∷ p ∷ c ∷ g ∷ []) (σ₆ k)))
        ((((((tt, r.one), r.two), r.three), s.one), s.two), s.three))
