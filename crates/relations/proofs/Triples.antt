-- The frames of three and of four triangles, and swaps of named edges.
use Rattle.std.proofs.lemmas.Bool.{cond-false, cond-true}
use Rattle.std.proofs.Common.{◌≡◌, ℕ, ◌+◌, ◌*◌, ◌<◌, Bool, true, false, cond, eqb, ◌≢◌, List, [], ◌∷◌, ◌++◌, Some, sym, refl, ap, ◌∙◌, eq-eqb, ne_eqb}
use native.Mathlib.Decide.{ℕ_discrete}
use Rattle.triangulations.specs.Triangulations.{Table, Triangulation, Lawful}
use Rattle.triangulations.specs.Steps.{exchanged, swap, relabelled}
use Rattle.triangulations.proofs.Frames.{Closed, Apart, Off, Seen, tri, seen_relabel}
use Rattle.triangulations.proofs.Triangles.{nth, Fresh, Distinct, Disjoint, fresh-++, distinct-++, apart, each, Tri, tri_distinct, tri_disjoint}
use Rattle.triangulations.proofs.Pairs.{swap_other, Framed, framed, distinct₂}
use Rattle.triangulations.proofs.Relabellings.{exchanged_first, exchanged_second, swap_even, swap_odd}

abbrev pub exch₂ : ℕ → ℕ → ℕ → ℕ → ℕ → ℕ
exch₂ i j i' j' k = cond (eqb k i) i' (cond (eqb k j) j' (cond (eqb k i') i (cond (eqb k j') j k)))

-- a swap of two edges whose darts have names
module _ (φ : ℕ → ℕ) (n : ℕ) (ap-φ : Apart n φ) (t₀ : Table) (far : (x y : ℕ) → Off φ n x → t₀ x ≡ Some y → Off φ n y)
    (e i j : ℕ) (hi : i < n) (hj : j < n) (di : 2 * e ≡ φ i) (dj : 2 * e + 1 ≡ φ j)
    (f i' j' : ℕ) (hi' : i' < n) (hj' : j' < n) (di' : 2 * f ≡ φ i') (dj' : 2 * f + 1 ≡ φ j') where
  exch₂_closed : Closed n (exch₂ i j i' j')
  exch₂_closed k h = go (eqb k i) (eqb k j) (eqb k i') (eqb k j')
    where
      go : (b c b' c' : Bool) → cond b i' (cond c j' (cond b' i (cond c' j k))) < n
      go true c b' c' = hi'
      go false true b' c' = hj'
      go false false true c' = hi
      go false false false true = hj
      go false false false false = h

  swap_named : (k : ℕ) → k < n → swap e f (φ k) ≡ φ (exch₂ i j i' j' k)
  swap_named k h = go (ℕ_discrete k i) (ℕ_discrete k j) (ℕ_discrete k i') (ℕ_discrete k j')
    where
      r₃ : ℕ
      r₃ = cond (eqb k j') j k

      r₂ : ℕ
      r₂ = cond (eqb k i') i r₃

      r₁ : ℕ
      r₁ = cond (eqb k j) j' r₂

      n₀ : k ≢ i → exch₂ i j i' j' k ≡ r₁
      n₀ q = cond-false (eqb k i) i' r₁ (ne_eqb k i q)

      n₁ : k ≢ j → r₁ ≡ r₂
      n₁ q = cond-false (eqb k j) j' r₂ (ne_eqb k j q)

      n₂ : k ≢ i' → r₂ ≡ r₃
      n₂ q = cond-false (eqb k i') i r₃ (ne_eqb k i' q)

      n₃ : k ≢ j' → r₃ ≡ k
      n₃ q = cond-false (eqb k j') j k (ne_eqb k j' q)

      to_f : (s : ℕ → ℕ) (d : ℕ) → swap e f d ≡ s (exchanged e f e) → swap e f d ≡ s f
      to_f s d p = p ∙ ap s (exchanged_first e f e refl)

      to_e : (s : ℕ → ℕ) (d : ℕ) → swap e f d ≡ s (exchanged e f f) → swap e f d ≡ s e
      to_e s d p = p ∙ ap s (exchanged_second e f f refl)

      go : Dec (k ≡ i) → Dec (k ≡ j) → Dec (k ≡ i') → Dec (k ≡ j') → swap e f (φ k) ≡ φ (exch₂ i j i' j' k)
      go (yes q) b c d = ap (swap e f) (ap φ q ∙ sym di) ∙ (to_f (λ m. 2 * m) _ (swap_even e f e) ∙ (di' ∙ ap φ (sym (cond-true (eqb k i) i' r₁ (eq-eqb k i q)))))
      go (no a) (yes q) c d =
          ap (swap e f) (ap φ q ∙ sym dj) ∙ (to_f (λ m. 2 * m + 1) _ (swap_odd e f e) ∙ (dj' ∙ ap φ (sym (n₀ a ∙ cond-true (eqb k j) j' r₂ (eq-eqb k j q)))))
      go (no a) (no b) (yes q) d =
          ap (swap e f) (ap φ q ∙ sym di')
          ∙ (to_e (λ m. 2 * m) _ (swap_even e f f) ∙ (di ∙ ap φ (sym (n₀ a ∙ (n₁ b ∙ cond-true (eqb k i') i r₃ (eq-eqb k i' q))))))
      go (no a) (no b) (no c) (yes q) =
          ap (swap e f) (ap φ q ∙ sym dj')
          ∙ (to_e (λ m. 2 * m + 1) _ (swap_odd e f f) ∙ (dj ∙ ap φ (sym (n₀ a ∙ (n₁ b ∙ (n₂ c ∙ cond-true (eqb k j') j k (eq-eqb k j' q)))))))
      go (no a) (no b) (no c) (no d) =
          swap_other e f (φ k) (λ s. a (ap-φ k i h hi (s ∙ di))) (λ s. b (ap-φ k j h hj (s ∙ dj))) (λ s. c (ap-φ k i' h hi' (s ∙ di'))) (λ s. d (ap-φ k j' h hj' (s ∙ dj')))
          ∙ ap φ (sym (n₀ a ∙ (n₁ b ∙ (n₂ c ∙ n₃ d))))

  pub seen_swap : (σ : ℕ → ℕ) (t : Table) → Seen φ n t₀ σ t → Seen φ n t₀ (λ k. exch₂ i j i' j' (σ (exch₂ i j i' j' k))) (relabelled (swap e f) t)
  seen_swap σ t v = seen_relabel φ n ap-φ t₀ (swap e f) (exch₂ i j i' j') exch₂_closed swap_named
      (λ x o. swap_other e f x (λ s. o i hi (s ∙ di)) (λ s. o j hj (s ∙ dj)) (λ s. o i' hi' (s ∙ di')) (λ s. o j' hj' (s ∙ dj'))) far σ t v

-- three and four triangles, closed
abbrev pub σ₉ : ℕ → ℕ
σ₉ = tri 0 1 2 (tri 3 4 5 (tri 6 7 8 (λ k. k)))

abbrev pub σ₁₂ : ℕ → ℕ
σ₁₂ = tri 0 1 2 (tri 3 4 5 (tri 6 7 8 (tri 9 10 11 (λ k. k))))

disjoint-++ : (xs ys zs : List ℕ) → Disjoint xs ys → Disjoint xs zs → Disjoint xs (ys ++ zs)
disjoint-++ [] ys zs a b = tt
disjoint-++ (x ∷ xs) ys zs a b = (fresh-++ x ys zs a.0 b.0, disjoint-++ xs ys zs a.1 b.1)

-- the triangle that comes last stands first
module _ (t : Triangulation) (law : Lawful t) (x y z p c g : ℕ) (r : Tri t.next x y z) (s : Tri t.next p c g) (f : Fresh p (x ∷ y ∷ z ∷ []))
    (u v w : ℕ) (q : Tri t.next u v w) (f₁ : Fresh u (x ∷ y ∷ z ∷ [])) (f₂ : Fresh u (p ∷ c ∷ g ∷ [])) where
  abbrev nine : List ℕ
  nine = u ∷ v ∷ w ∷ x ∷ y ∷ z ∷ p ∷ c ∷ g ∷ []

  distinct₃ : Distinct nine
  distinct₃ = distinct-++ (u ∷ v ∷ w ∷ []) (x ∷ y ∷ z ∷ p ∷ c ∷ g ∷ []) (tri_distinct t law u v w q) (distinct₂ t law x y z p c g r s f)
      (disjoint-++ (u ∷ v ∷ w ∷ []) (x ∷ y ∷ z ∷ []) (p ∷ c ∷ g ∷ []) (tri_disjoint t law x y z r u v w q f₁) (tri_disjoint t law p c g s u v w q f₂))

  pub framed₃ : Framed t.next (nth (u ∷ v ∷ w ∷ x ∷ y ∷ z ∷ p ∷ c ∷ g ∷ [])) 9 σ₉
  framed₃ = framed t law 9 σ₉ nine (apart nine distinct₃) tt
      (each 9 (λ k. t.next (nth nine k) ≡ Some (nth nine (σ₉ k)))
      (((((((((tt, q.one), q.two), q.three), r.one), r.two), r.three), s.one), s.two), s.three))

  module _ (k l m : ℕ) (o : Tri t.next k l m) (g₁ : Fresh k (x ∷ y ∷ z ∷ [])) (g₂ : Fresh k (p ∷ c ∷ g ∷ [])) (g₃ : Fresh k (u ∷ v ∷ w ∷ [])) where
    abbrev twelve : List ℕ
    twelve = k ∷ l ∷ m ∷ nine

    distinct₄ : Distinct twelve
    distinct₄ = distinct-++ (k ∷ l ∷ m ∷ []) nine (tri_distinct t law k l m o) distinct₃
        (disjoint-++ (k ∷ l ∷ m ∷ []) (u ∷ v ∷ w ∷ []) (x ∷ y ∷ z ∷ p ∷ c ∷ g ∷ []) (tri_disjoint t law u v w q k l m o g₃)
        (disjoint-++ (k ∷ l ∷ m ∷ []) (x ∷ y ∷ z ∷ []) (p ∷ c ∷ g ∷ []) (tri_disjoint t law x y z r k l m o g₁) (tri_disjoint t law p c g s k l m o g₂)))

    pub framed₄ : Framed t.next (nth (k ∷ l ∷ m ∷ u ∷ v ∷ w ∷ x ∷ y ∷ z ∷ p ∷ c ∷ g ∷ [])) 12 σ₁₂
    framed₄ = framed t law 12 σ₁₂ twelve (apart twelve distinct₄) tt
        (each 12 (λ i. t.next (nth twelve i) ≡ Some (nth twelve (σ₁₂ i)))
        ((((((((((((tt, o.one), o.two), o.three), q.one), q.two), q.three), r.one), r.two), r.three), s.one), s.two), s.three))
