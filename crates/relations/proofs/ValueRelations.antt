-- What two flips do to the values, and that label steps pass the others on values.
use Rattle.std.proofs.Common.{◌≡◌, ℕ, ◌+◌, ◌*◌, cond, not, T as Yes, eqb, [], ◌∷◌, sym, refl, ap, ◌∙◌, subst, arith, lit<}
use native.Mathlib.Decide.{ℕ_discrete}
use Rattle.triangulations.specs.Triangulations.{Table, Triangulation, Lawful, after, edge_of, flippable, shares}
use Rattle.triangulations.specs.Steps.{Direction, left, right, turn, swap, exchanged, flipped, relabelled, Step, L, R, T, S, stepped}
use Rattle.triangulations.proofs.Frames.{Seen, flip}
use Rattle.triangulations.proofs.Triangles.{nth, turn_even, turn_odd, turn_else}
use Rattle.triangulations.proofs.Pairs.{Framed, σ₆}
use Rattle.triangulations.proofs.Flips.{six, framed_flip, once, at_0, at_3}
use Rattle.triangulations.proofs.Relabellings.{Own, exchanged_own, swap_own, swap_even, swap_odd, swap_edge, turn_own, turn_edge}
use Rattle.exact.specs.Field.{Field, Laws}
use Rattle.exact.specs.Flips.{flipped as flipped_value}
use Rattle.exact.proofs.Rearranged.{chain}
use Rattle.exact.proofs.Normal.{◌⊕◌, ◌⊗◌, ◌⊘◌, ◌≗◌, prove}
use Rattle.exact.proofs.Ptolemy.{flipped_half_turn}
use Rattle.relations.specs.Values.{Values, worth, flip_value, value_step, Same}
use Rattle.relations.specs.Rewritings.{renamed_step}
use Rattle.relations.proofs.Triples.{σ₁₂}
use Rattle.relations.proofs.Renaming.{after_past, eqb_past, exchanged_along, exchanged_sorted}
use Rattle.relations.proofs.Commuting.{twelve, framed_both, both_e, both_f, e_0, e_1, f_0, f_1}
use Rattle.relations.proofs.Valued.{flip_w, bump, bump_off, Valued, valued_flip, value_at, same_of, cond_same}

-- two flips of one edge
module _ {F : Field} (laws : Laws F) (t : Triangulation) (law : Lawful t) (e : ℕ) (h : Yes (flippable t.next e)) (v : Values F) where
  abbrev w₀ : ℕ → F.Exact
  w₀ k = worth F v (nth (six t.next e) k)

  again : (σ : ℕ → ℕ) (u : Table) → Seen (nth (six t.next e)) 6 t.next σ u → (x : ℕ → F.Exact) (z : Values F) → Valued F (nth (six t.next e)) 6 x z
      → Valued F (nth (six t.next e)) 6 (flip_w (flipped_value F) 0 3 σ x) (bump F u e z)
  again = valued_flip F _ 6 (framed_flip t law e h).different t.next e 0 3 (lit< tt) (lit< tt) (at_0 t law e h) (at_3 t law e h)

  at_first : (x : ℕ → F.Exact) (z : Values F) → Valued F (nth (six t.next e)) 6 x z → z e ≡ x 0
  at_first = value_at F _ 6 (framed_flip t law e h).different t.next e 0 3 (lit< tt) (lit< tt) (at_0 t law e h) (at_3 t law e h)

  pub flip_twice : (w : Direction) → Same F (bump F (flipped w (2 * e) (2 * e + 1) t.next) e (bump F t.next e v)) v
  flip_twice w k = go (ℕ_discrete k e)
    where
      twice : Values F
      twice = bump F (flipped w (2 * e) (2 * e + 1) t.next) e (bump F t.next e v)

      closed : (w : Direction) → F.same (flip_w (flipped_value F) 0 3 (flip w 0 3 σ₆) (flip_w (flipped_value F) 0 3 σ₆ w₀) 0) (w₀ 0)
      closed left = prove laws (w₀ 1 ∷ w₀ 2 ∷ w₀ 4 ∷ w₀ 5 ∷ w₀ 0 ∷ []) (λ A B C G E. (B ⊗ G ⊕ C ⊗ A) ⊘ ((A ⊗ C ⊕ B ⊗ G) ⊘ E) ≗ E) tt
      closed right = prove laws (w₀ 1 ∷ w₀ 2 ∷ w₀ 4 ∷ w₀ 5 ∷ w₀ 0 ∷ []) (λ A B C G E. (G ⊗ B ⊕ A ⊗ C) ⊘ ((A ⊗ C ⊕ B ⊗ G) ⊘ E) ≗ E) tt

      value : F.same (twice e) (v e)
      value =
          chain laws (same_of laws (at_first _ twice (again _ _ (once t law e h w) _ _ (again _ _ (framed_flip t law e h).seen w₀ v (λ k hk. refl)))))
          (chain laws (closed w) (same_of laws (sym (at_first w₀ v (λ k hk. refl)))))

      go : Dec (k ≡ e) → F.same (twice k) (v k)
      go (yes p) = subst (λ m. F.same (twice m) (v m)) (sym p) value
      go (no p) = same_of laws (bump_off F _ e (bump F t.next e v) k p ∙ bump_off F _ e v k p)

-- two flips whose edges share no triangle
module _ (F : Field) (t : Triangulation) (law : Lawful t) (e f : ℕ) (he : Yes (flippable t.next e)) (far : Yes (not (shares t.next e f))) (hf : Yes (flippable t.next f))
    (v : Values F) (w w' : Direction) where
  abbrev u₀ : ℕ → F.Exact
  u₀ k = worth F v (nth (twelve t.next e f) k)

  abbrev fr : Framed t.next (nth (twelve t.next e f)) 12 σ₁₂
  fr = framed_both t law e f he far hf

  abbrev one_side : Values F
  one_side = bump F (flipped w (2 * e) (2 * e + 1) t.next) f (bump F t.next e v)

  abbrev other_side : Values F
  other_side = bump F (flipped w' (2 * f) (2 * f + 1) t.next) e (bump F t.next f v)

  by_e : (σ : ℕ → ℕ) (u : Table) → Seen (nth (twelve t.next e f)) 12 t.next σ u → (x : ℕ → F.Exact) (z : Values F) → Valued F (nth (twelve t.next e f)) 12 x z
      → Valued F (nth (twelve t.next e f)) 12 (flip_w (flipped_value F) 6 9 σ x) (bump F u e z)
  by_e = valued_flip F _ 12 fr.different t.next e 6 9 (lit< tt) (lit< tt) (e_0 t law e f he far hf) (e_1 t law e f he far hf)

  by_f : (σ : ℕ → ℕ) (u : Table) → Seen (nth (twelve t.next e f)) 12 t.next σ u → (x : ℕ → F.Exact) (z : Values F) → Valued F (nth (twelve t.next e f)) 12 x z
      → Valued F (nth (twelve t.next e f)) 12 (flip_w (flipped_value F) 3 0 σ x) (bump F u f z)
  by_f = valued_flip F _ 12 fr.different t.next f 3 0 (lit< tt) (lit< tt) (f_0 t law e f he far hf) (f_1 t law e f he far hf)

  then_f : Valued F (nth (twelve t.next e f)) 12 (flip_w (flipped_value F) 3 0 (flip w 6 9 σ₁₂) (flip_w (flipped_value F) 6 9 σ₁₂ u₀)) one_side
  then_f = by_f _ _ (both_e t law e f he far hf w σ₁₂ t.next fr.seen) _ _ (by_e _ _ fr.seen u₀ v (λ k hk. refl))

  then_e : Valued F (nth (twelve t.next e f)) 12 (flip_w (flipped_value F) 6 9 (flip w' 3 0 σ₁₂) (flip_w (flipped_value F) 3 0 σ₁₂ u₀)) other_side
  then_e = by_e _ _ (both_f t law e f he far hf w' σ₁₂ t.next fr.seen) _ _ (by_f _ _ fr.seen u₀ v (λ k hk. refl))

  closed : (w w' : Direction)
      → (flip_w (flipped_value F) 3 0 (flip w 6 9 σ₁₂) (flip_w (flipped_value F) 6 9 σ₁₂ u₀) 3 ≡ flip_w (flipped_value F) 6 9 (flip w' 3 0 σ₁₂) (flip_w (flipped_value F) 3 0 σ₁₂ u₀) 3)
      × (flip_w (flipped_value F) 3 0 (flip w 6 9 σ₁₂) (flip_w (flipped_value F) 6 9 σ₁₂ u₀) 6 ≡ flip_w (flipped_value F) 6 9 (flip w' 3 0 σ₁₂) (flip_w (flipped_value F) 3 0 σ₁₂ u₀) 6)
  closed left left = (refl, refl)
  closed left right = (refl, refl)
  closed right left = (refl, refl)
  closed right right = (refl, refl)

  at_e : (u : ℕ → F.Exact) (v : Values F) → Valued F (nth (twelve t.next e f)) 12 u v → v e ≡ u 6
  at_e = value_at F _ 12 fr.different t.next e 6 9 (lit< tt) (lit< tt) (e_0 t law e f he far hf) (e_1 t law e f he far hf)

  at_f : (u : ℕ → F.Exact) (v : Values F) → Valued F (nth (twelve t.next e f)) 12 u v → v f ≡ u 3
  at_f = value_at F _ 12 fr.different t.next f 3 0 (lit< tt) (lit< tt) (f_0 t law e f he far hf) (f_1 t law e f he far hf)

  pub apart_values : (k : ℕ)
      → bump F (flipped w (2 * e) (2 * e + 1) t.next) f (bump F t.next e v) k ≡ bump F (flipped w' (2 * f) (2 * f + 1) t.next) e (bump F t.next f v) k
  apart_values k = go (ℕ_discrete k e) (ℕ_discrete k f)
    where
      go : Dec (k ≡ e) → Dec (k ≡ f) → one_side k ≡ other_side k
      go (yes p) q = ap one_side p ∙ ((at_e _ one_side then_f ∙ ((closed w w').1 ∙ sym (at_e _ other_side then_e))) ∙ ap other_side (sym p))
      go (no p) (yes q) = ap one_side q ∙ ((at_f _ one_side then_f ∙ ((closed w w').0 ∙ sym (at_f _ other_side then_e))) ∙ ap other_side (sym q))
      go (no p) (no q) = (bump_off F _ f (bump F t.next e v) k q ∙ bump_off F _ e v k p) ∙ sym (bump_off F _ e (bump F t.next f v) k p ∙ bump_off F _ f v k q)

-- new names π, where v' has at each new name the value that v has at the old
module _ (F : Field) (π : ℕ → ℕ) (own : Own π) (t : Table) (v v' : Values F) (agree : (d : ℕ) → worth F v' (π d) ≡ worth F v d) where
  abbrev new : Table
  new = relabelled π t

  one_past : (d d' : ℕ) → π d ≡ d' → worth F v' (after new d') ≡ worth F v (after t d)
  one_past d d' p = ap (λ x. worth F v' (after new x)) (sym p) ∙ (ap (worth F v') (after_past π own t d) ∙ agree (after t d))

  two_past : (d d' : ℕ) → π d ≡ d' → worth F v' (after new (after new d')) ≡ worth F v (after t (after t d))
  two_past d d' p = ap (λ x. worth F v' (after new (after new x))) (sym p) ∙ one_past (after t d) (after new (π d)) (sym (after_past π own t d))

  flip_past : (d d' p p' : ℕ) → π d ≡ d' → π p ≡ p' → (x x' : F.Exact) → x' ≡ x
      → flipped_value F (worth F v' (after new d')) (worth F v' (after new p')) (worth F v' (after new (after new d'))) (worth F v' (after new (after new p'))) x'
      ≡ flipped_value F (worth F v (after t d)) (worth F v (after t p)) (worth F v (after t (after t d))) (worth F v (after t (after t p))) x
  flip_past d d' p p' a b x x' q = λ i. flipped_value F (one_past d d' a i) (one_past p p' b i) (two_past d d' a i) (two_past p p' b i) (q i)

-- a swap passes any step, on values
module _ (F : Field) (e f : ℕ) (t : Table) (v : Values F) where
  carried_value : (k : ℕ) → flip_value F (relabelled (swap e f) t) (exchanged e f k) (λ m. v (exchanged e f m)) ≡ flip_value F t k v
  unfolding flip_value
  carried_value k = flip_past F (swap e f) (swap_own e f) t v (λ m. v (exchanged e f m)) (λ d. ap v (ap (exchanged e f) (swap_edge e f d) ∙ exchanged_own e f (edge_of d)))
      (2 * k) _ (2 * k + 1) _ (swap_even e f k) (swap_odd e f k) (v k) _ (ap v (exchanged_own e f k))

  carried_bump : (k m : ℕ) → bump F (relabelled (swap e f) t) (exchanged e f k) (λ m. v (exchanged e f m)) m ≡ bump F t k v (exchanged e f m)
  carried_bump k m = λ i. cond (eqb_past (exchanged e f) (exchanged_own e f) k m i) (carried_value k i) (v (exchanged e f m))

  pub carry_values : (s : Step) (m : ℕ) → value_step F (renamed_step e f s) (stepped (S e f) t) (value_step F (S e f) t v) m ≡ value_step F (S e f) (stepped s t) (value_step F s t v) m
  carry_values (L k) m = carried_bump k m
  carry_values (R k) m = carried_bump k m
  carry_values (T k) m = refl
  carry_values (S k l) m =
      ap (λ x. v (exchanged e f x)) (exchanged_sorted (exchanged e f k) (exchanged e f l) m)
      ∙ ap v (ap (λ x. exchanged e f (exchanged (exchanged e f k) (exchanged e f l) x)) (sym (exchanged_own e f m))
      ∙ (ap (exchanged e f) (exchanged_along (exchanged e f) (exchanged_own e f) k l (exchanged e f m)) ∙ exchanged_own e f (exchanged k l (exchanged e f m))))

-- a turn does not change what a flip makes of the values
module _ {F : Field} (laws : Laws F) (e : ℕ) (t : Table) (v : Values F) where
  turned_value : (k : ℕ) → F.same (flip_value F (relabelled (turn e) t) k v) (flip_value F t k v)
  unfolding flip_value
  turned_value k = go (ℕ_discrete k e)
    where
      go : Dec (k ≡ e) → F.same (flip_value F (relabelled (turn e) t) k v) (flip_value F t k v)
      go (yes p) = chain laws
          (same_of laws (flip_past F (turn e) (turn_own e) t v v (λ d. ap v (turn_edge e d)) (2 * k + 1) (2 * k) (2 * k) (2 * k + 1)
          (ap (λ m. turn m (2 * k + 1)) (sym p) ∙ turn_odd k) (ap (λ m. turn m (2 * k)) (sym p) ∙ turn_even k) (v k) (v k) refl))
          (flipped_half_turn laws _ _ _ _ (v k))
      go (no p) = same_of laws (flip_past F (turn e) (turn_own e) t v v (λ d. ap v (turn_edge e d)) (2 * k) (2 * k) (2 * k + 1) (2 * k + 1)
          (turn_else e (2 * k) (λ q. omega arith) (λ q. omega arith)) (turn_else e (2 * k + 1) (λ q. omega arith) (λ q. omega arith)) (v k) (v k) refl)

  pub turn_passes_values : (k : ℕ) → Same F (bump F (relabelled (turn e) t) k v) (bump F t k v)
  turn_passes_values k m = cond_same laws (eqb m k) (turned_value k) (laws.same_refl (v m))
