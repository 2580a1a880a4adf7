-- Flips keep the laws and undo one another, and two of them are a turn.
use Rattle.std.proofs.Math.Dec.{T_not}
use Rattle.std.proofs.Math.Facts.{and_yes, yes_eqb}
use Rattle.std.proofs.lemmas.Option.{same_Some}
use Rattle.std.proofs.Common.{◌≡◌, ℕ, ◌+◌, ◌*◌, ◌<◌, Bool, true, false, not, ◌&&◌, ◌||◌, T as Yes, eqb, ◌≢◌, ◌⊎◌, List, [], ◌∷◌, Some, None, Option, sym, refl, ap, ◌∙◌, subst, inl, inr, lit<}
use Rattle.triangulations.specs.Triangulations.{Table, Triangulation, Lawful, after, is_some, inside, together, flippable}
use Rattle.triangulations.specs.Steps.{Direction, left, right, turn, relabelled, flipped, L, R, T, stepped, apply_step}
use Rattle.triangulations.proofs.Frames.{Apart, Off, Seen, named, flip, eqb_named, after_is, seen_same, same_below}
use Rattle.triangulations.proofs.Triangles.{nth, Fresh, Tri, tri_of}
use Rattle.triangulations.proofs.Pairs.{Framed, framed₂, σ₆, exch, lawful_below, below_moves, below_round, seen_step_flip, seen_turn}

pub some_none : (a : ℕ) → Some a ≢ None
some_none a e = subst (λ r. Yes (is_some r)) e tt

-- a table seen on a frame of a lawful one, with a closed lawful function on the names, is lawful
module _ (t : Triangulation) (law : Lawful t) (φ : ℕ → ℕ) (n : ℕ) (σ : ℕ → ℕ) (fr : Framed t.next φ n σ)
    (σ' : ℕ → ℕ) (t' : Table) (v : Seen φ n t.next σ' t') where
  none_before : (x : ℕ) → t' x ≡ None → t.next x ≡ None
  none_before x e = go (named φ n x)
    where
      go : ((k : ℕ) × (k < n) × (x ≡ φ k)) ⊎ Off φ n x → t.next x ≡ None
      go (inl (k, h, p)) = absurd (some_none _ (sym (ap t' p ∙ v.sits k h) ∙ e))
      go (inr o) = sym (v.rest x o) ∙ e

  module _ (c : Yes (lawful_below n σ')) where
    seen_follows : (d a : ℕ) → t' d ≡ Some a → (b : ℕ) × (t' a ≡ Some b)
    seen_follows d a e = go (named φ n d)
      where
        go : ((k : ℕ) × (k < n) × (d ≡ φ k)) ⊎ Off φ n d → (b : ℕ) × (t' a ≡ Some b)
        go (inl (k, h, p)) = (φ (σ' (σ' k)), ap t' (same_Some _ _ (sym e ∙ (ap t' p ∙ v.sits k h))) ∙ v.sits (σ' k) (v.closed k h))
        go (inr o) =
            let q : t.next d ≡ Some a = sym (v.rest d o) ∙ e in
            ((law.follows d a q).0, v.rest a (fr.far d a o q) ∙ (law.follows d a q).1)

    seen_moves : (d : ℕ) → t' d ≢ Some d
    seen_moves d e = go (named φ n d)
      where
        go : ((k : ℕ) × (k < n) × (d ≡ φ k)) ⊎ Off φ n d → ⊥
        go (inl (k, h, p)) =
            below_moves n σ' c k h (fr.different _ _ (v.closed k h) h (same_Some _ _ (sym (ap t' p ∙ v.sits k h) ∙ (e ∙ ap Some p))))
        go (inr o) = law.moves d (sym (v.rest d o) ∙ e)

    seen_round : (d a b : ℕ) → t' d ≡ Some a → t' a ≡ Some b → t' b ≡ Some d
    seen_round d a b e f = go (named φ n d)
      where
        go : ((k : ℕ) × (k < n) × (d ≡ φ k)) ⊎ Off φ n d → t' b ≡ Some d
        go (inl (k, h, p)) =
            let pa : a ≡ φ (σ' k) = same_Some _ _ (sym e ∙ (ap t' p ∙ v.sits k h)) in
            let pb : b ≡ φ (σ' (σ' k)) = same_Some _ _ (sym f ∙ (ap t' pa ∙ v.sits _ (v.closed k h))) in
            ap t' pb ∙ (v.sits _ (v.closed _ (v.closed k h)) ∙ (ap (λ m. Some (φ m)) (below_round n σ' c k h) ∙ ap Some (sym p)))
        go (inr o) =
            let ea : t.next d ≡ Some a = sym (v.rest d o) ∙ e in
            let oa : Off φ n a = fr.far d a o ea in
            let eb : t.next a ≡ Some b = sym (v.rest a oa) ∙ f in
            v.rest b (fr.far a b oa eb) ∙ law.round d a b ea eb

    seen_bounded : (d a : ℕ) → t' d ≡ Some a → d < 2 * t.edges
    seen_bounded d a e = go (named φ n d)
      where
        go : ((k : ℕ) × (k < n) × (d ≡ φ k)) ⊎ Off φ n d → d < 2 * t.edges
        go (inl (k, h, p)) = law.bounded d _ (ap t.next p ∙ fr.seen.sits k h)
        go (inr o) = law.bounded d a (sym (v.rest d o) ∙ e)

    pub seen_lawful : Lawful (record { edges = t.edges; next = t' })
    seen_lawful = record {
      follows = seen_follows;
      moves = seen_moves;
      round = seen_round;
      covered = λ e h p q. law.covered e h (none_before (2 * e) p) (none_before (2 * e + 1) q);
      bounded = seen_bounded;
    }

-- the triangles at an edge that can be flipped
pub is_some_of : (r : Option ℕ) → Yes (is_some r) → (a : ℕ) × (r ≡ Some a)
is_some_of None h = absurd h
is_some_of (Some a) h = (a, refl)

or_l : (a b : Bool) → Yes a → Yes (a || b)
or_l true b h = tt
or_l false b h = absurd h

or_r : (a b : Bool) → Yes b → Yes (a || b)
or_r true b h = tt
or_r false b h = h

pub inside_tri : (t : Triangulation) → Lawful t → (d : ℕ) → Yes (inside t.next d)
    → Tri t.next d (after t.next d) (after t.next (after t.next d))
inside_tri t law d h = tri_of t law d (is_some_of (t.next d) h).0 (is_some_of (t.next d) h).1

pub together_fresh : (t : Table) (d x : ℕ) → Yes (not (together t d x)) → Fresh x (d ∷ after t d ∷ after t (after t d) ∷ [])
unfolding together
together_fresh t d x h = (
  (λ e. T_not _ h (or_l (eqb x d) _ (yes_eqb e))),
  (
    (λ e. T_not _ h (or_r (eqb x d) _ (or_l (eqb x (after t d)) _ (yes_eqb e)))),
    ((λ e. T_not _ h (or_r (eqb x d) _ (or_r (eqb x (after t d)) _ (yes_eqb e)))), tt),
  ),
)

-- the closed tests
abbrev pub tog : (ℕ → ℕ) → ℕ → ℕ → Bool
tog σ i j = eqb j i || (eqb j (σ i) || eqb j (σ (σ i)))

module _ (φ : ℕ → ℕ) (n : ℕ) (different : Apart n φ) (t₀ : Table) (σ : ℕ → ℕ) (t : Table) (v : Seen φ n t₀ σ t) where
  pub seen_after : (i : ℕ) → i < n → after t (φ i) ≡ φ (σ i)
  seen_after i h = after_is t (φ i) _ (v.sits i h)

  pub seen_after₂ : (i : ℕ) → i < n → after t (after t (φ i)) ≡ φ (σ (σ i))
  seen_after₂ i h = ap (after t) (seen_after i h) ∙ seen_after (σ i) (v.closed i h)

  pub seen_inside : (i : ℕ) → i < n → inside t (φ i) ≡ true
  seen_inside i h = ap is_some (v.sits i h)

  pub seen_together : (i j : ℕ) → i < n → j < n → together t (φ i) (φ j) ≡ tog σ i j
  unfolding together
  seen_together i j hi hj =
      (λ m. eqb (φ j) (φ i) || (eqb (φ j) (seen_after i hi m) || eqb (φ j) (seen_after₂ i hi m)))
      ∙ (λ m. eqb_named φ n different j i hj hi m || (eqb_named φ n different j (σ i) hj (v.closed i hi) m || eqb_named φ n different j (σ (σ i)) hj (v.closed _ (v.closed i hi)) m))

  pub seen_flippable : (e i j : ℕ) → i < n → j < n → 2 * e ≡ φ i → 2 * e + 1 ≡ φ j → flippable t e ≡ not (tog σ i j)
  seen_flippable e i j hi hj di dj =
      (λ m. inside t (di m) && (inside t (dj m) && not (together t (di m) (dj m))))
      ∙ (λ m. seen_inside i hi m && (seen_inside j hj m && not (seen_together i j hi hj m)))

-- the names of the six darts
unfoldable pub six : Table → ℕ → List ℕ
six t e =
    (2 * e) ∷ after t (2 * e) ∷ after t (after t (2 * e))
    ∷ (2 * e + 1) ∷ after t (2 * e + 1) ∷ after t (after t (2 * e + 1)) ∷ []

module _ (t : Triangulation) (law : Lawful t) (e : ℕ) (h : Yes (flippable t.next e)) where
  pub flip_parts : Yes (inside t.next (2 * e)) × Yes (inside t.next (2 * e + 1)) × Yes (not (together t.next (2 * e) (2 * e + 1)))
  flip_parts = (
    (and_yes (inside t.next (2 * e)) _ h).0,
    (and_yes (inside t.next (2 * e + 1)) _ ((and_yes (inside t.next (2 * e)) _ h).1)).0,
    (and_yes (inside t.next (2 * e + 1)) _ ((and_yes (inside t.next (2 * e)) _ h).1)).1,
  )

  pub framed_flip : Framed t.next (nth (six t.next e)) 6 σ₆
  unfolding six
  framed_flip = framed₂ t law _ _ _ _ _ _ (inside_tri t law (2 * e) flip_parts.0) (inside_tri t law (2 * e + 1) flip_parts.1)
      (together_fresh t.next (2 * e) (2 * e + 1) flip_parts.2)

  pub at_0 : 2 * e ≡ nth (six t.next e) 0
  unfolding six
  at_0 = refl

  pub at_3 : 2 * e + 1 ≡ nth (six t.next e) 3
  unfolding six
  at_3 = refl

  pub fl : (w : Direction) (σ : ℕ → ℕ) (u : Table) → Seen (nth (six t.next e)) 6 t.next σ u → Seen (nth (six t.next e)) 6 t.next (flip w 0 3 σ) (flipped w (2 * e) (2 * e + 1) u)
  fl w σ u v = seen_step_flip (nth (six t.next e)) 6 framed_flip.different t.next framed_flip.far e 0 3 (lit< tt) (lit< tt) at_0 at_3 w σ u v

  pub once : (w : Direction) → Seen (nth (six t.next e)) 6 t.next (flip w 0 3 σ₆) (flipped w (2 * e) (2 * e + 1) t.next)
  once w = fl w σ₆ t.next framed_flip.seen

  pub turned : Seen (nth (six t.next e)) 6 t.next (λ k. exch 0 3 (σ₆ (exch 0 3 k))) (relabelled (turn e) t.next)
  turned = seen_turn (nth (six t.next e)) 6 framed_flip.different t.next framed_flip.far e 0 3 (lit< tt) (lit< tt) at_0 at_3 σ₆ t.next framed_flip.seen

  pub L_lawful : Lawful (apply_step (L e) t)
  L_lawful = seen_lawful t law (nth (six t.next e)) 6 σ₆ framed_flip (flip left 0 3 σ₆) _ (once left) tt

  pub R_lawful : Lawful (apply_step (R e) t)
  R_lawful = seen_lawful t law (nth (six t.next e)) 6 σ₆ framed_flip (flip right 0 3 σ₆) _ (once right) tt

  pub L_then_R : stepped (R e) (stepped (L e) t.next) ≡ t.next
  L_then_R = seen_same (nth (six t.next e)) 6 framed_flip.different t.next (flip right 0 3 (flip left 0 3 σ₆)) σ₆ _ _ (same_below 6 _ _ tt) (fl right _ _ (once left)) framed_flip.seen

  pub R_then_L : stepped (L e) (stepped (R e) t.next) ≡ t.next
  R_then_L = seen_same (nth (six t.next e)) 6 framed_flip.different t.next (flip left 0 3 (flip right 0 3 σ₆)) σ₆ _ _ (same_below 6 _ _ tt) (fl left _ _ (once right)) framed_flip.seen

  pub L_then_L : stepped (L e) (stepped (L e) t.next) ≡ stepped (T e) t.next
  L_then_L = seen_same (nth (six t.next e)) 6 framed_flip.different t.next (flip left 0 3 (flip left 0 3 σ₆)) (λ k. exch 0 3 (σ₆ (exch 0 3 k))) _ _ (same_below 6 _ _ tt)
      (fl left _ _ (once left)) turned

  pub R_then_R : stepped (R e) (stepped (R e) t.next) ≡ stepped (T e) t.next
  R_then_R = seen_same (nth (six t.next e)) 6 framed_flip.different t.next (flip right 0 3 (flip right 0 3 σ₆)) (λ k. exch 0 3 (σ₆ (exch 0 3 k))) _ _ (same_below 6 _ _ tt)
      (fl right _ _ (once right)) turned

  -- the edge can be flipped again
  pub L_again : Yes (flippable (stepped (L e) t.next) e)
  L_again = subst Yes (sym (seen_flippable (nth (six t.next e)) 6 framed_flip.different t.next (flip left 0 3 σ₆) _ (once left) e 0 3 (lit< tt) (lit< tt) at_0 at_3)) tt

  pub R_again : Yes (flippable (stepped (R e) t.next) e)
  R_again = subst Yes (sym (seen_flippable (nth (six t.next e)) 6 framed_flip.different t.next (flip right 0 3 σ₆) _ (once right) e 0 3 (lit< tt) (lit< tt) at_0 at_3)) tt
