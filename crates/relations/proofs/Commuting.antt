-- Two flips whose edges share no triangle commute.
use Rattle.std.proofs.Common.{◌≡◌, ℕ, zero, suc, ◌+◌, ◌*◌, Bool, true, false, not, ◌&&◌, ◌||◌, T as Yes, eqb, List, [], ◌∷◌, Some, None, Option, sym, refl, ap, ◌∙◌, subst, arith, lit<}
use Rattle.triangulations.specs.Triangulations.{Table, Triangulation, Lawful, or_else, after, is_some, inside, together, flippable, meets, shares}
use Rattle.triangulations.specs.Steps.{Direction, left, right, flipped}
use Rattle.triangulations.specs.Stored.{all_below}
use Rattle.triangulations.proofs.Frames.{Off, Seen, flip, same_below, seen_same}
use Rattle.triangulations.proofs.Triangles.{nth, Fresh}
use Rattle.triangulations.proofs.Pairs.{Framed, seen_step_flip}
use Rattle.triangulations.proofs.Flips.{tog, flip_parts, inside_tri, together_fresh, seen_flippable, six, framed_flip, once}
use Rattle.relations.proofs.Triples.{σ₁₂, framed₄}

not_or : (a b : Bool) → Yes (not (a || b)) → Yes (not a) × Yes (not b)
not_or true b h = absurd h
not_or false b h = (tt, h)

not_and : (a b : Bool) → Yes a → Yes (not (a && b)) → Yes (not b)
not_and true b h k = k
not_and false b h k = absurd h

-- the three darts of a triangle
abbrev three : Table → ℕ → List ℕ
three t d = d ∷ after t d ∷ after t (after t d) ∷ []

unmet : (t : Table) (d f : ℕ) → Yes (inside t d) → Yes (not (meets t d f)) → Fresh (2 * f) (three t d) × Fresh (2 * f + 1) (three t d)
unmet t d f i h =
    let k = not_or (together t d (2 * f)) (together t d (2 * f + 1)) (not_and (inside t d) _ i h) in
    (together_fresh t d (2 * f) k.0, together_fresh t d (2 * f + 1) k.1)

-- the twelve darts
unfoldable pub twelve : Table → ℕ → ℕ → List ℕ
twelve t e f =
    (2 * f + 1) ∷ after t (2 * f + 1) ∷ after t (after t (2 * f + 1)) ∷ (2 * f) ∷ after t (2 * f) ∷ after t (after t (2 * f))
    ∷ (2 * e) ∷ after t (2 * e) ∷ after t (after t (2 * e)) ∷ (2 * e + 1) ∷ after t (2 * e + 1) ∷ after t (after t (2 * e + 1)) ∷ []

module _ (t : Triangulation) (law : Lawful t) (e f : ℕ) (he : Yes (flippable t.next e)) (far : Yes (not (shares t.next e f))) where
  -- the darts of f lie in neither triangle of e
  parted : (Fresh (2 * f) (three t.next (2 * e)) × Fresh (2 * f + 1) (three t.next (2 * e)))
      × (Fresh (2 * f) (three t.next (2 * e + 1)) × Fresh (2 * f + 1) (three t.next (2 * e + 1)))
  parted =
      let a = flip_parts t law e he in
      let p = not_or (meets t.next (2 * e) f) _ far in
      (unmet t.next (2 * e) f a.0 p.0, unmet t.next (2 * e + 1) f a.1 p.1)

  module _ (hf : Yes (flippable t.next f)) where
    pub framed_both : Framed t.next (nth (twelve t.next e f)) 12 σ₁₂
    unfolding twelve
    framed_both =
        let a = flip_parts t law e he in
        let b = flip_parts t law f hf in
        framed₄ t law _ _ _ _ _ _ (inside_tri t law (2 * e) a.0) (inside_tri t law (2 * e + 1) a.1) (together_fresh t.next (2 * e) (2 * e + 1) a.2)
        _ _ _ (inside_tri t law (2 * f) b.0) parted.0.0 parted.1.0
        _ _ _ (inside_tri t law (2 * f + 1) b.1) parted.0.1 parted.1.1
        (together_fresh t.next (2 * f) (2 * f + 1) b.2)

    pub e_0 : 2 * e ≡ nth (twelve t.next e f) 6
    unfolding twelve
    e_0 = refl

    pub e_1 : 2 * e + 1 ≡ nth (twelve t.next e f) 9
    unfolding twelve
    e_1 = refl

    pub f_0 : 2 * f ≡ nth (twelve t.next e f) 3
    unfolding twelve
    f_0 = refl

    pub f_1 : 2 * f + 1 ≡ nth (twelve t.next e f) 0
    unfolding twelve
    f_1 = refl

    pub both_e : (w : Direction) (σ : ℕ → ℕ) (u : Table) → Seen (nth (twelve t.next e f)) 12 t.next σ u
        → Seen (nth (twelve t.next e f)) 12 t.next (flip w 6 9 σ) (flipped w (2 * e) (2 * e + 1) u)
    both_e w σ u v = seen_step_flip _ 12 framed_both.different t.next framed_both.far e 6 9 (lit< tt) (lit< tt) e_0 e_1 w σ u v

    pub both_f : (w : Direction) (σ : ℕ → ℕ) (u : Table) → Seen (nth (twelve t.next e f)) 12 t.next σ u
        → Seen (nth (twelve t.next e f)) 12 t.next (flip w 3 0 σ) (flipped w (2 * f) (2 * f + 1) u)
    both_f w σ u v = seen_step_flip _ 12 framed_both.different t.next framed_both.far f 3 0 (lit< tt) (lit< tt) f_0 f_1 w σ u v

    pub flips_commute : (w w' : Direction) → flipped w' (2 * f) (2 * f + 1) (flipped w (2 * e) (2 * e + 1) t.next)
        ≡ flipped w (2 * e) (2 * e + 1) (flipped w' (2 * f) (2 * f + 1) t.next)
    flips_commute w w' = seen_same _ 12 framed_both.different t.next _ _ _ _ (same_below 12 _ _ (closed w w'))
        (both_f w' _ _ (both_e w _ _ framed_both.seen)) (both_e w _ _ (both_f w' _ _ framed_both.seen))
      where
        closed : (w w' : Direction) → Yes (all_below 12 (λ k. eqb (flip w' 3 0 (flip w 6 9 σ₁₂) k) (flip w 6 9 (flip w' 3 0 σ₁₂) k)))
        closed left left = tt
        closed left right = tt
        closed right left = tt
        closed right right = tt

    pub e_stays : (w : Direction) → Yes (flippable (flipped w (2 * f) (2 * f + 1) t.next) e)
    e_stays w = subst Yes (sym (seen_flippable _ 12 framed_both.different t.next _ _ (both_f w _ _ framed_both.seen) e 6 9 (lit< tt) (lit< tt) e_0 e_1)) (closed w)
      where
        closed : (w : Direction) → Yes (not (tog (flip w 3 0 σ₁₂) 6 9))
        closed left = tt
        closed right = tt

  -- a flip of e leaves alone what lies off its six darts
  off_six : (x : ℕ) → Fresh x (three t.next (2 * e)) → Fresh x (three t.next (2 * e + 1)) → Off (nth (six t.next e)) 6 x
  unfolding six
  off_six x a b zero h = a.0
  off_six x a b (suc zero) h = a.1.0
  off_six x a b (suc (suc zero)) h = a.1.1.0
  off_six x a b (suc (suc (suc zero))) h = b.0
  off_six x a b (suc (suc (suc (suc zero)))) h = b.1.0
  off_six x a b (suc (suc (suc (suc (suc zero))))) h = b.1.1.0
  off_six x a b (suc (suc (suc (suc (suc (suc k)))))) h = absurd (omega arith)

  off_after : (x : ℕ) → Off (nth (six t.next e)) 6 x → Off (nth (six t.next e)) 6 (after t.next x)
  off_after x o = go (t.next x) refl
    where
      go : (r : Option ℕ) → t.next x ≡ r → Off (nth (six t.next e)) 6 (or_else x r)
      go None p = o
      go (Some y) p = (framed_flip t law e he).far x y o p

  -- an edge that shares no triangle with e could be flipped before the flip of e, if it can after it
  pub before_flip : (w : Direction) → Yes (flippable (flipped w (2 * e) (2 * e + 1) t.next) f) → Yes (flippable t.next f)
  unfolding together
  before_flip w h = subst Yes stays h
    where
      new : Table
      new = flipped w (2 * e) (2 * e + 1) t.next

      a : Off (nth (six t.next e)) 6 (2 * f)
      a = off_six (2 * f) parted.0.0 parted.1.0

      b : Off (nth (six t.next e)) 6 (2 * f + 1)
      b = off_six (2 * f + 1) parted.0.1 parted.1.1

      still : (x : ℕ) → Off (nth (six t.next e)) 6 x → new x ≡ t.next x
      still x o = (once t law e he w).rest x o

      still_after : (x : ℕ) → Off (nth (six t.next e)) 6 x → after new x ≡ after t.next x
      still_after x o = ap (or_else x) (still x o)

      second : after new (after new (2 * f)) ≡ after t.next (after t.next (2 * f))
      second = ap (after new) (still_after (2 * f) a) ∙ still_after (after t.next (2 * f)) (off_after (2 * f) a)

      stays : flippable new f ≡ flippable t.next f
      stays =
          λ i. is_some (still (2 * f) a i) && (is_some (still (2 * f + 1) b i) && not (eqb (2 * f + 1) (2 * f) || (eqb (2 * f + 1) (still_after (2 * f) a i) || eqb (2 * f + 1) (second i))))
