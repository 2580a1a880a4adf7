-- The place of a pentagon is found by four tests, and there is one at most.
use Rattle.std.proofs.Math.Dec.{T_not}
use Rattle.std.proofs.Math.Facts.{and_yes, yes_and}
use Rattle.std.proofs.Common.{◌≡◌, ℕ, ◌+◌, ◌*◌, ◌%◌, Bool, true, false, cond, ◌&&◌, T as Yes, ◌≢◌, ◌⊎◌, [], ◌∷◌, Some, None, Option, sym, refl, ap, ◌∙◌, subst, inl, inr, arith}
use native.Mathlib.Decide.{ℕ_discrete}
use Rattle.triangulations.specs.Triangulations.{Table, Triangulation, Lawful, after, partner, edge_of, together, flippable}
use Rattle.triangulations.proofs.Triangles.{Disjoint}
use Rattle.relations.specs.Pentagons.{corner, first_of, pentagon_at, Pentagon}
use Rattle.relations.proofs.PentagonPlaces.{Among, together_cases, re, rf, differ, next_x, next_y, next_next_y}

no_both : (x y z p c g u : ℕ) → Disjoint (x ∷ y ∷ z ∷ []) (p ∷ c ∷ g ∷ []) → Among u x y z → Among u p c g → ⊥
no_both x y z p c g u d (inl a) (inl b) = d.0.0 (sym a ∙ b)
no_both x y z p c g u d (inl a) (inr (inl b)) = d.0.1.0 (sym a ∙ b)
no_both x y z p c g u d (inl a) (inr (inr b)) = d.0.1.1.0 (sym a ∙ b)
no_both x y z p c g u d (inr (inl a)) (inl b) = d.1.0.0 (sym a ∙ b)
no_both x y z p c g u d (inr (inl a)) (inr (inl b)) = d.1.0.1.0 (sym a ∙ b)
no_both x y z p c g u d (inr (inl a)) (inr (inr b)) = d.1.0.1.1.0 (sym a ∙ b)
no_both x y z p c g u d (inr (inr a)) (inl b) = d.1.1.0.0 (sym a ∙ b)
no_both x y z p c g u d (inr (inr a)) (inr (inl b)) = d.1.1.0.1.0 (sym a ∙ b)
no_both x y z p c g u d (inr (inr a)) (inr (inr b)) = d.1.1.0.1.1.0 (sym a ∙ b)

turn_one : (u x y z : ℕ) → Among u x y z → Among u y z x
turn_one u x y z (inl a) = inr (inr a)
turn_one u x y z (inr (inl a)) = inl a
turn_one u x y z (inr (inr a)) = inr (inl a)

side_of : (e x x' : ℕ) → edge_of x ≡ e → edge_of x' ≡ e → Dec (x' ≡ x) → (x' ≡ x) ⊎ (x' ≡ partner x)
side_of e x x' p q (yes r) = inl r
side_of e x x' p q (no r) = inr (omega arith)

module _ (t : Triangulation) (law : Lawful t) (e f x y : ℕ) (at : Pentagon t.next e f x y) where
  abbrev n : Table
  n = t.next

  -- what lies in the shared triangle, as y sees it
  around : (u : ℕ) → Yes (together n x u) → Among u y (after n y) (after n (after n y))
  around u h = go (together_cases n x y at.shared) (together_cases n x u h)
    where
      moved : {x y z x' y' z' : ℕ} → x' ≡ x → y' ≡ y → z' ≡ z → Among u x y z → Among u x' y' z'
      moved a b c (inl p) = inl (p ∙ sym a)
      moved a b c (inr (inl p)) = inr (inl (p ∙ sym b))
      moved a b c (inr (inr p)) = inr (inr (p ∙ sym c))

      go : Among y x (after n x) (after n (after n x)) → Among u x (after n x) (after n (after n x)) → Among u y (after n y) (after n (after n y))
      go (inl r) m = absurd (differ t law e f x y at (sym at.x_of ∙ (ap edge_of (sym r) ∙ at.y_of)))
      go (inr (inl q)) m = moved q (next_y t law e f x y at q) (next_next_y t law e f x y at q) (turn_one u _ _ _ m)
      go (inr (inr q)) m =
          let a : after n y ≡ x = next_x t law e f x y at q in
          moved q a (ap (after n) a) (turn_one u _ _ _ (turn_one u _ _ _ m))

  pub unique : (x' y' : ℕ) → Pentagon t.next e f x' y' → (x' ≡ x) × (y' ≡ y)
  unique x' y' at' = go (side_of e x x' at.x_of at'.x_of (ℕ_discrete x' x)) (side_of f y y' at.y_of at'.y_of (ℕ_discrete y' y))
    where
      seen : (a b : ℕ) → x' ≡ a → y' ≡ b → Yes (together n a b)
      seen a b p q = subst (λ b. Yes (together n a b)) q (subst (λ a. Yes (together n a y')) p at'.shared)

      go : (x' ≡ x) ⊎ (x' ≡ partner x) → (y' ≡ y) ⊎ (y' ≡ partner y) → (x' ≡ x) × (y' ≡ y)
      go (inl p) (inl q) = (p, q)
      go (inl p) (inr q) = absurd (no_both _ _ _ _ _ _ (partner y) (rf t law e f x y at).split (around (partner y) (seen x (partner y) p q)) (inl refl))
      go (inr p) (inl q) = absurd (no_both _ _ _ _ _ _ y (re t law e f x y at).split (together_cases n x y at.shared) (together_cases n (partner x) y (seen (partner x) y p q)))
      go (inr p) (inr q) = absurd (T_not _ at.only (seen (partner x) (partner y) p q))

-- the four tests
from_corner : (t : Table) (e f : ℕ) → Yes (flippable t e) → Yes (flippable t f) → (x y : ℕ) → edge_of x ≡ e → edge_of y ≡ f → Yes (corner t x y) → Pentagon t e f x y
unfolding corner
from_corner t e f he hf x y p q h = record {
  e_flips = he;
  f_flips = hf;
  x_of = p;
  y_of = q;
  shared = (and_yes (together t x y) _ h).0;
  only = (and_yes (together t x y) _ h).1;
}

to_corner : (t : Table) (e f x y : ℕ) → Pentagon t e f x y → Yes (corner t x y)
unfolding corner
to_corner t e f x y at = yes_and (together t x y) _ at.shared at.only

abbrev pub Found : Table → ℕ → ℕ → Option (ℕ × ℕ) → Type 0
Found t e f None = (x y : ℕ) → Pentagon t e f x y → ⊥
Found t e f (Some p) = Pentagon t e f p.0 p.1

-- what the four tests find is a place, and where they find none there is none
pub found : (t : Table) (e f : ℕ) → Found t e f (pentagon_at t e f)
unfolding pentagon_at
found t e f = start (flippable t e) (flippable t f) refl refl
  where
    yes_of : (b : Bool) → b ≡ true → Yes b
    yes_of b p = subst Yes (sym p) tt

    no_of : (b : Bool) → b ≡ false → Yes b → ⊥
    no_of b p h = subst Yes p h

    four : Yes (flippable t e) → Yes (flippable t f) → (b₁ b₂ b₃ b₄ : Bool) → corner t (2 * e) (2 * f) ≡ b₁ → corner t (2 * e) (2 * f + 1) ≡ b₂
        → corner t (2 * e + 1) (2 * f) ≡ b₃ → corner t (2 * e + 1) (2 * f + 1) ≡ b₄
        → Found t e f (first_of b₁ (2 * e, 2 * f) (first_of b₂ (2 * e, 2 * f + 1) (first_of b₃ (2 * e + 1, 2 * f) (first_of b₄ (2 * e + 1, 2 * f + 1) None))))
    four he hf true b₂ b₃ b₄ p q r s = from_corner t e f he hf (2 * e) (2 * f) (omega arith) (omega arith) (yes_of _ p)
    four he hf false true b₃ b₄ p q r s = from_corner t e f he hf (2 * e) (2 * f + 1) (omega arith) (omega arith) (yes_of _ q)
    four he hf false false true b₄ p q r s = from_corner t e f he hf (2 * e + 1) (2 * f) (omega arith) (omega arith) (yes_of _ r)
    four he hf false false false true p q r s = from_corner t e f he hf (2 * e + 1) (2 * f + 1) (omega arith) (omega arith) (yes_of _ s)
    four he hf false false false false p q r s = λ x y at. none x y at (ℕ_discrete (x % 2) 0) (ℕ_discrete (y % 2) 0)
      where
        moved_to : (x y a b : ℕ) → x ≡ a → y ≡ b → Yes (corner t x y) → Yes (corner t a b)
        moved_to x y a b u v h = subst (λ b. Yes (corner t a b)) v (subst (λ a. Yes (corner t a y)) u h)

        even : (e x : ℕ) → edge_of x ≡ e → x % 2 ≡ 0 → x ≡ 2 * e
        even e x u v = omega arith

        odd : (e x : ℕ) → edge_of x ≡ e → x % 2 ≢ 0 → x ≡ 2 * e + 1
        odd e x u v = omega arith

        none : (x y : ℕ) → Pentagon t e f x y → Dec (x % 2 ≡ 0) → Dec (y % 2 ≡ 0) → ⊥
        none x y at (yes u) (yes v) = no_of _ p (moved_to x y _ _ (even e x at.x_of u) (even f y at.y_of v) (to_corner t e f x y at))
        none x y at (yes u) (no v) = no_of _ q (moved_to x y _ _ (even e x at.x_of u) (odd f y at.y_of v) (to_corner t e f x y at))
        none x y at (no u) (yes v) = no_of _ r (moved_to x y _ _ (odd e x at.x_of u) (even f y at.y_of v) (to_corner t e f x y at))
        none x y at (no u) (no v) = no_of _ s (moved_to x y _ _ (odd e x at.x_of u) (odd f y at.y_of v) (to_corner t e f x y at))

    start : (b c : Bool) → flippable t e ≡ b → flippable t f ≡ c
        → Found t e f (cond (b && c) (first_of (corner t (2 * e) (2 * f)) (2 * e, 2 * f) (first_of (corner t (2 * e) (2 * f + 1)) (2 * e, 2 * f + 1)
        (first_of (corner t (2 * e + 1) (2 * f)) (2 * e + 1, 2 * f) (first_of (corner t (2 * e + 1) (2 * f + 1)) (2 * e + 1, 2 * f + 1) None)))) None)
    start true true p q = four (yes_of _ p) (yes_of _ q) _ _ _ _ refl refl refl refl
    start true false p q = λ x y at. no_of _ q at.f_flips
    start false c p q = λ x y at. no_of _ p at.e_flips

-- each place is the one found
pub found_it : (t : Triangulation) → Lawful t → (e f x y : ℕ) → Pentagon t.next e f x y → pentagon_at t.next e f ≡ Some (x, y)
found_it t law e f x y at = go (pentagon_at t.next e f) refl (found t.next e f)
  where
    go : (r : Option (ℕ × ℕ)) → pentagon_at t.next e f ≡ r → Found t.next e f r → r ≡ Some (x, y)
    go None p h = absurd (h x y at)
    go (Some z) p h = let k = unique t law e f x y at z.0 z.1 h in λ i. Some (k.0 i, k.1 i)
