-- Tables that are stored as lists: what a write does, and the law as a test.
use Rattle.std.proofs.Math.Facts.{and_yes, yes_and}
use Rattle.std.proofs.Common.{◌≡◌, ℕ, zero, suc, ◌+◌, ◌*◌, ◌<◌, ◌≤◌, Bool, true, false, cond, not, ◌&&◌, ◌||◌, T as Yes, eqb, List, length, get_or, set, replicate, Some, None, Option, sym, refl, ap, ◌∙◌, subst, add-one, arith, eqb→eq, ltb→lt, lt→ltb, length-set, get_or-set_other, get_or-set_same, eq-eqb, ne_eqb}
use Rattle.std.specs.Prelude.{MatchBool}
use Rattle.std.specs.List.{range_with_len, AllWithin, HoldsAt}
use Rattle.std.proofs.lemmas.List.FromFn.{length-range_with_len, get_or-range_with_len}
use native.Mathlib.Decide.{ℕ_discrete, dec_lt}
use mathlib.Core.Path.{fun_ext}
use Rattle.triangulations.specs.Triangulations.{Table, Triangulation, Lawful, after, is_some, inside}
use Rattle.triangulations.specs.Steps.{triangle}
use Rattle.std.proofs.lemmas.List.{get_or_past}
use Rattle.triangulations.proofs.Frames.{at_below, after_is}
use Rattle.triangulations.specs.Stored.{table_of, written, all_below, turns_back, lawful_test, within, covers, lawful_list}
use Rattle.triangulations.proofs.Flips.{some_none, is_some_of}
use Rattle.triangulations.proofs.Pairs.{not_eqb}

-- one write
pub table_set : (xs : List (Option ℕ)) (i : ℕ) (v : Option ℕ) → i < length xs → (d : ℕ) → table_of (set xs i v) d ≡ cond (eqb d i) v (table_of xs d)
table_set xs i v h d = go (ℕ_discrete d i)
  where
    go : Dec (d ≡ i) → table_of (set xs i v) d ≡ cond (eqb d i) v (table_of xs d)
    go (yes p) = ap (table_of (set xs i v)) p ∙ (get_or-set_same xs i v None h ∙ sym (ap (λ b. cond b v (table_of xs d)) (eq-eqb d i p)))
    go (no p) = get_or-set_other xs i d v None p ∙ sym (ap (λ b. cond b v (table_of xs d)) (ne_eqb d i p))

-- a triangle by three writes, that of x last
pub table_triangle : (xs : List (Option ℕ)) (x y z : ℕ) → x < length xs → y < length xs → z < length xs
    → table_of (written x y z xs) ≡ triangle x y z (table_of xs)
unfolding triangle
table_triangle xs x y z hx hy hz = fun_ext (λ d.
    table_set (set (set xs z (Some x)) y (Some z)) x (Some y) (subst (λ n. x < n) (sym (length-set (set xs z (Some x)) y (Some z) ∙ length-set xs z (Some x))) hx) d
    ∙ ap (cond (eqb d x) (Some y)) (table_set (set xs z (Some x)) y (Some z) (subst (λ n. y < n) (sym (length-set xs z (Some x))) hy) d
    ∙ ap (cond (eqb d y) (Some z)) (table_set xs z (Some x) hz d)))

pub beyond : (xs : List (Option ℕ)) (d : ℕ) → length xs ≤ d → table_of xs d ≡ None
beyond xs d h = get_or_past xs d None h

pub lawful_by_test : (n : ℕ) (t : Table) → ((d a : ℕ) → t d ≡ Some a → d < 2 * n) → Yes (lawful_test n t) → Lawful (record { edges = n; next = t })
lawful_by_test n t bound c = record {
  follows = λ d a e. is_some_of (t a) ((and_yes (inside t a) _ (at_dart d a e)).0);
  moves = λ d e. not_eqb d d ((and_yes (not (eqb d d)) _ ((and_yes (inside t d) _ (at_dart d d e)).1)).0) refl;
  round = λ d a b e f. round d a b e f (is_some_of (t b) ((and_yes (inside t b) _ (at_dart a b f)).0));
  covered = λ e h p q. covered e h p q;
  bounded = bound;
}
  where
    at_dart : (d a : ℕ) → t d ≡ Some a → Yes (inside t a && (not (eqb a d) && eqb (after t (after t a)) d))
    at_dart d a e = subst (λ r. Yes (turns_back t d r)) e (at_below (2 * n) (λ d. turns_back t d (t d)) ((and_yes (all_below (2 * n) (λ d. turns_back t d (t d))) _ c).0) d (bound d a e))

    round : (d a b : ℕ) → t d ≡ Some a → t a ≡ Some b → (x : ℕ) × (t b ≡ Some x) → t b ≡ Some d
    round d a b e f (x, g) =
        let q : after t (after t a) ≡ d = eqb→eq _ _ ((and_yes (not (eqb a d)) _ ((and_yes (inside t a) _ (at_dart d a e)).1)).1) in
        let r : after t (after t a) ≡ x = ap (after t) (after_is t a b f) ∙ after_is t b x g in
        g ∙ ap Some (sym r ∙ q)

    covered : (e : ℕ) → e < n → t (2 * e) ≡ None → t (2 * e + 1) ≡ None → ⊥
    covered e h p q =
        let u : Yes (inside t (2 * e) || inside t (2 * e + 1)) =
        at_below n (covers t) ((and_yes (all_below (2 * n) (λ d. turns_back t d (t d))) _ c).1) e h in
        subst (λ r. Yes (is_some r)) q (subst (λ r. Yes (is_some r || inside t (2 * e + 1))) p u)

-- the test of a list, and back
below_all : (n : ℕ) (p : ℕ → Bool) → ((k : ℕ) → k < n → Yes (p k)) → Yes (all_below n p)
below_all zero p h = tt
below_all (suc n) p h = yes_and (p n) (all_below n p) (h n (omega arith)) (below_all n p (λ k l. h k (omega arith)))

pub lawful_from_list : (n : ℕ) (xs : List (Option ℕ)) → Yes (lawful_list n xs) → Lawful (record { edges = n; next = table_of xs })
unfolding lawful_list
lawful_from_list n xs c = lawful_by_test n (table_of xs) bound ((and_yes (all_below (length xs) (λ d. within n d (table_of xs d))) _ c).1)
  where
    bound : (d a : ℕ) → table_of xs d ≡ Some a → d < 2 * n
    bound d a e = go (dec_lt d (length xs))
      where
        go : Dec (d < length xs) → d < 2 * n
        go (yes h) = ltb→lt d (2 * n) (subst (λ r. Yes (within n d r)) e (at_below (length xs) (λ d. within n d (table_of xs d)) ((and_yes (all_below (length xs) (λ d. within n d (table_of xs d))) _ c).0) d h))
        go (no h) = absurd (some_none a (sym e ∙ beyond xs d (omega arith)))

pub list_from_lawful : (n : ℕ) (xs : List (Option ℕ)) → Lawful (record { edges = n; next = table_of xs }) → Yes (lawful_list n xs)
unfolding lawful_list
list_from_lawful n xs law = yes_and _ _
    (below_all (length xs) (λ d. within n d (table_of xs d)) (λ d _. bound d (table_of xs d) refl))
    (yes_and _ _ (below_all (2 * n) (λ d. turns_back (table_of xs) d (table_of xs d)) (λ d _. dart d (table_of xs d) refl))
    (below_all n (covers (table_of xs)) (λ e h. cover e h (table_of xs (2 * e)) refl (table_of xs (2 * e + 1)) refl)))
  where
    bound : (d : ℕ) (r : Option ℕ) → table_of xs d ≡ r → Yes (within n d r)
    bound d None e = tt
    bound d (Some a) e = lt→ltb d (2 * n) (law.bounded d a e)

    dart : (d : ℕ) (r : Option ℕ) → table_of xs d ≡ r → Yes (turns_back (table_of xs) d r)
    dart d None e = tt
    dart d (Some a) e =
        let p = law.follows d a e in
        let q = law.round d a p.0 e p.1 in
        yes_and _ _ (subst (λ r. Yes (is_some r)) (sym p.1) tt)
        (yes_and _ _ (subst (λ b. Yes (not b)) (sym (ne_eqb a d (λ k. law.moves d (e ∙ ap Some k)))) tt)
        (subst Yes (sym (eq-eqb _ _ (ap (after (table_of xs)) (after_is (table_of xs) a p.0 p.1) ∙ after_is (table_of xs) p.0 d q))) tt))

    cover : (e : ℕ) → e < n → (r : Option ℕ) → table_of xs (2 * e) ≡ r → (s : Option ℕ) → table_of xs (2 * e + 1) ≡ s → Yes (is_some r || is_some s)
    cover e h (Some a) p s q = tt
    cover e h None p (Some a) q = tt
    cover e h None p None q = absurd (law.covered e h p q)

-- one number more
pub below_more : (p : ℕ → Bool) (i : ℕ) → all_below i p ≡ true → p i ≡ true → all_below (i + 1) p ≡ true
below_more p i h k = ap (λ n. all_below n p) (add-one i) ∙ (λ j. k j && h j)

pub below_fails : (n : ℕ) (p : ℕ → Bool) (k : ℕ) → k < n → p k ≡ false → all_below n p ≡ false
below_fails n p k h e = go (all_below n p) refl
  where
    go : (b : Bool) → all_below n p ≡ b → b ≡ false
    go false q = refl
    go true q = absurd (subst Yes e (at_below n p (subst Yes (sym q) tt) k h))

-- a test that holds is true
pub yes_is : (b : Bool) → Yes b → true ≡ b
yes_is true y = refl
yes_is false y = absurd y

-- what `all` over the numbers below n answers
pub all_in_range : (n : ℕ) (p : ℕ → Bool) (r : Bool)
    → MatchBool r (AllWithin (λ x. true ≡ p x) (range_with_len 0 n) 0 (length (range_with_len 0 n))) ((k : ℕ) × (k < length (range_with_len 0 n)) × HoldsAt (λ x. false ≡ p x) (range_with_len 0 n) k)
    → r ≡ all_below n p
all_in_range n p true h = yes_is _ (below_all n p (λ k l. let at : get_or (range_with_len 0 n) k 0 ≡ k = get_or-range_with_len 0 n k 0 l ∙ omega arith in subst Yes (h k 0 (omega arith) (omega (arith, length-range_with_len 0 n)) ∙ ap p at) tt))
all_in_range n p false (k, l, h) =
    let m : k < n = omega (arith, l, length-range_with_len 0 n) in
    let at : get_or (range_with_len 0 n) k 0 ≡ k = get_or-range_with_len 0 n k 0 m ∙ omega arith in
    sym (below_fails n p k m (sym (h 0 ∙ ap p at)))

-- a list of no followers
pub none_stored : (n d : ℕ) → table_of (replicate n None) d ≡ None
none_stored zero d = refl
none_stored (suc n) zero = refl
none_stored (suc n) (suc d) = none_stored n d

-- a lawful triangulation has no follower past its darts
pub none_past : (t : Triangulation) → Lawful t → (d : ℕ) → 2 * t.edges ≤ d → t.next d ≡ None
none_past t law d h = go (t.next d) refl
  where
    go : (r : Option ℕ) → t.next d ≡ r → r ≡ None
    go None e = refl
    go (Some a) e = let low = law.bounded d a e in absurd (omega arith)
