-- New names for the darts: flips commute with them, and label steps pass every step and keep which steps are legal.
use Rattle.std.proofs.Common.{◌≡◌, ℕ, ◌+◌, ◌-◌, ◌*◌, ◌%◌, ◌<◌, ◌≤◌, min, max, Bool, true, false, cond, not, ◌&&◌, ◌||◌, T as Yes, eqb, ◌≢◌, Some, None, Option, sym, refl, ap, ◌∙◌, subst, arith, lit<, eq-eqb, ne_eqb}
use native.Mathlib.Decide.{ℕ_discrete, dec_le}
use mathlib.Core.Path.{fun_ext}
use Rattle.triangulations.specs.Triangulations.{Table, Triangulation, Lawful, or_else, is_some, inside, after, partner, edge_of, together, flippable}
use Rattle.triangulations.specs.Steps.{Direction, left, right, renamed, turn, exchanged, swap, triangle, flipped_by, flipped, relabelled, Step, L, R, T, S, stepped, apply_step, LegalStep}
use Rattle.triangulations.specs.Stored.{all_below}
use Rattle.triangulations.proofs.Frames.{flip, flipped_as, seen_same, same_below}
use Rattle.triangulations.proofs.Triangles.{turn_else}
use Rattle.triangulations.proofs.Pairs.{exch, σ₆, seen_turn}
use Rattle.triangulations.proofs.Flips.{framed_flip, at_0, at_3, fl, once, turned, seen_flippable}
use Rattle.triangulations.proofs.Relabellings.{Own, exchanged_first, exchanged_second, exchanged_else, exchanged_own, exchanged_below, side_side, side_below, swap_own, swap_even, swap_odd, swap_edge, turn_first, turn_other, partner_edge, turn_edge, turn_own}
use Rattle.triangulations.proofs.Labels.{turn_twice, swap_twice, step_lawful}
use Rattle.triangulations.proofs.Undoing.{with_table}
use Rattle.relations.specs.Rewritings.{renamed_step}

renamed_both : (π ρ ρ' : ℕ → ℕ) → ((x : ℕ) → ρ' (π x) ≡ π (ρ x)) → (r : Option ℕ) → renamed π (renamed ρ r) ≡ renamed ρ' (renamed π r)
renamed_both π ρ ρ' h None = refl
renamed_both π ρ ρ' h (Some x) = ap Some (sym (h x))

-- the relabellings by ρ and then π are those by π and then ρ'
relabelled_past : (π ρ ρ' : ℕ → ℕ) → Own π → ((x : ℕ) → ρ' (π x) ≡ π (ρ x)) → (t : Table)
    → relabelled π (relabelled ρ t) ≡ relabelled ρ' (relabelled π t)
unfolding relabelled
relabelled_past π ρ ρ' own h t = fun_ext (λ d. renamed_both π ρ ρ' h (t (ρ (π d))) ∙ ap (λ x. renamed ρ' (renamed π (t x))) (back d))
  where
    back : (d : ℕ) → ρ (π d) ≡ π (ρ' d)
    back d = sym (own (ρ (π d))) ∙ ap π (sym (h (π d)) ∙ ap ρ' (own d))

module _ (π : ℕ → ℕ) (own : Own π) where
  pub eqb_past : (x d : ℕ) → eqb d (π x) ≡ eqb (π d) x
  eqb_past x d = go (ℕ_discrete (π d) x)
    where
      go : Dec (π d ≡ x) → eqb d (π x) ≡ eqb (π d) x
      go (yes e) = eq-eqb d (π x) (sym (own d) ∙ ap π e) ∙ sym (eq-eqb (π d) x e)
      go (no n) = ne_eqb d (π x) (λ e. n (ap π e ∙ own x)) ∙ sym (ne_eqb (π d) x n)

  eqb_both : (x y : ℕ) → eqb (π x) (π y) ≡ eqb x y
  eqb_both x y = eqb_past y (π x) ∙ ap (λ z. eqb z y) (own x)

  cond_renamed : (b₁ b₂ b₃ : Bool) (x y z : ℕ) (r : Option ℕ)
      → cond b₁ (Some (π y)) (cond b₂ (Some (π z)) (cond b₃ (Some (π x)) (renamed π r))) ≡ renamed π (cond b₁ (Some y) (cond b₂ (Some z) (cond b₃ (Some x) r)))
  cond_renamed true b₂ b₃ x y z r = refl
  cond_renamed false true b₃ x y z r = refl
  cond_renamed false false true x y z r = refl
  cond_renamed false false false x y z r = refl

  triangle_past : (x y z : ℕ) (t : Table) → triangle (π x) (π y) (π z) (relabelled π t) ≡ relabelled π (triangle x y z t)
  unfolding triangle relabelled
  triangle_past x y z t = fun_ext (λ d.
      (λ i. cond (eqb_past x d i) (Some (π y)) (cond (eqb_past y d i) (Some (π z)) (cond (eqb_past z d i) (Some (π x)) (renamed π (t (π d))))))
      ∙ cond_renamed (eqb (π d) x) (eqb (π d) y) (eqb (π d) z) x y z (t (π d)))

  or_else_past : (d : ℕ) (r : Option ℕ) → or_else (π d) (renamed π r) ≡ π (or_else d r)
  or_else_past d None = refl
  or_else_past d (Some x) = refl

  flipped_by_past : (w : Direction) (d p a b c g : ℕ) (t : Table)
      → flipped_by w (π d) (π p) (π a) (π b) (π c) (π g) (relabelled π t) ≡ relabelled π (flipped_by w d p a b c g t)
  unfolding flipped_by
  flipped_by_past left d p a b c g t = ap (triangle (π d) (π b) (π c)) (triangle_past p g a t) ∙ triangle_past d b c (triangle p g a t)
  flipped_by_past right d p a b c g t = ap (triangle (π d) (π g) (π a)) (triangle_past p b c t) ∙ triangle_past d g a (triangle p b c t)

  module _ (t : Table) where
    pub after_past : (d : ℕ) → after (relabelled π t) (π d) ≡ π (after t d)
    unfolding relabelled
    after_past d = ap (λ x. or_else (π d) (renamed π (t x))) (own d) ∙ or_else_past d (t d)

    -- flips commute with new names
    flipped_past : (w : Direction) (d p : ℕ) → flipped w (π d) (π p) (relabelled π t) ≡ relabelled π (flipped w d p t)
    flipped_past w d p =
        flipped_as w (relabelled π t) (π d) (π p) (π (after t d)) (π (after t (after t d))) (π (after t p)) (π (after t (after t p)))
        (after_past d) (after_past (after t d)) (after_past p) (after_past (after t p))
        ∙ flipped_by_past w d p _ _ _ _ t

    inside_past : (d : ℕ) → inside (relabelled π t) (π d) ≡ inside t d
    unfolding relabelled
    inside_past d = ap (λ x. is_some (renamed π (t x))) (own d) ∙ go (t d)
      where
        go : (r : Option ℕ) → is_some (renamed π r) ≡ is_some r
        go None = refl
        go (Some x) = refl

    together_past : (d x : ℕ) → together (relabelled π t) (π d) (π x) ≡ together t d x
    unfolding together
    together_past d x =
        (λ i. eqb (π x) (π d) || (eqb (π x) (after_past d i) || eqb (π x) ((ap (after (relabelled π t)) (after_past d) ∙ after_past (after t d)) i)))
        ∙ (λ i. eqb_both x d i || (eqb_both x (after t d) i || eqb_both x (after t (after t d)) i))

    -- new names keep which edges can be flipped
    flippable_past : (k l : ℕ) → π (2 * k) ≡ 2 * l → π (2 * k + 1) ≡ 2 * l + 1 → flippable (relabelled π t) l ≡ flippable t k
    flippable_past k l p q =
        (λ i. inside (relabelled π t) (sym p i) && (inside (relabelled π t) (sym q i) && not (together (relabelled π t) (sym p i) (sym q i))))
        ∙ (λ i. inside_past (2 * k) i && (inside_past (2 * k + 1) i && not (together_past (2 * k) (2 * k + 1) i)))

-- exchanging two edges
exchanged_turned : (e f k : ℕ) → exchanged e f k ≡ exchanged f e k
exchanged_turned e f k = go (ℕ_discrete k e) (ℕ_discrete k f)
  where
    go : Dec (k ≡ e) → Dec (k ≡ f) → exchanged e f k ≡ exchanged f e k
    go (yes p) q = exchanged_first e f k p ∙ sym (exchanged_second f e k p)
    go (no p) (yes q) = exchanged_second e f k q ∙ sym (exchanged_first f e k q)
    go (no p) (no q) = exchanged_else e f k p q ∙ sym (exchanged_else f e k q p)

pub exchanged_sorted : (e f k : ℕ) → exchanged (min e f) (max e f) k ≡ exchanged e f k
exchanged_sorted e f k = go (dec_le e f)
  where
    go : Dec (e ≤ f) → exchanged (min e f) (max e f) k ≡ exchanged e f k
    go (yes h) =
        let p : min e f ≡ e = omega arith in
        let q : max e f ≡ f = omega arith in
        λ i. exchanged (p i) (q i) k
    go (no h) =
        let p : min e f ≡ f = omega arith in
        let q : max e f ≡ e = omega arith in
        (λ i. exchanged (p i) (q i) k) ∙ exchanged_turned f e k

-- it goes along with any function that is its own inverse
pub exchanged_along : (α : ℕ → ℕ) → Own α → (k l m : ℕ) → exchanged (α k) (α l) (α m) ≡ α (exchanged k l m)
exchanged_along α own k l m = go (ℕ_discrete m k) (ℕ_discrete m l)
  where
    inj : (x y : ℕ) → α x ≡ α y → x ≡ y
    inj x y e = sym (own x) ∙ (ap α e ∙ own y)

    go : Dec (m ≡ k) → Dec (m ≡ l) → exchanged (α k) (α l) (α m) ≡ α (exchanged k l m)
    go (yes p) q = exchanged_first _ _ _ (ap α p) ∙ ap α (sym (exchanged_first k l m p))
    go (no p) (yes q) = exchanged_second _ _ _ (ap α q) ∙ ap α (sym (exchanged_second k l m q))
    go (no p) (no q) = exchanged_else _ _ _ (λ e. p (inj m k e)) (λ e. q (inj m l e)) ∙ ap α (sym (exchanged_else k l m p q))

turn_past_turn : (e f d : ℕ) → turn e (turn f d) ≡ turn f (turn e d)
turn_past_turn e f d = go (ℕ_discrete (edge_of d) e) (ℕ_discrete (edge_of d) f)
  where
    go : Dec (edge_of d ≡ e) → Dec (edge_of d ≡ f) → turn e (turn f d) ≡ turn f (turn e d)
    go (yes p) (yes q) = λ i. turn ((sym p ∙ q) i) (turn ((sym q ∙ p) i) d)
    go (yes p) (no q) = ap (turn e) (turn_other f d q) ∙ sym (turn_other f (turn e d) (λ r. q (sym (turn_edge e d) ∙ r)))
    go (no p) q = turn_other e (turn f d) (λ r. p (sym (turn_edge f d) ∙ r)) ∙ ap (turn f) (sym (turn_other e d p))

module _ (e f : ℕ) where
  swap_side : (d : ℕ) → swap e f d % 2 ≡ d % 2
  swap_side d = side_side (exchanged e f (edge_of d)) (d % 2) (side_below d)

  partner_as : (d : ℕ) → partner d ≡ 2 * edge_of d + (1 - d % 2)
  partner_as d = omega arith

  partner_swap : (d : ℕ) → partner (swap e f d) ≡ swap e f (partner d)
  partner_swap d =
      let parts : 1 - d % 2 ≡ partner d % 2 = omega arith in
      partner_as (swap e f d) ∙ ((λ i. 2 * swap_edge e f d i + (1 - swap_side d i)) ∙ (λ i. 2 * exchanged e f (sym (partner_edge d) i) + parts i))

  turn_past_swap : (k d : ℕ) → turn (exchanged e f k) (swap e f d) ≡ swap e f (turn k d)
  turn_past_swap k d = go (ℕ_discrete (edge_of d) k)
    where
      go : Dec (edge_of d ≡ k) → turn (exchanged e f k) (swap e f d) ≡ swap e f (turn k d)
      go (yes p) = turn_first (exchanged e f k) (swap e f d) (swap_edge e f d ∙ ap (exchanged e f) p) ∙ (partner_swap d ∙ ap (swap e f) (sym (turn_first k d p)))
      go (no p) = turn_other (exchanged e f k) (swap e f d)
          (λ r. p (sym (exchanged_own e f (edge_of d)) ∙ (ap (exchanged e f) (sym (swap_edge e f d) ∙ r) ∙ exchanged_own e f k)))
          ∙ ap (swap e f) (sym (turn_other k d p))

  swap_past_swap : (k l d : ℕ) → swap (exchanged e f k) (exchanged e f l) (swap e f d) ≡ swap e f (swap k l d)
  swap_past_swap k l d =
      (λ i. 2 * exchanged (exchanged e f k) (exchanged e f l) (swap_edge e f d i) + swap_side d i)
      ∙ ((λ i. 2 * exchanged_along (exchanged e f) (exchanged_own e f) k l (edge_of d) i + d % 2)
      ∙ (λ i. 2 * exchanged e f (sym (swap_edge k l d) i) + sym (side_side (exchanged k l (edge_of d)) (d % 2) (side_below d)) i))

pub sorted : (e f : ℕ) (t : Table) → stepped (S (min e f) (max e f)) t ≡ stepped (S e f) t
sorted e f t = ap (λ π. relabelled π t) (fun_ext (λ d. ap (λ k. 2 * k + d % 2) (exchanged_sorted e f (edge_of d))))

-- a swap passes any step, with its two names exchanged in the step
pub carry : (e f : ℕ) (s : Step) (t : Table) → stepped (renamed_step e f s) (stepped (S e f) t) ≡ stepped (S e f) (stepped s t)
carry e f (L k) t =
    (λ i. flipped left (sym (swap_even e f k) i) (sym (swap_odd e f k) i) (relabelled (swap e f) t)) ∙ flipped_past (swap e f) (swap_own e f) t left (2 * k) (2 * k + 1)
carry e f (R k) t =
    (λ i. flipped right (sym (swap_even e f k) i) (sym (swap_odd e f k) i) (relabelled (swap e f) t)) ∙ flipped_past (swap e f) (swap_own e f) t right (2 * k) (2 * k + 1)
carry e f (T k) t = sym (relabelled_past (swap e f) (turn k) (turn (exchanged e f k)) (swap_own e f) (turn_past_swap e f k) t)
carry e f (S k l) t =
    sorted (exchanged e f k) (exchanged e f l) (relabelled (swap e f) t)
    ∙ sym (relabelled_past (swap e f) (swap k l) (swap (exchanged e f k) (exchanged e f l)) (swap_own e f) (swap_past_swap e f k l) t)

-- the darts of another edge, where e is turned
module _ (e k : ℕ) (h : k ≢ e) where
  even_stays : turn e (2 * k) ≡ 2 * k
  even_stays = turn_else e (2 * k) (λ q. omega arith) (λ q. omega arith)

  odd_stays : turn e (2 * k + 1) ≡ 2 * k + 1
  odd_stays = turn_else e (2 * k + 1) (λ q. omega arith) (λ q. omega arith)

-- a turn passes flips and turns
module _ (t : Triangulation) (law : Lawful t) (k : ℕ) (h : Yes (flippable t.next k)) where
  own_turn_again : Yes (flippable (stepped (T k) t.next) k)
  own_turn_again = subst Yes (sym (seen_flippable _ 6 (framed_flip t law k h).different t.next _ _ (turned t law k h) k 0 3 (lit< tt) (lit< tt) (at_0 t law k h) (at_3 t law k h))) tt

  own_turn_passes : (w : Direction) → flipped w (2 * k) (2 * k + 1) (stepped (T k) t.next) ≡ stepped (T k) (flipped w (2 * k) (2 * k + 1) t.next)
  own_turn_passes w = seen_same _ 6 (framed_flip t law k h).different t.next _ _ _ _ (same_below 6 _ _ (closed w)) (fl t law k h w _ _ (turned t law k h))
      (seen_turn _ 6 (framed_flip t law k h).different t.next (framed_flip t law k h).far k 0 3 (lit< tt) (lit< tt) (at_0 t law k h) (at_3 t law k h) _ _ (once t law k h w))
    where
      closed : (w : Direction) → Yes (all_below 6 (λ m. eqb (flip w 0 3 (λ l. exch 0 3 (σ₆ (exch 0 3 l))) m) (exch 0 3 (flip w 0 3 σ₆ (exch 0 3 m)))))
      closed left = tt
      closed right = tt

  pub turn_passes_flip : (e : ℕ) (w : Direction) → flipped w (2 * k) (2 * k + 1) (stepped (T e) t.next) ≡ stepped (T e) (flipped w (2 * k) (2 * k + 1) t.next)
  turn_passes_flip e w = go (ℕ_discrete k e)
    where
      go : Dec (k ≡ e) → flipped w (2 * k) (2 * k + 1) (stepped (T e) t.next) ≡ stepped (T e) (flipped w (2 * k) (2 * k + 1) t.next)
      go (yes p) = subst (λ m. flipped w (2 * k) (2 * k + 1) (stepped (T m) t.next) ≡ stepped (T m) (flipped w (2 * k) (2 * k + 1) t.next)) p (own_turn_passes w)
      go (no p) = (λ i. flipped w (sym (even_stays e k p) i) (sym (odd_stays e k p) i) (relabelled (turn e) t.next)) ∙ flipped_past (turn e) (turn_own e) t.next w (2 * k) (2 * k + 1)

  pub turn_flippable : (e : ℕ) → Yes (flippable (stepped (T e) t.next) k)
  turn_flippable e = go (ℕ_discrete k e)
    where
      go : Dec (k ≡ e) → Yes (flippable (stepped (T e) t.next) k)
      go (yes p) = subst (λ m. Yes (flippable (stepped (T m) t.next) k)) p own_turn_again
      go (no p) = subst Yes (sym (flippable_past (turn e) (turn_own e) t.next k k (even_stays e k p) (odd_stays e k p))) h

pub turn_passes_turn : (e k : ℕ) (t : Table) → stepped (T k) (stepped (T e) t) ≡ stepped (T e) (stepped (T k) t)
turn_passes_turn e k t = sym (relabelled_past (turn e) (turn k) (turn k) (turn_own e) (turn_past_turn k e) t)

pub before_turn : (t : Triangulation) → Lawful t → (e k : ℕ) → e < t.edges → Yes (flippable (stepped (T e) t.next) k) → Yes (flippable t.next k)
before_turn t law e k he h =
    subst (λ n. Yes (flippable n k)) (turn_twice e t.next) (turn_flippable (apply_step (T e) t) (step_lawful (T e) t law he) k h e)

-- what is legal before a swap is legal after it with the names exchanged, and the other way round
module _ (e f : ℕ) where
  swap_flippable : (k : ℕ) (t : Table) → flippable (relabelled (swap e f) t) (exchanged e f k) ≡ flippable t k
  swap_flippable k t = flippable_past (swap e f) (swap_own e f) t k (exchanged e f k) (swap_even e f k) (swap_odd e f k)

  module _ (h : e < f) where
    pub after_swap : (s : Step) (t : Triangulation) → f < t.edges → LegalStep s t → LegalStep (renamed_step e f s) (apply_step (S e f) t)
    after_swap (L k) t hf a = subst Yes (sym (swap_flippable k t.next)) a
    after_swap (R k) t hf a = subst Yes (sym (swap_flippable k t.next)) a
    after_swap (T k) t hf a = exchanged_below e f k t.edges (omega arith) hf a
    after_swap (S k l) t hf a =
        let p : exchanged e f k < t.edges = exchanged_below e f k t.edges (omega arith) hf (omega arith) in
        let q : exchanged e f l < t.edges = exchanged_below e f l t.edges (omega arith) hf (omega arith) in
        let d : exchanged e f k ≢ exchanged e f l = λ r. split (sym (exchanged_own e f k) ∙ (ap (exchanged e f) r ∙ exchanged_own e f l)) in
        (omega arith, omega arith)
      where
        split : k ≢ l
        split = let b = a.0 in omega arith

    pub before_swap : (s : Step) (t : Triangulation) → f < t.edges → LegalStep s (apply_step (S e f) t) → LegalStep (renamed_step e f s) t
    before_swap s t k a = subst (LegalStep (renamed_step e f s)) (with_table t.edges _ _ (swap_twice e f t.next)) (after_swap s (apply_step (S e f) t) k a)

  sorted_twice : (k l : ℕ) → k < l → (a b : ℕ) → exchanged e f a ≡ k → exchanged e f b ≡ l → Dec (a ≤ b)
      → S (min (exchanged e f (min a b)) (exchanged e f (max a b))) (max (exchanged e f (min a b)) (exchanged e f (max a b))) ≡ S k l
  sorted_twice k l h a b p q (yes r) =
      let u : exchanged e f (min a b) ≡ k = ap (exchanged e f) (omega arith) ∙ p in
      let v : exchanged e f (max a b) ≡ l = ap (exchanged e f) (omega arith) ∙ q in
      let x : min k l ≡ k = omega arith in
      let y : max k l ≡ l = omega arith in
      (λ i. S (min (u i) (v i)) (max (u i) (v i))) ∙ (λ i. S (x i) (y i))
  sorted_twice k l h a b p q (no r) =
      let u : exchanged e f (min a b) ≡ l = ap (exchanged e f) (omega arith) ∙ q in
      let v : exchanged e f (max a b) ≡ k = ap (exchanged e f) (omega arith) ∙ p in
      let x : min l k ≡ k = omega arith in
      let y : max l k ≡ l = omega arith in
      (λ i. S (min (u i) (v i)) (max (u i) (v i))) ∙ (λ i. S (x i) (y i))

  pub renamed_twice : (s : Step) (t : Triangulation) → LegalStep s t → renamed_step e f (renamed_step e f s) ≡ s
  renamed_twice (L k) t h = ap L (exchanged_own e f k)
  renamed_twice (R k) t h = ap R (exchanged_own e f k)
  renamed_twice (T k) t h = ap T (exchanged_own e f k)
  renamed_twice (S k l) t h = sorted_twice k l h.0 (exchanged e f k) (exchanged e f l) (exchanged_own e f k) (exchanged_own e f l) (dec_le (exchanged e f k) (exchanged e f l))
