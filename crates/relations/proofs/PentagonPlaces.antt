-- The place of a pentagon: the names of its nine darts.
use Rattle.std.proofs.Math.Facts.{or_yes}
use Rattle.std.proofs.Math.Dec.{T_not}
use Rattle.std.proofs.Common.{◌≡◌, ℕ, ◌+◌, ◌*◌, ◌%◌, Bool, true, false, cond, not, ◌||◌, T as Yes, eqb, ◌≢◌, ◌⊎◌, List, [], ◌∷◌, sym, refl, ap, ◌∙◌, subst, inl, inr, arith, eqb→eq, eq-eqb, ne_eqb}
use native.Mathlib.Decide.{ℕ_discrete}
use Rattle.triangulations.specs.Triangulations.{Table, Triangulation, Lawful, after, partner, edge_of, together, flippable}
use Rattle.triangulations.proofs.Frames.{after_is}
use Rattle.triangulations.proofs.Triangles.{nth, Fresh, Disjoint, Tri, tri_disjoint, tri_distinct}
use Rattle.triangulations.proofs.Pairs.{Framed, turned_round}
use Rattle.triangulations.proofs.Flips.{flip_parts, inside_tri, together_fresh}
use Rattle.triangulations.proofs.Relabellings.{partner_edge}
use Rattle.relations.specs.Pentagons.{mixed, followed, Pentagon}
use Rattle.relations.proofs.Triples.{σ₉, framed₃}

-- u is x, y or z
abbrev pub Among : ℕ → ℕ → ℕ → ℕ → Type 0
Among u x y z = (u ≡ x) ⊎ ((u ≡ y) ⊎ (u ≡ z))

pub together_cases : (t : Table) (d x : ℕ) → Yes (together t d x) → Among x d (after t d) (after t (after t d))
unfolding together
together_cases t d x h = go (or_yes (eqb x d) _ h)
  where
    go₂ : Yes (eqb x (after t d)) ⊎ Yes (eqb x (after t (after t d))) → Among x d (after t d) (after t (after t d))
    go₂ (inl e) = inr (inl (eqb→eq x _ e))
    go₂ (inr e) = inr (inr (eqb→eq x _ e))

    go : Yes (eqb x d) ⊎ Yes (eqb x (after t d) || eqb x (after t (after t d))) → Among x d (after t d) (after t (after t d))
    go (inl e) = inl (eqb→eq x d e)
    go (inr e) = go₂ (or_yes (eqb x (after t d)) _ e)

together_self : (t : Table) (d : ℕ) → Yes (together t d d)
unfolding together
together_self t d = subst (λ b. Yes (b || (eqb d (after t d) || eqb d (after t (after t d))))) (sym (eq-eqb d d refl)) tt

-- which dart of its edge x is, whether it is even
sides : (e x : ℕ) → edge_of x ≡ e → (a : Bool) × (x % 2 ≡ cond a 0 1) × (2 * e ≡ cond a x (partner x)) × (2 * e + 1 ≡ cond a (partner x) x)
sides e x h = go (ℕ_discrete (x % 2) 0)
  where
    go : Dec (x % 2 ≡ 0) → (a : Bool) × (x % 2 ≡ cond a 0 1) × (2 * e ≡ cond a x (partner x)) × (2 * e + 1 ≡ cond a (partner x) x)
    go (yes k) = (true, k, omega arith, omega arith)
    go (no k) = (false, omega arith, omega arith, omega arith)

-- the triangles of the darts x and p of an edge that can be flipped
pub record Ready (t : Table) (x p : ℕ) : Type 0 where
  pub mine : Tri t x (after t x) (after t (after t x))
  pub its : Tri t p (after t p) (after t (after t p))
  pub split : Disjoint (x ∷ after t x ∷ after t (after t x) ∷ []) (p ∷ after t p ∷ after t (after t p) ∷ [])

ready : (t : Triangulation) → Lawful t → (e x : ℕ) → Yes (flippable t.next e) → edge_of x ≡ e → Ready t.next x (partner x)
ready t law e x h q = go (sides e x q)
  where
    n : Table
    n = t.next

    r : Tri n (2 * e) (after n (2 * e)) (after n (after n (2 * e)))
    r = inside_tri t law (2 * e) (flip_parts t law e h).0

    s : Tri n (2 * e + 1) (after n (2 * e + 1)) (after n (after n (2 * e + 1)))
    s = inside_tri t law (2 * e + 1) (flip_parts t law e h).1

    d : Disjoint ((2 * e + 1) ∷ after n (2 * e + 1) ∷ after n (after n (2 * e + 1)) ∷ []) ((2 * e) ∷ after n (2 * e) ∷ after n (after n (2 * e)) ∷ [])
    d = tri_disjoint t law _ _ _ r _ _ _ s (together_fresh n (2 * e) (2 * e + 1) (flip_parts t law e h).2)

    even : Ready n (2 * e) (2 * e + 1)
    even = record { mine = r; its = s; split = turned_round _ _ _ _ _ _ d }

    odd : Ready n (2 * e + 1) (2 * e)
    odd = record { mine = s; its = r; split = d }

    go : (a : Bool) × (x % 2 ≡ cond a 0 1) × (2 * e ≡ cond a x (partner x)) × (2 * e + 1 ≡ cond a (partner x) x) → Ready n x (partner x)
    go (true, m, k, l) = subst (λ p. Ready n x p) l (subst (λ y. Ready n y (2 * e + 1)) k even)
    go (false, m, k, l) = subst (λ p. Ready n x p) k (subst (λ y. Ready n y (2 * e)) l odd)

-- where e and f have their names: o says that the dart of f is followed by that of e, a that the dart of e in the shared triangle is
-- even, b that the dart of f is
abbrev pub e_at : Bool → ℕ
e_at a = cond a 0 3

abbrev pub e_to : Bool → ℕ
e_to a = cond a 3 0

abbrev pub f_at : Bool → Bool → ℕ
f_at o b = cond b (cond o 2 1) 6

abbrev pub f_to : Bool → Bool → ℕ
f_to o b = cond b 6 (cond o 2 1)

-- e and f in a frame of three triangles, the shared one first
pub record Place (t : Table) (e f x y : ℕ) : Type 0 where
  pub o : Bool
  pub a : Bool
  pub b : Bool
  pub order : followed t y x ≡ o
  pub parity : mixed x y ≡ not (eqb (cond a 0 1) (cond b 0 1))
  pub φ : ℕ → ℕ
  pub frame : Framed t φ 9 σ₉
  pub e₀ : 2 * e ≡ φ (e_at a)
  pub e₁ : 2 * e + 1 ≡ φ (e_to a)
  pub f₀ : 2 * f ≡ φ (f_at o b)
  pub f₁ : 2 * f + 1 ≡ φ (f_to o b)
  pub e_here : edge_of (φ 0) ≡ e
  pub e_there : edge_of (φ 3) ≡ e
  pub f_here : edge_of (φ (cond o 2 1)) ≡ f
  pub f_there : edge_of (φ 6) ≡ f
  pub different : e ≢ f

named_by : (φ : ℕ → ℕ) (a : Bool) (i j : ℕ) → cond a (φ i) (φ j) ≡ φ (cond a i j)
named_by φ true i j = refl
named_by φ false i j = refl

module _ (t : Triangulation) (law : Lawful t) (e f x y : ℕ) (at : Pentagon t.next e f x y) where
  abbrev n : Table
  n = t.next

  pub re : Ready t.next x (partner x)
  re = ready t law e x at.e_flips at.x_of

  pub rf : Ready t.next y (partner y)
  rf = ready t law f y at.f_flips at.y_of

  -- the darts of the two triangles that are not shared
  abbrev lone : List ℕ
  lone = partner x ∷ after n (partner x) ∷ after n (after n (partner x)) ∷ partner y ∷ after n (partner y) ∷ after n (after n (partner y)) ∷ []

  pub differ : e ≢ f
  differ q = clash (together_cases n x y at.shared)
    where
      same_side : y ≡ x → ⊥
      same_side r = T_not _ at.only (subst (λ z. Yes (together n (partner x) (partner z))) (sym r) (together_self n (partner x)))

      other_side : y ≢ x → y ≡ partner x
      other_side r = let k = at.x_of in let l = at.y_of in omega arith

      clash : Among y x (after n x) (after n (after n x)) → ⊥
      clash (inl r) = same_side r
      clash (inr (inl r)) = re.split.1.0.0 (sym r ∙ other_side same_side)
      clash (inr (inr r)) = re.split.1.1.0.0 (sym r ∙ other_side same_side)

  -- the dart of f is followed by that of e
  module _ (q : y ≡ after t.next (after t.next x)) where
    pub next_x : after t.next y ≡ x
    next_x = after_is n y x (ap n q ∙ re.mine.three)

    frame_before : Framed n (nth (x ∷ after n x ∷ y ∷ lone)) 9 σ₉
    frame_before = framed₃ t law _ _ _ _ _ _ re.its rf.its (together_fresh n (partner x) (partner y) at.only) _ _ _
        (subst (Tri n x (after n x)) (sym q) re.mine) re.split.0
        (subst (λ d. Fresh d (partner y ∷ after n (partner y) ∷ after n (after n (partner y)) ∷ [])) next_x rf.split.1.0)

  -- the dart of e is followed by that of f
  module _ (q : y ≡ after t.next x) where
    pub next_y : after t.next y ≡ after t.next (after t.next x)
    next_y = ap (after n) q

    pub next_next_y : after t.next (after t.next y) ≡ x
    next_next_y = ap (after n) next_y ∙ after_is n (after n (after n x)) x re.mine.three

    frame_after : Framed n (nth (x ∷ y ∷ after n (after n x) ∷ lone)) 9 σ₉
    frame_after = framed₃ t law _ _ _ _ _ _ re.its rf.its (together_fresh n (partner x) (partner y) at.only) _ _ _
        (subst (λ d. Tri n x d (after n (after n x))) (sym q) re.mine) re.split.0
        (subst (λ d. Fresh d (partner y ∷ after n (partner y) ∷ after n (after n (partner y)) ∷ [])) next_next_y rf.split.1.1.0)

  pub place : Place t.next e f x y
  place = cases (together_cases n x y at.shared)
    where
      k : (a : Bool) × (x % 2 ≡ cond a 0 1) × (2 * e ≡ cond a x (partner x)) × (2 * e + 1 ≡ cond a (partner x) x)
      k = sides e x at.x_of

      l : (b : Bool) × (y % 2 ≡ cond b 0 1) × (2 * f ≡ cond b y (partner y)) × (2 * f + 1 ≡ cond b (partner y) y)
      l = sides f y at.y_of

      -- the frame's names, o, and what holds of both
      placed : (φ : ℕ → ℕ) (o : Bool) → Framed n φ 9 σ₉ → followed n y x ≡ o → φ 0 ≡ x → φ 3 ≡ partner x → φ (cond o 2 1) ≡ y → φ 6 ≡ partner y → Place n e f x y
      placed φ o fr p x_is x'-is y_is y'-is = record {
        o = o;
        a = k.0;
        b = l.0;
        order = p;
        parity = λ i. not (eqb (k.1 i) (l.1 i));
        φ = φ;
        frame = fr;
        e₀ = k.2 ∙ ((λ i. cond k.0 (sym x_is i) (sym x'-is i)) ∙ named_by φ k.0 0 3);
        e₁ = k.3 ∙ ((λ i. cond k.0 (sym x'-is i) (sym x_is i)) ∙ named_by φ k.0 3 0);
        f₀ = l.2 ∙ ((λ i. cond l.0 (sym y_is i) (sym y'-is i)) ∙ named_by φ l.0 (cond o 2 1) 6);
        f₁ = l.3 ∙ ((λ i. cond l.0 (sym y'-is i) (sym y_is i)) ∙ named_by φ l.0 6 (cond o 2 1));
        e_here = ap edge_of x_is ∙ at.x_of;
        e_there = ap edge_of x'-is ∙ (partner_edge x ∙ at.x_of);
        f_here = ap edge_of y_is ∙ at.y_of;
        f_there = ap edge_of y'-is ∙ (partner_edge y ∙ at.y_of);
        different = differ;
      }

      cases : Among y x (after n x) (after n (after n x)) → Place n e f x y
      cases (inl r) = absurd (differ (sym at.x_of ∙ (ap edge_of (sym r) ∙ at.y_of)))
      cases (inr (inl q)) =
          placed _ false (frame_after q) (ne_eqb (after n y) x (λ r. (tri_distinct t law x (after n x) (after n (after n x)) re.mine).0.1.0 (sym r ∙ next_y q)))
          refl refl refl refl
      cases (inr (inr q)) = placed _ true (frame_before q) (eq-eqb (after n y) x (next_x q)) refl refl refl refl
