-- Tables seen through names: darts φ 0, .., φ (n - 1), all different, on which a table does what a closed function σ does to the numbers below n.
use Rattle.std.proofs.Common.{◌≡◌, ℕ, zero, suc, ◌<◌, Bool, true, false, cond, ◌&&◌, T, eqb, ◌≢◌, ◌⊎◌, Some, None, Option, sym, refl, ap, ◌∙◌, subst, inl, inr, arith, eqb→eq, eq-eqb, ne_eqb}
use native.Mathlib.Decide.{ℕ_discrete}
use mathlib.Core.Path.{fun_ext}
use Rattle.triangulations.specs.Triangulations.{Table, or_else, after}
use Rattle.triangulations.specs.Steps.{Direction, left, right, renamed, triangle, flipped_by, flipped, relabelled}
use Rattle.triangulations.specs.Stored.{all_below}

-- the same operations on closed functions of numbers
abbrev pub tri : ℕ → ℕ → ℕ → (ℕ → ℕ) → ℕ → ℕ
tri x y z σ k = cond (eqb k x) y (cond (eqb k y) z (cond (eqb k z) x (σ k)))

abbrev pub flip : Direction → ℕ → ℕ → (ℕ → ℕ) → ℕ → ℕ
flip left i j σ = tri i (σ (σ i)) (σ j) (tri j (σ (σ j)) (σ i) σ)
flip right i j σ = tri i (σ (σ j)) (σ i) (tri j (σ (σ i)) (σ j) σ)

abbrev pub Closed : ℕ → (ℕ → ℕ) → Type 0
Closed n σ = (k : ℕ) → k < n → σ k < n

abbrev pub Apart : ℕ → (ℕ → ℕ) → Type 0
Apart n φ = (i j : ℕ) → i < n → j < n → φ i ≡ φ j → i ≡ j

abbrev pub Sits : (ℕ → ℕ) → ℕ → (ℕ → ℕ) → Table → Type 0
Sits φ n σ t = (k : ℕ) → k < n → t (φ k) ≡ Some (φ (σ k))

-- x has no name
abbrev pub Off : (ℕ → ℕ) → ℕ → ℕ → Type 0
Off φ n x = (k : ℕ) → k < n → x ≢ φ k

pub named : (φ : ℕ → ℕ) (n x : ℕ) → ((k : ℕ) × (k < n) × (x ≡ φ k)) ⊎ Off φ n x
named φ zero x = inr (λ k h e. absurd (omega arith))
named φ (suc n) x = go (ℕ_discrete x (φ n)) (named φ n x)
  where
    last : (k : ℕ) → k < suc n → k ≢ n → k < n
    last k h d = omega arith

    here : Off φ n x → x ≢ φ n → (k : ℕ) → k < suc n → Dec (k ≡ n) → x ≢ φ k
    here o d k h (yes e) p = d (p ∙ ap φ e)
    here o d k h (no q) p = o k (last k h q) p

    go : Dec (x ≡ φ n) → ((k : ℕ) × (k < n) × (x ≡ φ k)) ⊎ Off φ n x → ((k : ℕ) × (k < suc n) × (x ≡ φ k)) ⊎ Off φ (suc n) x
    go (yes e) r = inl (n, omega arith, e)
    go (no d) (inl (k, h, e)) = inl (k, omega arith, e)
    go (no d) (inr o) = inr (λ k h p. here o d k h (ℕ_discrete k n) p)

pub cond_below : (b : Bool) (n x y : ℕ) → x < n → y < n → cond b x y < n
cond_below true n x y h k = h
cond_below false n x y h k = k

pub tri_closed : (n x y z : ℕ) (σ : ℕ → ℕ) → x < n → y < n → z < n → Closed n σ → Closed n (tri x y z σ)
tri_closed n x y z σ hx hy hz c k h =
    cond_below (eqb k x) n y _ hy (cond_below (eqb k y) n z _ hz (cond_below (eqb k z) n x _ hx (c k h)))

pub flip_closed : (w : Direction) (n i j : ℕ) (σ : ℕ → ℕ) → i < n → j < n → Closed n σ → Closed n (flip w i j σ)
flip_closed left n i j σ hi hj c =
    tri_closed n i _ _ _ hi (c _ (c i hi)) (c j hj) (tri_closed n j _ _ σ hj (c _ (c j hj)) (c i hi) c)
flip_closed right n i j σ hi hj c =
    tri_closed n i _ _ _ hi (c _ (c j hj)) (c i hi) (tri_closed n j _ _ σ hj (c _ (c i hi)) (c j hj) c)

pub eqb_named : (φ : ℕ → ℕ) (n : ℕ) → Apart n φ → (i j : ℕ) → i < n → j < n → eqb (φ i) (φ j) ≡ eqb i j
eqb_named φ n a i j hi hj = go (ℕ_discrete i j)
  where
    go : Dec (i ≡ j) → eqb (φ i) (φ j) ≡ eqb i j
    go (yes e) = eq-eqb (φ i) (φ j) (ap φ e) ∙ sym (eq-eqb i j e)
    go (no d) = ne_eqb (φ i) (φ j) (λ e. d (a i j hi hj e)) ∙ sym (ne_eqb i j d)

push : (φ : ℕ → ℕ) (b₁ b₂ b₃ : Bool) (x y z s : ℕ)
    → cond b₁ (Some (φ y)) (cond b₂ (Some (φ z)) (cond b₃ (Some (φ x)) (Some (φ s)))) ≡ Some (φ (cond b₁ y (cond b₂ z (cond b₃ x s))))
push φ true b₂ b₃ x y z s = refl
push φ false true b₃ x y z s = refl
push φ false false true x y z s = refl
push φ false false false x y z s = refl

pub sits_triangle : (φ : ℕ → ℕ) (n : ℕ) → Apart n φ → (x y z : ℕ) → x < n → y < n → z < n → (σ : ℕ → ℕ) (t : Table) → Sits φ n σ t
    → Sits φ n (tri x y z σ) (triangle (φ x) (φ y) (φ z) t)
unfolding triangle
sits_triangle φ n a x y z hx hy hz σ t s k h =
    (λ i. cond (eqb_named φ n a k x h hx i) (Some (φ y)) (cond (eqb_named φ n a k y h hy i) (Some (φ z)) (cond (eqb_named φ n a k z h hz i) (Some (φ x)) (s k h i))))
    ∙ push φ (eqb k x) (eqb k y) (eqb k z) x y z (σ k)

pub triangle_off : (x y z : ℕ) (t : Table) (d : ℕ) → d ≢ x → d ≢ y → d ≢ z → triangle x y z t d ≡ t d
unfolding triangle
triangle_off x y z t d dx dy dz =
    λ i. cond (ne_eqb d x dx i) (Some y) (cond (ne_eqb d y dy i) (Some z) (cond (ne_eqb d z dz i) (Some x) (t d)))

pub flipped_as : (w : Direction) (t : Table) (d p a b c g : ℕ) → after t d ≡ a → after t a ≡ b → after t p ≡ c → after t c ≡ g
    → flipped w d p t ≡ flipped_by w d p a b c g t
flipped_as w t d p a b c g ea eb ec eg =
    λ i. flipped_by w d p (ea i) ((ap (after t) ea ∙ eb) i) (ec i) ((ap (after t) ec ∙ eg) i) t

pub after_is : (t : Table) (d a : ℕ) → t d ≡ Some a → after t d ≡ a
after_is t d a e = ap (or_else d) e

-- t is what σ says on the names, and t₀ elsewhere
pub record Seen (φ : ℕ → ℕ) (n : ℕ) (t₀ : Table) (σ : ℕ → ℕ) (t : Table) : Type 0 where
  pub sits : Sits φ n σ t
  pub rest : (x : ℕ) → Off φ n x → t x ≡ t₀ x
  pub closed : Closed n σ

module _ (φ : ℕ → ℕ) (n : ℕ) (apart : Apart n φ) (t₀ : Table) where
  pub seen_flip : (w : Direction) (i j : ℕ) → i < n → j < n → (σ : ℕ → ℕ) (t : Table) → Seen φ n t₀ σ t
      → Seen φ n t₀ (flip w i j σ) (flipped w (φ i) (φ j) t)
  unfolding flipped_by
  seen_flip w i j hi hj σ t v = subst (Seen φ n t₀ (flip w i j σ)) (sym e) (go w)
    where
      c : Closed n σ
      c = v.closed

      e : flipped w (φ i) (φ j) t ≡ flipped_by w (φ i) (φ j) (φ (σ i)) (φ (σ (σ i))) (φ (σ j)) (φ (σ (σ j))) t
      e =
          flipped_as w t (φ i) (φ j) (φ (σ i)) (φ (σ (σ i))) (φ (σ j)) (φ (σ (σ j)))
          (after_is t _ _ (v.sits i hi)) (after_is t _ _ (v.sits (σ i) (c i hi))) (after_is t _ _ (v.sits j hj)) (after_is t _ _ (v.sits (σ j) (c j hj)))

      go : (u : Direction) → Seen φ n t₀ (flip u i j σ) (flipped_by u (φ i) (φ j) (φ (σ i)) (φ (σ (σ i))) (φ (σ j)) (φ (σ (σ j))) t)
      go left = record {
        sits = sits_triangle φ n apart i (σ (σ i)) (σ j) hi (c _ (c i hi)) (c j hj) _ _
            (sits_triangle φ n apart j (σ (σ j)) (σ i) hj (c _ (c j hj)) (c i hi) σ t v.sits);
        rest = λ x o. triangle_off _ _ _ _ x (o i hi) (o _ (c _ (c i hi))) (o _ (c j hj))
            ∙ (triangle_off _ _ _ t x (o j hj) (o _ (c _ (c j hj))) (o _ (c i hi)) ∙ v.rest x o);
        closed = flip_closed left n i j σ hi hj c;
      }
      go right = record {
        sits = sits_triangle φ n apart i (σ (σ j)) (σ i) hi (c _ (c j hj)) (c i hi) _ _
            (sits_triangle φ n apart j (σ (σ i)) (σ j) hj (c _ (c i hi)) (c j hj) σ t v.sits);
        rest = λ x o. triangle_off _ _ _ _ x (o i hi) (o _ (c _ (c j hj))) (o _ (c i hi))
            ∙ (triangle_off _ _ _ t x (o j hj) (o _ (c _ (c i hi))) (o _ (c j hj)) ∙ v.rest x o);
        closed = flip_closed right n i j σ hi hj c;
      }

  pub seen_relabel : (π ρ : ℕ → ℕ) → Closed n ρ → ((k : ℕ) → k < n → π (φ k) ≡ φ (ρ k)) → ((x : ℕ) → Off φ n x → π x ≡ x)
      → ((x y : ℕ) → Off φ n x → t₀ x ≡ Some y → Off φ n y)
      → (σ : ℕ → ℕ) (t : Table) → Seen φ n t₀ σ t → Seen φ n t₀ (λ k. ρ (σ (ρ k))) (relabelled π t)
  unfolding relabelled
  seen_relabel π ρ cρ on off far σ t v = record {
    sits = λ k h. ap (λ x. renamed π (t x)) (on k h) ∙ (ap (renamed π) (v.sits (ρ k) (cρ k h)) ∙ ap Some (on (σ (ρ k)) (v.closed _ (cρ k h))));
    rest = λ x o. ap (λ y. renamed π (t y)) (off x o) ∙ (ap (renamed π) (v.rest x o) ∙ go x o (t₀ x) refl);
    closed = λ k h. cρ _ (v.closed _ (cρ k h));
  }
    where
      go : (x : ℕ) → Off φ n x → (r : Option ℕ) → t₀ x ≡ r → renamed π r ≡ r
      go x o None e = refl
      go x o (Some y) e = ap Some (off y (far x y o e))

  pub seen_same : (σ σ' : ℕ → ℕ) (t t' : Table) → ((k : ℕ) → k < n → σ k ≡ σ' k) → Seen φ n t₀ σ t → Seen φ n t₀ σ' t' → t ≡ t'
  seen_same σ σ' t t' e v v' = fun_ext (λ x. go x (named φ n x))
    where
      go : (x : ℕ) → ((k : ℕ) × (k < n) × (x ≡ φ k)) ⊎ Off φ n x → t x ≡ t' x
      go x (inl (k, h, p)) = ap t p ∙ (v.sits k h ∙ (ap (λ m. Some (φ m)) (e k h) ∙ (sym (v'.sits k h) ∙ sym (ap t' p))))
      go x (inr o) = v.rest x o ∙ sym (v'.rest x o)

pub at_below : (n : ℕ) (p : ℕ → Bool) → T (all_below n p) → (k : ℕ) → k < n → T (p k)
at_below zero p a k h = absurd (omega arith)
at_below (suc n) p a k h = go (p n) refl (ℕ_discrete k n) a (at_below n p)
  where
    go : (b : Bool) → p n ≡ b → Dec (k ≡ n) → T (b && all_below n p) → (T (all_below n p) → (m : ℕ) → m < n → T (p m)) → T (p k)
    go true e (yes q) a ih = subst T (sym (ap p q ∙ e)) tt
    go true e (no q) a ih = ih a k (omega arith)
    go false e d a ih = absurd a

pub same_below : (n : ℕ) (σ σ' : ℕ → ℕ) → T (all_below n (λ k. eqb (σ k) (σ' k))) → (k : ℕ) → k < n → σ k ≡ σ' k
same_below n σ σ' a k h = eqb→eq (σ k) (σ' k) (at_below n (λ k. eqb (σ k) (σ' k)) a k h)
