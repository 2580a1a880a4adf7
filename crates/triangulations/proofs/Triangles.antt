-- The darts of lawful tables, and names for the darts of a few triangles.
use Rattle.std.proofs.Common.{◌≡◌, ℕ, zero, suc, ◌+◌, ◌*◌, ◌%◌, ◌<◌, cond, ◌≢◌, List, [], ◌∷◌, ◌++◌, length, get_or, Some, sym, refl, ap, ◌∙◌, subst, arith, eq-eqb, ne_eqb}
use native.Mathlib.Decide.{ℕ_discrete}
use Rattle.triangulations.specs.Triangulations.{Table, Triangulation, Lawful, or_else, after, partner, edge_of}
use Rattle.triangulations.specs.Steps.{turn, swap}
use Rattle.triangulations.proofs.Frames.{Closed, Apart, Sits, Off}

-- names from a list
abbrev pub nth : List ℕ → ℕ → ℕ
nth xs k = get_or xs k 0

abbrev pub Fresh : ℕ → List ℕ → Type 0
Fresh x [] = Unit {0}
Fresh x (y ∷ ys) = (x ≢ y) × Fresh x ys

abbrev pub Distinct : List ℕ → Type 0
Distinct [] = Unit {0}
Distinct (x ∷ xs) = Fresh x xs × Distinct xs

abbrev pub Disjoint : List ℕ → List ℕ → Type 0
Disjoint [] ys = Unit {0}
Disjoint (x ∷ xs) ys = Fresh x ys × Disjoint xs ys

pub fresh-++ : (x : ℕ) (ys zs : List ℕ) → Fresh x ys → Fresh x zs → Fresh x (ys ++ zs)
fresh-++ x [] zs a b = b
fresh-++ x (y ∷ ys) zs a b = (a.0, fresh-++ x ys zs a.1 b)

pub distinct-++ : (xs ys : List ℕ) → Distinct xs → Distinct ys → Disjoint xs ys → Distinct (xs ++ ys)
distinct-++ [] ys a b c = b
distinct-++ (x ∷ xs) ys a b c = (fresh-++ x xs ys a.0 c.0, distinct-++ xs ys a.1 b c.1)

fresh_at : (x : ℕ) (xs : List ℕ) → Fresh x xs → (k : ℕ) → k < length xs → x ≢ nth xs k
fresh_at x [] f k h = absurd (omega arith)
fresh_at x (y ∷ ys) f zero h = f.0
fresh_at x (y ∷ ys) f (suc k) h = fresh_at x ys f.1 k (omega arith)

pub apart : (xs : List ℕ) → Distinct xs → Apart (length xs) (nth xs)
apart [] d i j hi hj e = absurd (omega arith)
apart (x ∷ xs) d zero zero hi hj e = refl
apart (x ∷ xs) d zero (suc j) hi hj e = absurd (fresh_at x xs d.0 j (omega arith) e)
apart (x ∷ xs) d (suc i) zero hi hj e = absurd (fresh_at x xs d.0 i (omega arith) (sym e))
apart (x ∷ xs) d (suc i) (suc j) hi hj e = ap suc (apart xs d.1 i j (omega arith) (omega arith) e)

-- what holds of each number below n
abbrev pub Each : ℕ → (ℕ → Type 0) → Type 0
Each zero P = Unit {0}
Each (suc n) P = Each n P × P n

pub each : (n : ℕ) (P : ℕ → Type 0) → Each n P → (k : ℕ) → k < n → P k
each zero P a k h = absurd (omega arith)
each (suc n) P a k h = go (ℕ_discrete k n) (each n P a.0)
  where
    go : Dec (k ≡ n) → ((m : ℕ) → m < n → P m) → P k
    go (yes e) ih = subst P (sym e) a.1
    go (no d) ih = ih k (omega arith)

-- a triangle of the table
pub record Tri (t : Table) (x y z : ℕ) : Type 0 where
  pub one : t x ≡ Some y
  pub two : t y ≡ Some z
  pub three : t z ≡ Some x

module _ (t : Triangulation) (law : Lawful t) where
  pub tri_of : (d a : ℕ) → t.next d ≡ Some a → Tri t.next d (after t.next d) (after t.next (after t.next d))
  tri_of d a e = subst (λ y. Tri t.next d y (after t.next y)) (sym (ap (or_else d) e)) (subst (Tri t.next d a) (sym (ap (or_else a) f)) (record { one = e; two = f; three = law.round d a _ e f }))
    where
      f : t.next a ≡ Some (law.follows d a e).0
      f = (law.follows d a e).1

  pub back : (x x' y : ℕ) → t.next x ≡ Some y → t.next x' ≡ Some y → x ≡ x'
  back x x' y e e' = cc (law.round x y _ e (law.follows x y e).1, law.round x' y _ e' (law.follows x y e).1)

  pub tri_distinct : (x y z : ℕ) → Tri t.next x y z → Distinct (x ∷ y ∷ z ∷ [])
  tri_distinct x y z r = (
    (λ e. law.moves x (r.one ∙ ap Some (sym e)), ((λ e. law.moves z (r.three ∙ ap Some e)), tt)),
    ((λ e. law.moves y (r.two ∙ ap Some (sym e)), tt), (tt, tt)),
  )

  off_next : (x y z : ℕ) → Tri t.next x y z → (p c : ℕ) → t.next p ≡ Some c → Fresh p (x ∷ y ∷ z ∷ []) → Fresh c (x ∷ y ∷ z ∷ [])
  off_next x y z r p c e f = (
    (λ q. f.1.1.0 (back p z x (e ∙ ap Some q) r.three)),
    ((λ q. f.0 (back p x y (e ∙ ap Some q) r.one)), ((λ q. f.1.0 (back p y z (e ∙ ap Some q) r.two)), tt)),
  )

  pub tri_disjoint : (x y z : ℕ) → Tri t.next x y z → (p c g : ℕ) → Tri t.next p c g → Fresh p (x ∷ y ∷ z ∷ [])
      → Disjoint (p ∷ c ∷ g ∷ []) (x ∷ y ∷ z ∷ [])
  tri_disjoint x y z r p c g s f =
      let fc : Fresh c (x ∷ y ∷ z ∷ []) = off_next x y z r p c s.one f in
      (f, (fc, (off_next x y z r c g s.two fc, tt)))

  -- the table leads from what has no name to what has none
  pub stays_off : (φ : ℕ → ℕ) (n : ℕ) (σ : ℕ → ℕ) → Sits φ n σ t.next → Closed n σ → ((k : ℕ) → k < n → σ (σ (σ k)) ≡ k)
      → (x y : ℕ) → Off φ n x → t.next x ≡ Some y → Off φ n y
  stays_off φ n σ s c r x y o e k h q =
      o (σ (σ k)) (c _ (c k h)) (back x (φ (σ (σ k))) y e (s (σ (σ k)) (c _ (c k h)) ∙ (ap (λ m. Some (φ m)) (r k h) ∙ ap Some (sym q))))

-- the label steps on darts
pub turn_even : (e : ℕ) → turn e (2 * e) ≡ 2 * e + 1
turn_even e = ap (λ b. cond b (partner (2 * e)) (2 * e)) (eq-eqb (edge_of (2 * e)) e (omega arith)) ∙ omega arith

pub turn_odd : (e : ℕ) → turn e (2 * e + 1) ≡ 2 * e
turn_odd e = ap (λ b. cond b (partner (2 * e + 1)) (2 * e + 1)) (eq-eqb (edge_of (2 * e + 1)) e (omega arith)) ∙ omega arith

pub turn_else : (e d : ℕ) → d ≢ 2 * e → d ≢ 2 * e + 1 → turn e d ≡ d
turn_else e d h k = ap (λ b. cond b (partner d) d) (ne_eqb (edge_of d) e (λ q. omega arith))

pub swap_else : (e f d : ℕ) → edge_of d ≢ e → edge_of d ≢ f → swap e f d ≡ d
swap_else e f d h k =
    (λ i. 2 * cond (ne_eqb (edge_of d) e h i) f (cond (ne_eqb (edge_of d) f k i) e (edge_of d)) + d % 2) ∙ omega arith
