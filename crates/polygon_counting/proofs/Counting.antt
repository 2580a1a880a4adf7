-- Every chord of a fully cut polygon has a triangle on each of its sides, by counting diagonals: a stretch of corners from i to j holds
-- at most j - i - 2 diagonals besides (i, j), and where it holds so many, a corner between them parts it into two stretches that do too.
use Rattle.std.proofs.Common.{◌≡◌, ℕ, zero, suc, ◌+◌, ◌-◌, ◌<◌, ◌≤◌, Bool, true, false, not, ◌&&◌, eqb, leb, ◌⊎◌, refl, ◌∙◌, subst, subst₂, inl, inr, arith}
use Rattle.std.proofs.lemmas.Bool.Decides.{nat_tests}
use Rattle.std.proofs.lemmas.Bool.{cases_lt}

-- what makes the m diagonals from lo k to hi k admissible in the polygon of n corners: each joins two corners that are no neighbours,
-- the smaller first; no two are one; no two cross
pub record Admissible (n m : ℕ) (lo hi : ℕ → ℕ) : Type 0 where
  pub apart : (k : ℕ) → k < m → lo k + 2 ≤ hi k
  pub corner : (k : ℕ) → k < m → hi k < n
  pub open_side : (k : ℕ) → k < m → lo k ≡ 0 → hi k + 1 ≡ n → ⊥
  pub distinct : (k l : ℕ) → k < m → l < m → lo k ≡ lo l → hi k ≡ hi l → k ≡ l
  pub uncrossed : (k l : ℕ) → k < m → l < m → lo k < lo l → lo l < hi k → hi k < hi l → ⊥

-- one of the diagonals goes from i to j
abbrev pub Diag : (m : ℕ) (lo hi : ℕ → ℕ) (i j : ℕ) → Type 0
Diag m lo hi i j = (k : ℕ) × (k < m) × (lo k ≡ i) × (hi k ≡ j)

-- a side from i to i + 1, or a diagonal
abbrev pub Chord : (m : ℕ) (lo hi : ℕ → ℕ) (i j : ℕ) → Type 0
Chord m lo hi i j = (j ≡ i + 1) ⊎ Diag m lo hi i j

-- what lies behind a chord seen from inside: the last side, or a diagonal
abbrev pub Base : (n m : ℕ) (lo hi : ℕ → ℕ) (i j : ℕ) → Type 0
Base n m lo hi i j = ((i ≡ 0) × (j + 1 ≡ n)) ⊎ Diag m lo hi i j

abbrev bit : Bool → ℕ
bit true = 1
bit false = 0

-- (a, b) lies within [i, j] and is not (i, j); (a, b) is (i, j)
abbrev within : (i j a b : ℕ) → Bool
within i j a b = (leb i a && leb b j) && not (eqb a i && eqb b j)

abbrev exact : (i j a b : ℕ) → Bool
exact i j a b = eqb a i && eqb b j

exact_is : (i j a b : ℕ) → ((bit (exact i j a b) ≡ 1) × (a ≡ i) × (b ≡ j)) ⊎ ((bit (exact i j a b) ≡ 0) × (a ≡ i → b ≡ j → ⊥))
exact_is i j a b = grind (arith, nat_tests)

-- if (a, b) lies within [i, j] it lies in [i, w] or in [w, j]
split_bit : (i w j a b : ℕ) → (i ≤ a → b ≤ j → ((i < a) ⊎ (b < j)) → (b ≤ w) ⊎ (w ≤ a)) →
    bit (within i j a b) ≤ (bit (within i w a b) + bit (exact i w a b)) + (bit (within w j a b) + bit (exact w j a b))
split_bit i w j a b f = grind (arith, nat_tests)

narrow_bit : (i j a b : ℕ) → a + 2 ≤ b → j ≤ i + 2 → bit (within i j a b) ≡ 0
narrow_bit i j a b h k = grind (arith, nat_tests)

all_bit : (n a b : ℕ) → b < n → (a ≡ 0 → b + 1 ≡ n → ⊥) → bit (within 0 (n - 1) a b) ≡ 1
all_bit n a b h k = grind (arith, nat_tests)

-- how many of the first m diagonals lie within [i, j], and how many are (i, j)
held : (lo hi : ℕ → ℕ) (i j m : ℕ) → ℕ
held lo hi i j zero = 0
held lo hi i j (suc m) = held lo hi i j m + bit (within i j (lo m) (hi m))

copies : (lo hi : ℕ → ℕ) (i j m : ℕ) → ℕ
copies lo hi i j zero = 0
copies lo hi i j (suc m) = copies lo hi i j m + bit (exact i j (lo m) (hi m))

module _ (lo hi : ℕ → ℕ) where
  held_split : (i w j m : ℕ) →
      ((k : ℕ) → k < m → i ≤ lo k → hi k ≤ j → ((i < lo k) ⊎ (hi k < j)) → (hi k ≤ w) ⊎ (w ≤ lo k)) →
      held lo hi i j m ≤ (held lo hi i w m + copies lo hi i w m) + (held lo hi w j m + copies lo hi w j m)
  unfolding held copies
  held_split i w j zero f = omega arith
  held_split i w j (suc m) f =
      let p = held_split i w j m (λ k h. f k (omega arith)) in
      let q = split_bit i w j (lo m) (hi m) (f m (omega arith)) in
      omega arith

  held_none : (i j m : ℕ) → ((k : ℕ) → k < m → lo k + 2 ≤ hi k) → j ≤ i + 2 → held lo hi i j m ≡ 0
  unfolding held
  held_none i j zero f h = refl
  held_none i j (suc m) f h = omega (arith, held_none i j m (λ k l. f k (omega arith)) h, narrow_bit i j (lo m) (hi m) (f m (omega arith)) h)

  held_all : (n m : ℕ) → ((k : ℕ) → k < m → hi k < n) → ((k : ℕ) → k < m → lo k ≡ 0 → hi k + 1 ≡ n → ⊥) →
      held lo hi 0 (n - 1) m ≡ m
  unfolding held
  held_all n zero f g = refl
  held_all n (suc m) f g =
      omega (arith, held_all n m (λ k l. f k (omega arith)) (λ k l. g k (omega arith)), all_bit n (lo m) (hi m) (f m (omega arith)) (g m (omega arith)))

  copies_is : (i j m : ℕ) → ((k l : ℕ) → k < m → l < m → lo k ≡ lo l → hi k ≡ hi l → k ≡ l) →
      ((copies lo hi i j m ≡ 0) × ((k : ℕ) → k < m → lo k ≡ i → hi k ≡ j → ⊥)) ⊎ ((copies lo hi i j m ≡ 1) × Diag m lo hi i j)
  unfolding copies
  copies_is i j zero f = inl (refl, λ k h _ _. omega arith)
  copies_is i j (suc m) f =
      let a = copies_is i j m (λ k l p q. f k l (omega arith) (omega arith)) in
      let b = exact_is i j (lo m) (hi m) in
      grind arith

-- what a polygon's corners and diagonals are like, from here on
module _ (n m : ℕ) (lo hi : ℕ → ℕ) (ad : Admissible n m lo hi) where
  C : ℕ → ℕ → ℕ
  C i j = held lo hi i j m

  M : ℕ → ℕ → ℕ
  M i j = copies lo hi i j m

  M_is : (i j : ℕ) → ((M i j ≡ 0) × ((k : ℕ) → k < m → lo k ≡ i → hi k ≡ j → ⊥)) ⊎ ((M i j ≡ 1) × Diag m lo hi i j)
  unfolding M
  M_is i j = copies_is lo hi i j m ad.distinct

  M_most : (i j : ℕ) → M i j ≤ 1
  M_most i j = let a = M_is i j in grind arith

  -- w is the largest corner below i + 2 + s that is joined to i from above
  record Top (i s : ℕ) : Type 0 where
    w : ℕ
    low : i < w
    high : w < i + 2 + s
    chord : Chord m lo hi i w
    beyond : (x k : ℕ) → w < x → x < i + 2 + s → k < m → lo k ≡ i → hi k ≡ x → ⊥

  top : (i s : ℕ) → Top i s
  top i zero = record { w = i + 1; low = omega arith; high = omega arith; chord = inl refl; beyond = λ x k p q h a b. omega arith }
  top i (suc s) = go (M_is i (i + 2 + s)) (top i s)
    where
      go : ((M i (i + 2 + s) ≡ 0) × ((k : ℕ) → k < m → lo k ≡ i → hi k ≡ i + 2 + s → ⊥)) ⊎ ((M i (i + 2 + s) ≡ 1) × Diag m lo hi i (i + 2 + s)) →
          Top i s → Top i (suc s)
      go (inr a) t = record { w = i + 2 + s; low = omega arith; high = omega arith; chord = inr a.1; beyond = λ x k p q h c d. omega arith }
      go (inl a) t = record {
        w = t.w;
        low = t.low;
        high = omega (arith, t.high);
        chord = t.chord;
        beyond = λ x k p q h c d. elim (cases_lt x (i + 2 + s)) [
          | inl l ↦ t.beyond x k p l h c d
          | inr l ↦ (let e : x ≡ i + 2 + s = omega arith in a.1 k h c (d ∙ e))
        ];
      }

  -- a corner that parts what lies within [i, j]
  record Split (i j : ℕ) : Type 0 where
    w : ℕ
    low : i < w
    high : w < j
    chord : Chord m lo hi i w
    parts : (k : ℕ) → k < m → i ≤ lo k → hi k ≤ j → ((i < lo k) ⊎ (hi k < j)) → (hi k ≤ w) ⊎ (w ≤ lo k)

  split : (i j : ℕ) → i + 2 ≤ j → Split i j
  split i j h = record {
    w = t.w;
    low = t.low;
    high = below;
    chord = t.chord;
    parts = parts;
  }
    where
      t : Top i (j - (i + 2))
      t = top i (j - (i + 2))

      is : i + 2 + (j - (i + 2)) ≡ j
      is = omega arith

      below : t.w < j
      below = omega (arith, t.high)

      parts : (k : ℕ) → k < m → i ≤ lo k → hi k ≤ j → ((i < lo k) ⊎ (hi k < j)) → (hi k ≤ t.w) ⊎ (t.w ≤ lo k)
      parts k l a b o =
          let x = t.beyond (hi k) k in
          elim t.chord [ inl e ↦ grind arith | inr D ↦ (let y = ad.uncrossed D.0 k D.1 l in grind arith) ]

  C_none : (i j : ℕ) → j ≤ i + 2 → C i j ≡ 0
  unfolding C
  C_none i j h = held_none lo hi i j m ad.apart h

  C_split : (i j : ℕ) (p : Split i j) → C i j ≤ (C i p.w + M i p.w) + (C p.w j + M p.w j)
  unfolding C M
  C_split i j p = held_split lo hi i p.w j m p.parts

  M_next : (i j : ℕ) → i < j → j < i + 2 → M i j ≡ 0
  M_next i j h k = elim (M_is i j) [ inl a ↦ a.0 | inr a ↦ (let D = a.1 in let e = ad.apart D.0 D.1 in absurd (omega (arith, D.2, D.3))) ]

  half : (i j : ℕ) → i < j → (i + 2 ≤ j → C i j + i + 2 ≤ j) → (C i j + M i j) + i + 1 ≤ j
  half i j h f = let a = C_none i j in let b = M_next i j h in let c = M_most i j in grind arith

  bound : (s i j : ℕ) → j ≤ i + s → i + 2 ≤ j → C i j + i + 2 ≤ j
  bound zero i j h k = omega arith
  bound (suc s) i j h k =
      let p = split i j k in
      let a = half i p.w p.low (λ l. bound s i p.w (omega (arith, p.high)) l) in
      let b = half p.w j p.high (λ l. bound s p.w j (omega (arith, p.low)) l) in
      omega (arith, C_split i j p)

  whole : (i j : ℕ) → i < j → (C i j + M i j) + i + 1 ≤ j
  whole i j h = half i j h (λ l. bound j i j (omega arith) l)

  -- [i, j] holds as many diagonals as it can
  pub Tight : ℕ → ℕ → Type 0
  Tight i j = j ≤ C i j + i + 2

  -- the triangle on the inner side of (i, j)
  pub record Inner (i j : ℕ) : Type 0 where
    pub w : ℕ
    pub low : i < w
    pub high : w < j
    pub left : Chord m lo hi i w
    pub right : Chord m lo hi w j
    parts : (k : ℕ) → k < m → i ≤ lo k → hi k ≤ j → ((i < lo k) ⊎ (hi k < j)) → (hi k ≤ w) ⊎ (w ≤ lo k)
    left_tight : Tight i w
    right_tight : Tight w j

  inner : (i j : ℕ) → i + 2 ≤ j → Tight i j → Inner i j
  unfolding Tight
  inner i j h t = record {
    w = p.w;
    low = p.low;
    high = p.high;
    left = p.chord;
    parts = p.parts;
    left_tight = omega (arith, a, b, c, M_most i p.w);
    right_tight = omega (arith, a, b, c, M_most p.w j);
    right = right;
  }
    where
      p : Split i j
      p = split i j h

      c : C i j ≤ (C i p.w + M i p.w) + (C p.w j + M p.w j)
      c = C_split i j p

      a : (C i p.w + M i p.w) + i + 1 ≤ p.w
      a = whole i p.w p.low

      b : (C p.w j + M p.w j) + p.w + 1 ≤ j
      b = whole p.w j p.high

      right : Chord m lo hi p.w j
      right = elim (M_is p.w j) [ inl z ↦ (let e = bound j p.w j in let g = p.high in inl (grind (arith, a, b, c))) | inr D ↦ inr D.1 ]

  -- the triangle on the outer side of (i, j): its third corner w is beyond j or before i
  pub data Outer (i j : ℕ) : Type 0 where
    beyond : (w : ℕ) → j < w → w < n → Chord m lo hi j w → Base n m lo hi i w → Outer i j
    before : (w : ℕ) → w < i → Chord m lo hi w i → Base n m lo hi w j → Outer i j

  place : (p q i j : ℕ) (I : Inner p q) → i < j → p ≤ i → j ≤ q → Chord m lo hi i j → ((p < i) ⊎ (j < q)) → (j ≤ I.w) ⊎ (I.w ≤ i)
  place p q i j I h a b (inl e) o = grind arith
  place p q i j I h a b (inr D) o = let s = I.parts D.0 D.1 in grind arith

  to_base : (p q i j : ℕ) → p ≤ i → i < j → j ≤ q → ((p < i) ⊎ (j < q)) → Chord m lo hi p q → Base n m lo hi p q
  to_base p q i j a h b o (inl e) = absurd (omega arith)
  to_base p q i j a h b o (inr D) = inr D

  descend : (s p q i j : ℕ) → q ≤ p + s → q < n → Tight p q → Base n m lo hi p q → i < j → p ≤ i → j ≤ q →
      Chord m lo hi i j → ((p < i) ⊎ (j < q)) → Outer i j × Tight i j
  descend zero p q i j hs hn t bs h a b c o = absurd (omega arith)
  descend (suc s) p q i j hs hn t bs h a b c o =
      let I = inner p q (omega arith) t in
      let w = I.w in
      let lw = I.low in
      let hw = I.high in
      elim (place p q i j I h a b c o) [
        | inl l ↦ elim (cases_lt p i) [
          | inl x ↦ descend s p w i j (omega arith) (omega arith) I.left_tight (to_base p w i j a h l (inl x) I.left) h a l c (inl x)
          | inr x ↦ elim (cases_lt j w) [
            | inl y ↦ descend s p w i j (omega arith) (omega arith) I.left_tight (to_base p w i j a h l (inr y) I.left) h a l c (inr y)
            | inr y ↦ (
                let e : p ≡ i = omega arith in
                let f : w ≡ j = omega arith in (
                  beyond q (omega arith) hn (subst (λ (v : ℕ). Chord m lo hi v q) f I.right) (subst (λ (v : ℕ). Base n m lo hi v q) e bs),
                  subst₂ Tight e f I.left_tight,
                ))
          ]
        ]
        | inr l ↦ elim (cases_lt j q) [
          | inl x ↦ descend s w q i j (omega arith) hn I.right_tight (to_base w q i j l h b (inr x) I.right) h l b c (inr x)
          | inr x ↦ elim (cases_lt w i) [
            | inl y ↦ descend s w q i j (omega arith) hn I.right_tight (to_base w q i j l h b (inl y) I.right) h l b c (inl y)
            | inr y ↦ (
                let e : w ≡ i = omega arith in
                let f : q ≡ j = omega arith in (
                  before p (omega arith) (subst (λ (v : ℕ). Chord m lo hi p v) e I.left) (subst (λ (v : ℕ). Base n m lo hi p v) f bs),
                  subst₂ Tight e f I.right_tight,
                ))
          ]
        ]
      ]

  module _ (full : n ≡ m + 3) where
    start : Tight 0 (n - 1)
    unfolding Tight C
    start = omega (arith, held_all lo hi n m ad.corner ad.open_side, full)

    -- both triangles of a chord (i, j) that is not the last side
    around : (i j : ℕ) → i < j → j < n → Chord m lo hi i j → ((0 < i) ⊎ (j < n - 1)) → Outer i j × Tight i j
    around i j h k c o = descend n 0 (n - 1) i j (omega arith) (omega (arith, full)) start (inl (refl, omega (arith, full))) h (omega arith) (omega arith) c o

    -- the inner triangle of the last side
    pub last_inner : Inner 0 (n - 1)
    last_inner = inner 0 (n - 1) (omega (arith, full)) start

    diag_proper : (k : ℕ) → k < m → (0 < lo k) ⊎ (hi k < n - 1)
    diag_proper k h = let a = ad.open_side k h in let b = ad.corner k h in grind arith

    pub diag_around : (k : ℕ) → k < m → Outer (lo k) (hi k) × Tight (lo k) (hi k)
    diag_around k h = around (lo k) (hi k) (omega (arith, ad.apart k h)) (ad.corner k h) (inr (k, h, refl, refl)) (diag_proper k h)

    pub diag_inner : (k : ℕ) → k < m → Inner (lo k) (hi k)
    diag_inner k h = inner (lo k) (hi k) (ad.apart k h) (diag_around k h).1

    pub side_outer : (i : ℕ) → i + 1 < n → Outer i (i + 1)
    side_outer i h = (around i (i + 1) (omega arith) h (inl refl) (elim (cases_lt 0 i) [ inl l ↦ inl l | inr l ↦ inr (omega (arith, full)) ])).0
