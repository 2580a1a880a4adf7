-- The table of the torus is lawful.
use Rattle.std.specs.Prelude.{◌≡◌, ℕ, zero, suc, ◌+◌, ◌*◌, ◌/◌, ◌%◌, ◌<◌, ◌≤◌, Some, None, Option, ◌≢◌, nat_lt}
use Rattle.std.proofs.Common.{sym, ◌∙◌, ap, ap₂, inl, inr, arith}
use Rattle.std.proofs.lemmas.Bool.Decides.{nat_tests}
use Rattle.std.proofs.lemmas.Bool.{cond-true, cond-false, lt-ltb, le-ltb, cases_lt}
use Rattle.triangulations.specs.Triangulations.{Lawful}
use Rattle.surfaces.specs.Surfaces.{Sound}
use Rattle.surfaces.specs.Torus.{ahead, behind, in_cell, torus_next, torus}

six : (P : ℕ → Type 0) → P 0 → P 1 → P 2 → P 3 → P 4 → P 5 → (r : ℕ) → r < 6 → P r
six P a b c d e f zero h = a
six P a b c d e f (suc zero) h = b
six P a b c d e f (suc (suc zero)) h = c
six P a b c d e f (suc (suc (suc zero))) h = d
six P a b c d e f (suc (suc (suc (suc zero)))) h = e
six P a b c d e f (suc (suc (suc (suc (suc zero))))) h = f
six P a b c d e f (suc (suc (suc (suc (suc (suc r)))))) h = absurd (omega arith)

step : ℕ → ℕ → ℕ
step m d = in_cell m (d / 6) (d % 6)

step_at : (m j r : ℕ) → r < 6 → step m (6 * j + r) ≡ in_cell m j r
unfolding step
step_at m j r h =
    let a : (6 * j + r) / 6 ≡ j = omega arith in
    let b : (6 * j + r) % 6 ≡ r = omega arith in
    ap₂ (in_cell m) a b

behind_ahead : (m j : ℕ) → j < m → behind m (ahead m j) ≡ j
behind_ahead m j h = grind (arith, nat_tests)

ahead_behind : (m j : ℕ) → j < m → ahead m (behind m j) ≡ j
ahead_behind m j h = grind (arith, nat_tests)

ahead_less : (m j : ℕ) → j < m → ahead m j < m
ahead_less m j h = grind (arith, nat_tests)

behind_less : (m j : ℕ) → j < m → behind m j < m
behind_less m j h = grind (arith, nat_tests)

-- what follows dart r of cell j, and what follows that, and back
record Turn (m j r : ℕ) : Type 0 where
  e : ℕ
  f : ℕ
  e_less : e < 6 * m
  f_less : f < 6 * m
  other : e ≡ 6 * j + r → ⊥
  first : step m (6 * j + r) ≡ e
  second : step m e ≡ f
  third : step m f ≡ 6 * j + r

below_6 : (m x r : ℕ) → r < 6 → x < m → 6 * x + r < 6 * m
below_6 m x r h k = omega arith

below_0 : (m x : ℕ) → x < m → 6 * x < 6 * m
below_0 m x k = omega arith

apart : (x y r s : ℕ) → r < 6 → s < 6 → (r ≢ s) → 6 * x + r ≢ 6 * y + s
apart x y r s h k n e = n (omega arith)

at0 : (m j : ℕ) → step m (6 * j) ≡ 6 * ahead m j + 2
at0 m j = ap (step m) (omega arith) ∙ step_at m j 0 (omega arith)

turn : (m j r : ℕ) → r < 6 → j < m → Turn m j r
turn m j r k h = six (Turn m j) t0 t1 t2 t3 t4 t5 r k
  where
    al : ahead m j < m
    al = ahead_less m j h

    bl : behind m j < m
    bl = behind_less m j h

    a_b : behind m (ahead m j) ≡ j
    a_b = behind_ahead m j h

    b_a : ahead m (behind m j) ≡ j
    b_a = ahead_behind m j h

    t0 : Turn m j 0
    t0 = record {
      e = 6 * ahead m j + 2;
      f = 6 * j + 5;
      e_less = below_6 m (ahead m j) 2 (omega arith) al;
      f_less = omega arith;
      other = apart (ahead m j) j 2 0 (omega arith) (omega arith) (omega arith);
      first = step_at m j 0 (omega arith);
      second = step_at m (ahead m j) 2 (omega arith) ∙ ap (λ x. 6 * x + 5) a_b;
      third = step_at m j 5 (omega arith) ∙ omega arith;
    }

    t1 : Turn m j 1
    t1 = record {
      e = 6 * j + 3;
      f = 6 * j + 4;
      e_less = omega arith;
      f_less = omega arith;
      other = omega arith;
      first = step_at m j 1 (omega arith);
      second = step_at m j 3 (omega arith);
      third = step_at m j 4 (omega arith);
    }

    t2 : Turn m j 2
    t2 = record {
      e = 6 * behind m j + 5;
      f = 6 * behind m j;
      e_less = below_6 m (behind m j) 5 (omega arith) bl;
      f_less = below_0 m (behind m j) bl;
      other = apart (behind m j) j 5 2 (omega arith) (omega arith) (omega arith);
      first = step_at m j 2 (omega arith);
      second = step_at m (behind m j) 5 (omega arith);
      third = at0 m (behind m j) ∙ ap (λ x. 6 * x + 2) b_a;
    }

    t3 : Turn m j 3
    t3 = record {
      e = 6 * j + 4;
      f = 6 * j + 1;
      e_less = omega arith;
      f_less = omega arith;
      other = omega arith;
      first = step_at m j 3 (omega arith);
      second = step_at m j 4 (omega arith);
      third = step_at m j 1 (omega arith);
    }

    t4 : Turn m j 4
    t4 = record {
      e = 6 * j + 1;
      f = 6 * j + 3;
      e_less = omega arith;
      f_less = omega arith;
      other = omega arith;
      first = step_at m j 4 (omega arith);
      second = step_at m j 1 (omega arith);
      third = step_at m j 3 (omega arith);
    }

    t5 : Turn m j 5
    t5 = record {
      e = 6 * j;
      f = 6 * ahead m j + 2;
      e_less = omega arith;
      f_less = below_6 m (ahead m j) 2 (omega arith) al;
      other = omega arith;
      first = step_at m j 5 (omega arith);
      second = at0 m j;
      third = step_at m (ahead m j) 2 (omega arith) ∙ ap (λ x. 6 * x + 5) a_b;
    }

record Back (m d : ℕ) : Type 0 where
  e : ℕ
  f : ℕ
  other : e ≡ d → ⊥
  first : torus_next m d ≡ Some e
  second : torus_next m e ≡ Some f
  third : torus_next m f ≡ Some d

inside : (m d e : ℕ) → d < 6 * m → step m d ≡ e → torus_next m d ≡ Some e
unfolding step
inside m d e h s = cond-true (nat_lt d (6 * m)) (Some (in_cell m (d / 6) (d % 6))) None (lt-ltb d (6 * m) h) ∙ ap Some s

outside : (m d : ℕ) → 6 * m ≤ d → torus_next m d ≡ None
outside m d h = cond-false (nat_lt d (6 * m)) (Some (in_cell m (d / 6) (d % 6))) None (le-ltb d (6 * m) h)

back : (m d : ℕ) → d < 6 * m → Back m d
back m d h =
    let t = turn m (d / 6) (d % 6) (omega arith) (omega arith) in
    let is : 6 * (d / 6) + d % 6 ≡ d = omega arith in
    record {
      e = t.e;
      f = t.f;
      other = λ q. t.other (q ∙ sym is);
      first = inside m d t.e h (ap (step m) (sym is) ∙ t.first);
      second = inside m t.e t.f t.e_less t.second;
      third = inside m t.f d t.f_less (t.third ∙ is);
    }

some_is : (m d : ℕ) (e : ℕ) → torus_next m d ≡ Some e → Back m d
some_is m d e p = elim (cases_lt d (6 * m)) [ inl h ↦ back m d h | inr h ↦ absurd (never (outside m d h)) ]
  where
    never : torus_next m d ≡ None → ⊥
    never q = let z : ◌≡◌ {A = ℕ} 0 1 = cc (p, q) in omega arith

torus_lawful : (m : ℕ) → Lawful (torus m)
torus_lawful m = record {
  follows = λ d a p. let t = some_is m d a p in
      let q : a ≡ t.e = cc (p, t.first) in
      (t.f, ap (torus_next m) q ∙ t.second);
  moves = λ d p. let t = some_is m d d p in
      let q : t.e ≡ d = cc (p, t.first) in t.other q;
  round = λ d a b p r. let t = some_is m d a p in
      let q : a ≡ t.e = cc (p, t.first) in
      let s : b ≡ t.f = cc (r, ap (torus_next m) q ∙ t.second) in
      ap (torus_next m) s ∙ t.third;
  covered = λ e h p q. let t = back m (2 * e) (omega arith) in
      let z : ◌≡◌ {A = ℕ} 0 1 = cc (p, t.first) in omega arith;
  bounded = λ d a p. elim (cases_lt d (6 * m)) [ inl h ↦ omega arith | inr h ↦ absurd (never d a p (outside m d h)) ];
}
  where
    never : (d a : ℕ) → torus_next m d ≡ Some a → torus_next m d ≢ None
    never d a p q = let z : ◌≡◌ {A = ℕ} 0 1 = cc (p, q) in omega arith

pub torus_sound : (m : ℕ) → 1 ≤ m → m ≤ 21 → Sound (torus m)
torus_sound m l u = record { lawful = torus_lawful m; least = omega arith; most = omega arith }
