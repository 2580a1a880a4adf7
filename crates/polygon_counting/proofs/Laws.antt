-- A polygon with three diagonals fewer than corners, no two of which cross, has a lawful table.
use Rattle.std.proofs.Common.{◌≡◌, ℕ, ◌+◌, ◌-◌, ◌*◌, ◌/◌, ◌%◌, ◌<◌, ◌≤◌, true, ◌&&◌, ◌⊎◌, List, length, is_some, Some, None, Option, sym, refl, ap, ◌∙◌, subst, subst₂, inl, inr, arith}
use Rattle.std.proofs.lemmas.Bool.{cases_lt, cases_eq, and_parts}
use Rattle.std.proofs.lemmas.Bool.Decides.{nat_tests}
use Rattle.std.proofs.lemmas.List.Quantifiers.{position-Some}
use Rattle.std.specs.List.{position}
use Rattle.std.specs.Option.{option_and_then}
use Rattle.std.proofs.lemmas.Option.{same_Some, option_and_then_some, some_pair_parts}
use Rattle.polygon_counting.specs.declared.diagonal.Diagonal.{Diagonal}
use Rattle.polygon_counting.specs.Diagonals.{at, Uncrossed}
use Rattle.polygon_counting.specs.Polygons.{onward, between, joins, diagonal_dart, dart_to, joined, closes, apex, following, ends, polygon_next}
use Rattle.polygon_counting.specs.Theorem.{Closed, Triangulated, CutIntoTriangles}
use Rattle.polygon_counting.proofs.Searching.{only_found, only_position}
use Rattle.polygon_counting.proofs.Cases.{onward_is, dart_side, dart_other, ends_outside, ends_past}
use Rattle.polygon_counting.proofs.Order.{Between, Order, between_from, between_to, between_turn, between_apart, order}
use Rattle.polygon_counting.proofs.Counting.{Admissible, Chord, Base, Inner, Outer, last_inner, diag_around, diag_inner, side_outer}
use Rattle.polygon_counting.proofs.Admitted.{low_of, high_of, admissible}

some_of : (o : Option ℕ) → is_some o ≡ true → (d : ℕ) × (o ≡ Some d)
some_of None e = absurd (cc)
some_of (Some d) e = (d, refl)

-- d is the inside dart from u to v
pub data Dart (n : ℕ) (ds : List Diagonal) (d u v : ℕ) : Type 0 where
  side : u + 1 < n → d ≡ 2 * u → v ≡ u + 1 → Dart n ds d u v
  last : u + 1 ≡ n → d ≡ 2 * u → v ≡ 0 → Dart n ds d u v
  up : (k : ℕ) → k < length ds → d ≡ 2 * (n + k) → low_of ds k ≡ u → high_of ds k ≡ v → Dart n ds d u v
  down : (k : ℕ) → k < length ds → d ≡ 2 * (n + k) + 1 → high_of ds k ≡ u → low_of ds k ≡ v → Dart n ds d u v

module _ (n : ℕ) (ds : List Diagonal) (ad : Admissible n (length ds) (low_of ds) (high_of ds)) (full : n ≡ length ds + 3) where
  abbrev lo : ℕ → ℕ
  lo = low_of ds

  abbrev hi : ℕ → ℕ
  hi = high_of ds

  D : ℕ → ℕ → ℕ → Type 0
  D = Dart n ds

  bounds : (d u v : ℕ) → D d u v → (u < n) × (v < n) × (d < 2 * (n + length ds)) × (u ≡ v → ⊥)
  unfolding D
  bounds d u v (side a b c) = omega (arith, full)
  bounds d u v (last a b c) = omega (arith, full)
  bounds d u v (up k h a b c) = omega (arith, ad.apart k h, ad.corner k h)
  bounds d u v (down k h a b c) = omega (arith, ad.apart k h, ad.corner k h)

  crossing : (d e v w x u : ℕ) → D d v x → D e w u → Order v w x u → ⊥
  unfolding D Order
  crossing d e v w x u (side a b c) q o = omega arith
  crossing d e v w x u (last a b c) q o = let h = bounds e w u q in omega (arith, h.0, h.1)
  crossing d e v w x u (up k h a b c) (side a' b' c') o = omega (arith, ad.corner k h)
  crossing d e v w x u (up k h a b c) (last a' b' c') o = omega (arith, ad.corner k h, ad.apart k h)
  crossing d e v w x u (down k h a b c) (side a' b' c') o = omega (arith, ad.corner k h)
  crossing d e v w x u (down k h a b c) (last a' b' c') o = omega (arith, ad.corner k h, ad.apart k h)
  crossing d e v w x u (up k h a b c) (up l h' a' b' c') o =
      let p = ad.apart k h in let q = ad.apart l h' in
      ad.uncrossed k l h h' (omega arith) (omega arith) (omega arith)
  crossing d e v w x u (up k h a b c) (down l h' a' b' c') o =
      let p = ad.apart k h in let q = ad.apart l h' in
      ad.uncrossed l k h' h (omega arith) (omega arith) (omega arith)
  crossing d e v w x u (down k h a b c) (up l h' a' b' c') o =
      let p = ad.apart k h in let q = ad.apart l h' in
      ad.uncrossed l k h' h (omega arith) (omega arith) (omega arith)
  crossing d e v w x u (down k h a b c) (down l h' a' b' c') o =
      let p = ad.apart k h in let q = ad.apart l h' in
      ad.uncrossed k l h h' (omega arith) (omega arith) (omega arith)

  unique : (u v w x a b c d : ℕ) → Between v w u → Between v x u → D a v w → D b w u → D c v x → D d x u → w ≡ x
  unique u v w x a b c d p q A B C F = elim (order v w x u p q) [
    | inl e ↦ e
    | inr (inl o) ↦ absurd (crossing c b v w x u C B o)
    | inr (inr o) ↦ absurd (crossing a d v x w u A F o)
  ]

  -- the dart from u to v is found

  joins_is : (u v l : ℕ) → joins u v (at ds l) ≡ true → ((lo l ≡ u) × (hi l ≡ v)) ⊎ ((lo l ≡ v) × (hi l ≡ u))
  joins_is u v l t = grind (arith, nat_tests)

  -- two diagonals that join u and v are one
  joins_only : (k u v : ℕ) → k < length ds → joins u v (at ds k) ≡ true → (l : ℕ) → l < length ds → joins u v (at ds l) ≡ true → l ≡ k
  joins_only k u v h t l h' t' =
      let a = joins_is u v k t in let b = joins_is u v l t' in
      let p = ad.apart k h in let q = ad.apart l h' in let e = ad.distinct l k h' h in
      grind arith

  joins_up : (k u v : ℕ) → lo k ≡ u → hi k ≡ v → joins u v (at ds k) ≡ true
  joins_up k u v a b = grind (arith, nat_tests)

  joins_down : (k u v : ℕ) → hi k ≡ u → lo k ≡ v → joins u v (at ds k) ≡ true
  joins_down k u v a b = grind (arith, nat_tests)

  not_onward : (k u v : ℕ) → k < length ds → u < n → ((lo k ≡ u) × (hi k ≡ v)) ⊎ ((hi k ≡ u) × (lo k ≡ v)) → v ≡ onward n u → ⊥
  not_onward k u v h l (inl a) e =
      let p = ad.apart k h in let q = ad.corner k h in grind (arith, nat_tests)
  not_onward k u v h l (inr a) e =
      let p = ad.apart k h in let q = ad.open_side k h in grind (arith, nat_tests)

  dart_at : (d u v : ℕ) → D d u v → dart_to n ds u v ≡ Some d
  unfolding D dart_to
  dart_at d u v (side a b c) = grind (arith, nat_tests)
  dart_at d u v (last a b c) = grind (arith, nat_tests)
  dart_at d u v (up k h a b c) =
      let p = ad.apart k h in let q = ad.corner k h in
      let other = not_onward k u v h (omega arith) (inl (b, c)) in
      let found = only_position (joins u v) ds _ k h (joins_up k u v b c) (joins_only k u v h (joins_up k u v b c)) in
      grind (arith, nat_tests)
  dart_at d u v (down k h a b c) =
      let p = ad.apart k h in let q = ad.corner k h in
      let other = not_onward k u v h (omega arith) (inr (b, c)) in
      let found = only_position (joins u v) ds _ k h (joins_down k u v b c) (joins_only k u v h (joins_down k u v b c)) in
      grind (arith, nat_tests)

  -- where a dart is found, it is one
  dart_is : (d u v : ℕ) → u < n → dart_to n ds u v ≡ Some d → D d u v
  unfolding D
  dart_is d u v h f = elim (cases_eq v (onward n u)) [
    | inl e ↦ (let q : d ≡ 2 * u = cc (f, dart_side n ds u v e) in elim (onward_is n u h) [
      | inl o ↦ side o.0 q (e ∙ o.1)
      | inr o ↦ last o.0 q (e ∙ o.1)
    ])
    | inr e ↦ option_and_then_some (λ l. Some (diagonal_dart n u v l)) (position (joins u v) ds) d (sym (dart_other n ds u v e) ∙ f) found
  ]
    where
      found : (k : ℕ) → position (joins u v) ds ≡ Some k → ◌≡◌ {A = Option ℕ} (Some (diagonal_dart n u v k)) (Some d) → Dart n ds d u v
      found k s q =
          let is = same_Some (diagonal_dart n u v k) d q in
          let w = position-Some (joins u v) ds k _ s in
          let p = ad.apart k w.0 in
          elim (joins_is u v k w.1) [
            | inl a ↦ up k w.0 (grind (arith, nat_tests)) a.0 a.1
            | inr a ↦ down k w.0 (grind (arith, nat_tests)) a.1 a.0
          ]

  -- every dart has a triangle
  record Apex (u v : ℕ) : Type 0 where
    w : ℕ
    corner : w < n
    met : Between v w u
    d : ℕ
    e : ℕ
    from : D d v w
    back : D e w u

  chord_dart : (i j : ℕ) → i < j → j < n → Chord (length ds) lo hi i j → (d : ℕ) × D d i j
  unfolding D
  chord_dart i j h l (inl e) = (2 * i, side (omega arith) refl e)
  chord_dart i j h l (inr c) = (2 * (n + c.0), up c.0 c.1 refl c.2 c.3)

  base_dart : (i j : ℕ) → Base n (length ds) lo hi i j → (d : ℕ) × D d j i
  unfolding D
  base_dart i j (inl e) = (2 * j, last e.1 refl e.0)
  base_dart i j (inr c) = (2 * (n + c.0) + 1, down c.0 c.1 refl c.3 c.2)

  outer_apex : (i j : ℕ) → i < j → j < n → Outer n (length ds) lo hi ad i j → Apex i j
  unfolding Between
  outer_apex i j h l (Outer.beyond w a b c s) =
      let x = chord_dart j w a b c in let y = base_dart i w s in
      record { w = w; corner = b; met = inr (inr (h, a)); d = x.0; e = y.0; from = x.1; back = y.1 }
  outer_apex i j h l (Outer.before w a c s) =
      let x = base_dart w j s in let y = chord_dart w i a (omega arith) c in
      record { w = w; corner = omega arith; met = inr (inl (a, h)); d = x.0; e = y.0; from = x.1; back = y.1 }

  inner_apex : (i j : ℕ) → j < n → Inner n (length ds) lo hi ad i j → Apex j i
  unfolding Between
  inner_apex i j l t =
      let p = t.low in let q = t.high in
      let x = chord_dart i t.w p (omega arith) t.left in let y = chord_dart t.w j q l t.right in
      record { w = t.w; corner = omega arith; met = inl (p, q); d = x.0; e = y.0; from = x.1; back = y.1 }

  some_apex : (d u v : ℕ) → D d u v → Apex u v
  unfolding D
  some_apex d u v (side a b c) =
      subst (λ (x : ℕ). Apex u x) (sym c) (outer_apex u (u + 1) (omega arith) a (side_outer n (length ds) lo hi ad full u a))
  some_apex d u v (last a b c) =
      let e : n - 1 ≡ u = omega arith in
      subst₂ Apex e (sym c) (inner_apex 0 (n - 1) (omega (arith, full)) (last_inner n (length ds) lo hi ad full))
  some_apex d u v (up k h a b c) =
      subst₂ Apex b c (outer_apex (lo k) (hi k) (omega (arith, ad.apart k h)) (ad.corner k h) (diag_around n (length ds) lo hi ad full k h).0)
  some_apex d u v (down k h a b c) =
      subst₂ Apex b c (inner_apex (lo k) (hi k) (ad.corner k h) (diag_inner n (length ds) lo hi ad full k h))

  closes_to : (u v w d e : ℕ) → Between v w u → D d v w → D e w u → closes n ds u v w ≡ true
  closes_to u v w d e b p q =
      let x = dart_at d v w p in let y = dart_at e w u q in let z = between_to v w u b in grind (arith, nat_tests)

  closes_from : (u v w : ℕ) → (u ≡ v → ⊥) → v < n → w < n → closes n ds u v w ≡ true → Apex u v
  closes_from u v w ne hv hw t =
      let a = and_parts (between v w u) (joined n ds v w && joined n ds w u) t in
      let b = and_parts (joined n ds v w) (joined n ds w u) a.1 in
      let x = some_of (dart_to n ds v w) b.0 in
      let y = some_of (dart_to n ds w u) b.1 in
      record { w = w; corner = hw; met = between_from v w u a.0 ne; d = x.0; e = y.0; from = dart_is x.0 v w hv x.1; back = dart_is y.0 w u hw y.1 }

  -- no other corner closes the triangle
  only_apex : (u v w d e : ℕ) → Between v w u → D d v w → D e w u → (x : ℕ) → x < n → closes n ds u v x ≡ true → x ≡ w
  unfolding closes_from
  only_apex u v w d e b p q x h t =
      let P = closes_from u v x (between_apart v w u b) (bounds d v w p).0 h t in
      unique u v x w P.d P.e d e P.met b P.from P.back p q

  apex_is : (u v w d e : ℕ) → Between v w u → D d v w → D e w u → apex n ds u v ≡ Some w
  unfolding apex
  apex_is u v w d e b p q = only_found n (closes n ds u v) w (bounds d v w p).1 (closes_to u v w d e b p q) (only_apex u v w d e b p q)

  ends_at : (d u v : ℕ) → D d u v → ends n ds d ≡ Some (u, v)
  unfolding D ends
  ends_at d u v (side a b c) = let e : d / 2 ≡ u = omega arith in let f : d % 2 ≡ 0 = omega arith in grind (arith, nat_tests)
  ends_at d u v (last a b c) = let e : d / 2 ≡ u = omega arith in let f : d % 2 ≡ 0 = omega arith in grind (arith, nat_tests)
  ends_at d u v (up k h a b c) = let e : d / 2 ≡ n + k = omega arith in let f : d % 2 ≡ 0 = omega arith in grind (arith, nat_tests)
  ends_at d u v (down k h a b c) = let e : d / 2 ≡ n + k = omega arith in let f : d % 2 ≡ 1 = omega arith in grind (arith, nat_tests)

  next : ℕ → Option ℕ
  next = polygon_next n ds

  next_in : (d u v w x y : ℕ) → D d u v → Between v w u → D x v w → D y w u → next d ≡ Some x
  unfolding next polygon_next
  next_in d u v w x y p b q r =
      ap (option_and_then (λ e. following n ds e.0 e.1)) (ends_at d u v p)
      ∙ ap (option_and_then (dart_to n ds v)) (apex_is u v w x y b q r) ∙ dart_at x v w q

  starts : (d u v x y : ℕ) → D d u v → D d x y → u ≡ x
  starts d u v x y p q = (some_pair_parts u x v y (sym (ends_at d u v p) ∙ ends_at d x y q)).0

  -- the triangle to the left of d
  record Triangle (d : ℕ) : Type 0 where
    e : ℕ
    f : ℕ
    other : e ≡ d → ⊥
    first : next d ≡ Some e
    second : next e ≡ Some f
    third : next f ≡ Some d
    closed : Closed n ds d e

  triangle : (d u v : ℕ) → D d u v → Triangle d
  triangle d u v p =
      let A = some_apex d u v p in
      let w = A.w in
      let b = A.met in
      let b' = between_turn v w u b in
      let b'' = between_turn w u v b' in
      record {
        e = A.d;
        f = A.e;
        other = λ q. between_apart v w u b (starts d u v v w p (subst (λ (x : ℕ). D x v w) q A.from));
        first = next_in d u v w A.d A.e p b A.from A.back;
        second = next_in A.d v w u A.e d A.from b' A.back p;
        third = next_in A.e w u v d A.d A.back b'' p A.from;
        closed = record {
          from = u;
          to = v;
          corner = w;
          runs = ends_at d u v p;
          below = A.corner;
          closing = closes_to u v w A.d A.e b A.from A.back;
          only = only_apex u v w A.d A.e b A.from A.back;
          onto = dart_at A.d v w A.from;
        };
      }

  -- from where to where d runs, or else it has no ends
  run : (d : ℕ) → ((u : ℕ) × (v : ℕ) × D d u v) ⊎ (ends n ds d ≡ None)
  unfolding D
  run d = elim (cases_lt (d / 2) n) [
    | inl h ↦ elim (cases_eq (d % 2) 0) [
      | inl p ↦ elim (onward_is n (d / 2) h) [
        | inl o ↦ inl (d / 2, d / 2 + 1, side o.0 (omega arith) refl)
        | inr o ↦ inl (d / 2, 0, last o.0 (omega arith) refl)
      ]
      | inr p ↦ inr (ends_outside n ds d h p)
    ]
    | inr h ↦ elim (cases_lt (d / 2) (n + length ds)) [
      | inl l ↦ elim (cases_eq (d % 2) 0) [
        | inl p ↦ inl (lo (d / 2 - n), hi (d / 2 - n), up (d / 2 - n) (omega arith) (omega arith) refl refl)
        | inr p ↦ inl (hi (d / 2 - n), lo (d / 2 - n), down (d / 2 - n) (omega arith) (omega arith) refl refl)
      ]
      | inr l ↦ inr (ends_past n ds d l)
    ]
  ]

  none_next : (d : ℕ) → ends n ds d ≡ None → next d ≡ None
  unfolding next polygon_next
  none_next d e = ap (option_and_then (λ e. following n ds e.0 e.1)) e

  none_past : (d : ℕ) → 2 * (n + length ds) ≤ d → next d ≡ None
  none_past d h = none_next d (ends_past n ds d (omega arith))

  inside : (d : ℕ) → Triangle d ⊎ (next d ≡ None)
  inside d = elim (run d) [ inl r ↦ inl (triangle d r.0 r.1 r.2) | inr e ↦ inr (none_next d e) ]

  run_below : (d u v : ℕ) → ends n ds d ≡ Some (u, v) → (u < n) × (v < n)
  run_below d u v e = elim (run d) [
    | inl r ↦ (let b = bounds d r.0 r.1 r.2 in
        let q = some_pair_parts r.0 u r.1 v (sym (ends_at d r.0 r.1 r.2) ∙ e) in
        (omega (arith, b.0), omega (arith, b.1)))
    | inr z ↦ absurd (cc (e, z))
  ]

  side_first : (i : ℕ) → i < n → (e : ℕ) × (next (2 * i) ≡ Some e)
  unfolding D
  side_first i h = elim (onward_is n i h) [
    | inl o ↦ (let t = triangle (2 * i) i (i + 1) (side o.0 refl refl) in (t.e, t.first))
    | inr o ↦ (let t = triangle (2 * i) i 0 (last o.0 refl refl) in (t.e, t.first))
  ]

  up_first : (k : ℕ) → k < length ds → (e : ℕ) × (next (2 * (n + k)) ≡ Some e)
  unfolding D
  up_first k h = let t = triangle (2 * (n + k)) (lo k) (hi k) (up k h refl refl refl) in (t.e, t.first)

  some_triangle : (d e : ℕ) → next d ≡ Some e → Triangle d
  some_triangle d e p = elim (inside d) [ inl t ↦ t | inr q ↦ absurd (cc (p, q)) ]

  triangulated : Triangulated n ds
  unfolding next
  triangulated = record {
    lawful = record {
      follows = λ d a p. let t = some_triangle d a p in
          let q : a ≡ t.e = cc (p, t.first) in (t.f, ap next q ∙ t.second);
      moves = λ d p. let t = some_triangle d d p in t.other (cc (t.first, p));
      round = λ d a b p r. let t = some_triangle d a p in
          let q : a ≡ t.e = cc (p, t.first) in
          let s : b ≡ t.f = cc (r, ap next q ∙ t.second) in
          ap next s ∙ t.third;
      covered = λ e h p q. elim (cases_lt e n) [
        | inl l ↦ absurd (cc ((side_first e l).1, p))
        | inr l ↦ (let x : 2 * e ≡ 2 * (n + (e - n)) = omega arith in absurd (cc ((up_first (e - n) (omega arith)).1, ap next (sym x) ∙ p)))
      ];
      bounded = λ d a p. elim (cases_lt d (2 * (n + length ds))) [ inl h ↦ h | inr h ↦ absurd (cc (p, none_past d h)) ];
    };
    closed = λ d a p. let t = some_triangle d a p in subst (Closed n ds d) (cc (t.first, p)) t.closed;
  }

pub cut_into_triangles : CutIntoTriangles
cut_into_triangles n ds full un = triangulated n ds (admissible n ds un) full

-- an inside dart runs from corner to corner
pub corners_below : (n : ℕ) (ds : List Diagonal) → n ≡ length ds + 3 → Uncrossed n ds → (d u v : ℕ) → ends n ds d ≡ Some (u, v) → (u < n) × (v < n)
corners_below n ds full un = run_below n ds (admissible n ds un) full
