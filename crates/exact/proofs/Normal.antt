-- A decision procedure for equations between sums, products and quotients.
--
-- `prove laws (x ∷ y ∷ z ∷ []) (λ X Y Z. (X ⊗ Z) ⊘ (Y ⊗ Z) ≗ X ⊘ Y) tt : F.same (quotient (product x z) (product y z)) (quotient x y)`:
-- the values, then the equation with a letter for each of them, then `tt`. `⊕` is the sum, `⊗` the product, `⊘` the quotient, `one` the
-- unit; `⊗` and `⊘` bind alike, to the left, so A ⊗ B ⊘ C is (A ⊗ B) ⊘ C.
-- Given equations stand before it: `prove laws (x ∷ y ∷ z ∷ []) (λ X Y Z. X ⊗ Y ≔ Z ⇒ Y ⊗ X ≗ Z) tt : F.same (product x y) z → ..`.
-- A given equation is solved for the leftmost factor of its left side, and the solution is put for that letter in all that follows: so
-- that factor is a letter, and letters are given in the order in which they depend on one another. Else the given is passed over.
-- It proves what holds of every value of every field, and `tt` is refused for anything else: "`Differ p q` (expected)" has the two
-- sides multiplied out, a list of powers for each monomial. With `?` for `tt` the goal is `Unit` where the equation holds.
--
-- How: each side becomes a quotient of two sorted lists of monomials, and the cross products are compared. A quotient is reduced by
-- what its monomials share, and by its denominator where that divides its numerator, or the other way round: so what stays a
-- polynomial over a monomial, as all that comes of flips does, stays short. How that is found needs no proof: what is found is checked.
use Rattle.std.proofs.Common.{◌≡◌, ℕ, zero, suc, ◌+◌, ◌-◌, min, Bool, true, false, T, eqb, leb, List, [], ◌∷◌, sym, refl, ap, subst, ap₂, suc-add, zero-add, eqb→eq}
use Prim.Native.Nat.{Ordering}
use Prim.Native.Nat.{compare}
use Rattle.exact.specs.Field.{Field, Laws}
use Rattle.exact.proofs.Rearranged.{back, chain, plus, times, divide, multiply, times_right, times_left, unit_product, distrib_left, sum_swap, product_cross, cancel, over_sum, over_product, over_meets, over_inverse, quotient_inverse, over_same, over_moves, over_strips}

infixl 50 ◌⊕◌
infixl 60 ◌⊗◌
infixl 60 ◌⊘◌
infix 20 ◌≗◌
infixr 10 ◌≔◌⇒◌
-- An expression in numbered variables.
pub data Expr : Type 0 where
  var : ℕ → Expr
  one : Expr
  ◌⊕◌ : Expr → Expr → Expr
  ◌⊗◌ : Expr → Expr → Expr
  ◌⊘◌ : Expr → Expr → Expr

-- What is to be proved: an equation, under equations that are given.
pub data Task : Type 0 where
  ◌≗◌ : Expr → Expr → Task
  ◌≔◌⇒◌ : Expr → Expr → Task → Task

module _ (F : Field) where
  -- The value of a variable; past the end of the list, the unit.
  abbrev pub value : List F.Exact → ℕ → F.Exact
  value [] i = F.unit
  value (x ∷ ρ) zero = x
  value (x ∷ ρ) (suc i) = value ρ i

  abbrev pub eval : List F.Exact → Expr → F.Exact
  eval ρ (var i) = value ρ i
  eval ρ one = F.unit
  eval ρ (e ⊕ f) = F.sum (eval ρ e) (eval ρ f)
  eval ρ (e ⊗ f) = F.product (eval ρ e) (eval ρ f)
  eval ρ (e ⊘ f) = F.quotient (eval ρ e) (eval ρ f)

  abbrev pub Meaning : List F.Exact → Task → Type 0
  Meaning ρ (e ≗ f) = F.same (eval ρ e) (eval ρ f)
  Meaning ρ (e ≔ d ⇒ t) = F.same (eval ρ e) (eval ρ d) → Meaning ρ t

-- A task in as many variables as the list has values.
module _ {A : Type 0} where
  abbrev pub Over : List A → Type 0
  Over [] = Task
  Over (x ∷ ρ) = Expr → Over ρ

  abbrev pub numbered : (ρ : List A) → ℕ → Over ρ → Task
  numbered [] i q = q
  numbered (x ∷ ρ) i q = numbered ρ (suc i) (q (var i))

-- A monomial: the power of each variable, with no zero at its end.
-- A polynomial: its monomials, at least one, in falling order, each as often as it stands.
pub data Poly : Type 0 where
  last : List ℕ → Poly
  more : List ℕ → Poly → Poly

abbrev pub mono_times : List ℕ → List ℕ → List ℕ
mono_times [] n = n
mono_times (a ∷ m) [] = a ∷ m
mono_times (a ∷ m) (b ∷ n) = (a + b) ∷ mono_times m n

abbrev pub mono_var : ℕ → List ℕ
mono_var zero = 1 ∷ []
mono_var (suc i) = 0 ∷ mono_var i

-- whether the first comes before the second, or is the second
abbrev pub before : List ℕ → List ℕ → Bool
before [] [] = true
before [] (b ∷ n) = false
before (a ∷ m) [] = true
before (a ∷ m) (b ∷ n) = elim (compare a b) [ Ordering.lt ↦ false | Ordering.eq ↦ before m n | Ordering.gt ↦ true ]

abbrev pub insert : List ℕ → Poly → Poly
insert m (last n) = elim (before m n) [ true ↦ more m (last n) | false ↦ more n (last m) ]
insert m (more n p) = elim (before m n) [ true ↦ more m (more n p) | false ↦ more n (insert m p) ]

-- `rest` joins p to what it is given: m and p are joined to q
abbrev pub merge : List ℕ → Poly → (Poly → Poly) → Poly → Poly
merge m p rest (last n) = elim (before m n) [ true ↦ more m (rest (last n)) | false ↦ more n (more m p) ]
merge m p rest (more n q) = elim (before m n) [ true ↦ more m (rest (more n q)) | false ↦ more n (merge m p rest q) ]

abbrev pub poly_plus : Poly → Poly → Poly
poly_plus (last m) q = insert m q
poly_plus (more m p) q = merge m p (poly_plus p) q

abbrev pub shift : List ℕ → Poly → Poly
shift m (last n) = last (mono_times m n)
shift m (more n p) = more (mono_times m n) (shift m p)

abbrev pub poly_times : Poly → Poly → Poly
poly_times (last m) q = shift m q
poly_times (more m p) q = poly_plus (shift m q) (poly_times p q)

abbrev pub mono_equal : List ℕ → List ℕ → Bool
mono_equal [] [] = true
mono_equal [] (b ∷ n) = false
mono_equal (a ∷ m) [] = false
mono_equal (a ∷ m) (b ∷ n) = elim (eqb a b) [ true ↦ mono_equal m n | false ↦ false ]

abbrev pub poly_equal : Poly → Poly → Bool
poly_equal (last m) (last n) = mono_equal m n
poly_equal (last m) (more n q) = false
poly_equal (more m p) (last n) = false
poly_equal (more m p) (more n q) = elim (mono_equal m n) [ true ↦ poly_equal p q | false ↦ false ]

-- The numerator and the denominator.
pub record Ratio : Type 0 where
  pub top : Poly
  pub under : Poly

abbrev pub cross_equal : Ratio → Ratio → Bool
cross_equal r s = poly_equal (poly_times r.top s.under) (poly_times s.top r.under)

-- A list of powers, which does not end in zero if the rest does not.
abbrev pub trimmed : ℕ → List ℕ → List ℕ
trimmed zero [] = []
trimmed zero (b ∷ n) = 0 ∷ b ∷ n
trimmed (suc a) n = suc a ∷ n

abbrev pub mono_min : List ℕ → List ℕ → List ℕ
mono_min [] n = []
mono_min (a ∷ m) [] = []
mono_min (a ∷ m) (b ∷ n) = trimmed (min a b) (mono_min m n)

abbrev pub mono_minus : List ℕ → List ℕ → List ℕ
mono_minus [] n = []
mono_minus (a ∷ m) [] = a ∷ m
mono_minus (a ∷ m) (b ∷ n) = trimmed (a - b) (mono_minus m n)

abbrev pub mono_divides : List ℕ → List ℕ → Bool
mono_divides [] n = true
mono_divides (a ∷ m) [] = false
mono_divides (a ∷ m) (b ∷ n) = elim (leb a b) [ true ↦ mono_divides m n | false ↦ false ]

-- What all the monomials share.
abbrev pub content : Poly → List ℕ
content (last m) = m
content (more m p) = mono_min m (content p)

abbrev pub without : List ℕ → Poly → Poly
without c (last m) = last (mono_minus m c)
without c (more m p) = more (mono_minus m c) (without c p)

abbrev pub monomials : Poly → List (List ℕ)
monomials (last m) = m ∷ []
monomials (more m p) = m ∷ monomials p

abbrev pub leading : Poly → List ℕ
leading (last m) = m
leading (more m p) = m

abbrev pub trailing : Poly → List (List ℕ)
trailing (last m) = []
trailing (more m p) = monomials p

abbrev pub from_monomials : List ℕ → List (List ℕ) → Poly
from_monomials m [] = last m
from_monomials m (n ∷ ns) = more m (from_monomials n ns)

pub data Found : Type 0 where
  fails : Found
  found : List (List ℕ) → Found

abbrev pub with_first : List ℕ → Found → Found
with_first m fails = fails
with_first m (found ns) = found (m ∷ ns)

-- The first list without the monomials of the second, both in falling order.
abbrev pub taken_out : List (List ℕ) → List (List ℕ) → Found
taken_out [] [] = found []
taken_out [] (n ∷ ns) = fails
taken_out (m ∷ ms) [] = found (m ∷ ms)
taken_out (m ∷ ms) (n ∷ ns) =
    elim (mono_equal m n) [
      | true ↦ taken_out ms ns
      | false ↦ elim (before m n) [ true ↦ with_first m (taken_out ms (n ∷ ns)) | false ↦ fails ]
    ]

abbrev pub all_times : List ℕ → List (List ℕ) → List (List ℕ)
all_times m [] = []
all_times m (n ∷ ns) = mono_times m n ∷ all_times m ns

-- The quotient of the second list by the polynomial that begins with u, in at most as many steps as the first list is long.
abbrev pub long_division : List (List ℕ) → List (List ℕ) → List ℕ → List (List ℕ) → Found
long_division [] [] u us = found []
long_division [] (m ∷ ms) u us = fails
long_division (k ∷ ks) [] u us = found []
long_division (k ∷ ks) (m ∷ ms) u us =
    elim (mono_divides u m) [
      | true ↦
          elim (taken_out ms (all_times (mono_minus m u) us)) [
            | fails ↦ fails
            | found rest ↦ with_first (mono_minus m u) (long_division ks rest u us)
          ]
      | false ↦ fails
    ]

abbrev pub divided_by : Poly → Poly → Found
divided_by p q = long_division (monomials p) (monomials p) (leading q) (trailing q)

abbrev pub stripped : Ratio → Ratio
stripped r =
    let g = mono_min (content r.top) (content r.under) in
    let t = without g r.top in
    let u = without g r.under in
    elim (mono_equal g []) [
      | true ↦ r
      | false ↦
          elim (poly_equal r.top (shift g t)) [
            | true ↦ elim (poly_equal r.under (shift g u)) [ true ↦ record { top = t; under = u } | false ↦ r ]
            | false ↦ r
          ]
    ]

-- A guess at a shorter form: no more than that.
pub data Guess : Type 0 where
  no_guess : Guess
  guessed : Ratio → Guess

abbrev pub guess_under : Ratio → Guess
guess_under r =
    let a = content r.top in
    let b = content r.under in
    elim (divided_by (without b r.under) (without a r.top)) [
      | fails ↦ no_guess
      | found vs ↦ elim vs [ [] ↦ no_guess | v ∷ ws ↦ guessed (record { top = last a; under = shift b (from_monomials v ws) }) ]
    ]

abbrev pub guess : Ratio → Guess
guess r =
    let a = content r.top in
    let b = content r.under in
    elim (divided_by (without a r.top) (without b r.under)) [
      | fails ↦ guess_under r
      | found vs ↦ elim vs [ [] ↦ no_guess | v ∷ ws ↦ guessed (record { top = shift a (from_monomials v ws); under = last b }) ]
    ]

abbrev pub is_monomial : Poly → Bool
is_monomial (last m) = true
is_monomial (more m p) = false

abbrev pub checked : Ratio → Guess → Ratio
checked r no_guess = r
checked r (guessed s) = elim (cross_equal r s) [ true ↦ s | false ↦ r ]

abbrev pub divided : Ratio → Ratio
divided r =
    elim (is_monomial r.under) [
      | true ↦ r
      | false ↦ elim (is_monomial r.top) [ true ↦ r | false ↦ checked r (guess r) ]
    ]

abbrev pub reduced : Ratio → Ratio
reduced r = divided (stripped r)

abbrev pub inverse : Ratio → Ratio
inverse r = record { top = r.under; under = r.top }

-- Over one denominator, the numerators are summed.
abbrev pub ratio_plus : Ratio → Ratio → Ratio
ratio_plus r s =
    elim (poly_equal r.under s.under) [
      | true ↦ record { top = poly_plus r.top s.top; under = r.under }
      | false ↦ record { top = poly_plus (poly_times r.top s.under) (poly_times s.top r.under); under = poly_times r.under s.under }
    ]

-- A numerator goes against an equal denominator.
abbrev pub ratio_times : Ratio → Ratio → Ratio
ratio_times r s =
    elim (poly_equal r.top s.under) [
      | true ↦ record { top = s.top; under = r.under }
      | false ↦
          elim (poly_equal s.top r.under) [
            | true ↦ record { top = r.top; under = s.under }
            | false ↦ record { top = poly_times r.top s.top; under = poly_times r.under s.under }
          ]
    ]

-- What is known of variables.
pub data Facts : Type 0 where
  none_yet : Facts
  fact : ℕ → Ratio → Facts → Facts

abbrev pub ratio_var : Facts → ℕ → Ratio
ratio_var none_yet i = record { top = last (mono_var i); under = last [] }
ratio_var (fact j r σ) i = elim (eqb i j) [ true ↦ r | false ↦ ratio_var σ i ]

abbrev pub ratio : Facts → Expr → Ratio
ratio σ (var i) = ratio_var σ i
ratio σ one = record { top = last []; under = last [] }
ratio σ (e ⊕ f) = reduced (ratio_plus (ratio σ e) (ratio σ f))
ratio σ (e ⊗ f) = reduced (ratio_times (ratio σ e) (ratio σ f))
ratio σ (e ⊘ f) = reduced (ratio_times (ratio σ e) (inverse (ratio σ f)))

abbrev pub ratio_equal : Ratio → Ratio → Bool
ratio_equal r s =
    elim (poly_equal r.under s.under) [ true ↦ poly_equal r.top s.top | false ↦ cross_equal r s ]

-- Two polynomials that differ: it has no value, and is there to be read in a message.
pub data Differ : Poly → Poly → Type 0 where

abbrev pub Verdict : Bool → Ratio → Ratio → Type 0
Verdict true r s = Unit {0}
Verdict false r s = Differ (poly_times r.top s.under) (poly_times s.top r.under)

abbrev pub Agree : Ratio → Ratio → Type 0
Agree r s = Verdict (ratio_equal r s) r s

abbrev pub learn : Expr → Expr → Facts → Facts
learn (var i) d σ = fact i (ratio σ d) σ
learn one d σ = σ
learn (e ⊕ f) d σ = σ
learn (e ⊗ f) d σ = learn e (d ⊘ f) σ
learn (e ⊘ f) d σ = learn e (d ⊗ f) σ

abbrev pub Settled : Facts → Task → Type 0
Settled σ (e ≗ f) = Agree (ratio σ e) (ratio σ f)
Settled σ (e ≔ d ⇒ t) = Settled (learn e d σ) t

mono_equal_is : (m n : List ℕ) → T (mono_equal m n) → m ≡ n
mono_equal_is [] [] h = refl
mono_equal_is [] (b ∷ n) h = elim h [ ]
mono_equal_is (a ∷ m) [] h = elim h [ ]
mono_equal_is (a ∷ m) (b ∷ n) h = go (eqb a b) refl (mono_equal_is m n) h
  where
    go :
        (t : Bool) → eqb a b ≡ t → (T (mono_equal m n) → m ≡ n) →
        T (elim t [ true ↦ mono_equal m n | false ↦ false ]) → (a ∷ m) ≡ (b ∷ n)
    go true e tails k = ap₂ ◌∷◌ (eqb→eq a b (subst T (sym e) tt)) (tails k)
    go false e tails k = elim k [ ]

poly_equal_is : (p q : Poly) → T (poly_equal p q) → p ≡ q
poly_equal_is (last m) (last n) h = ap last (mono_equal_is m n h)
poly_equal_is (last m) (more n q) h = elim h [ ]
poly_equal_is (more m p) (last n) h = elim h [ ]
poly_equal_is (more m p) (more n q) h = go (mono_equal m n) refl (poly_equal_is p q) h
  where
    go :
        (t : Bool) → mono_equal m n ≡ t → (T (poly_equal p q) → p ≡ q) →
        T (elim t [ true ↦ poly_equal p q | false ↦ false ]) → more m p ≡ more n q
    go true e rests k = ap₂ more (mono_equal_is m n (subst T (sym e) tt)) (rests k)
    go false e rests k = elim k [ ]

module _ {F : Field} (laws : Laws F) where
  power : F.Exact → ℕ → F.Exact
  power x zero = F.unit
  power x (suc k) = F.product x (power x k)

  mono : List F.Exact → List ℕ → F.Exact
  mono [] m = F.unit
  mono (x ∷ ρ) [] = F.unit
  mono (x ∷ ρ) (a ∷ m) = F.product (power x a) (mono ρ m)

  poly : List F.Exact → Poly → F.Exact
  poly ρ (last m) = mono ρ m
  poly ρ (more m p) = F.sum (mono ρ m) (poly ρ p)

  power_plus : (x : F.Exact) (a b : ℕ) → F.same (power x (a + b)) (F.product (power x a) (power x b))
  unfolding power
  power_plus x zero b = rw zero-add (back laws (unit_product laws (power x b)))
  power_plus x (suc a) b =
      rw suc-add (chain laws (times_right laws x (power_plus x a b)) (back laws (laws.product_assoc x (power x a) (power x b))))

  mono_unit : (ρ : List F.Exact) → F.same (mono ρ []) F.unit
  unfolding mono
  mono_unit [] = laws.same_refl F.unit
  mono_unit (x ∷ ρ) = laws.same_refl F.unit

  mono_times_is : (ρ : List F.Exact) (m n : List ℕ) → F.same (mono ρ (mono_times m n)) (F.product (mono ρ m) (mono ρ n))
  unfolding mono
  mono_times_is [] m n = back laws (laws.product_unit F.unit)
  mono_times_is (x ∷ ρ) [] n = back laws (unit_product laws (mono (x ∷ ρ) n))
  mono_times_is (x ∷ ρ) (a ∷ m) [] = back laws (laws.product_unit (mono (x ∷ ρ) (a ∷ m)))
  mono_times_is (x ∷ ρ) (a ∷ m) (b ∷ n) =
      chain laws (times laws (power_plus x a b) (mono_times_is ρ m n)) (product_cross laws (power x a) (power x b) (mono ρ m) (mono ρ n))

  mono_var_is : (ρ : List F.Exact) (i : ℕ) → F.same (mono ρ (mono_var i)) (value F ρ i)
  unfolding mono power
  mono_var_is [] i = laws.same_refl F.unit
  mono_var_is (x ∷ ρ) zero =
      chain laws (times laws (laws.product_unit x) (mono_unit ρ)) (laws.product_unit x)
  mono_var_is (x ∷ ρ) (suc i) = chain laws (unit_product laws (mono ρ (mono_var i))) (mono_var_is ρ i)

  either_way :
      (ρ : List F.Exact) (b : Bool) (p q : Poly) (r : F.Exact) →
      F.same (poly ρ p) r → F.same (poly ρ q) r → F.same (poly ρ (elim b [ true ↦ p | false ↦ q ])) r
  either_way ρ true p q r h k = h
  either_way ρ false p q r h k = k

  insert_is : (ρ : List F.Exact) (m : List ℕ) (p : Poly) → F.same (poly ρ (insert m p)) (F.sum (mono ρ m) (poly ρ p))
  unfolding poly
  insert_is ρ m (last n) =
      either_way ρ (before m n) (more m (last n)) (more n (last m)) (F.sum (mono ρ m) (mono ρ n))
      (laws.same_refl (F.sum (mono ρ m) (mono ρ n)))
      (laws.sum_comm (mono ρ n) (mono ρ m))
  insert_is ρ m (more n p) =
      either_way ρ (before m n) (more m (more n p)) (more n (insert m p)) (F.sum (mono ρ m) (F.sum (mono ρ n) (poly ρ p)))
      (laws.same_refl (F.sum (mono ρ m) (F.sum (mono ρ n) (poly ρ p))))
      (chain laws (plus laws (laws.same_refl (mono ρ n)) (insert_is ρ m p)) (sum_swap laws (mono ρ n) (mono ρ m) (poly ρ p)))

  merge_is :
      (ρ : List F.Exact) (m : List ℕ) (p : Poly) (rest : Poly → Poly) →
      ((q : Poly) → F.same (poly ρ (rest q)) (F.sum (poly ρ p) (poly ρ q))) →
      (q : Poly) → F.same (poly ρ (merge m p rest q)) (F.sum (F.sum (mono ρ m) (poly ρ p)) (poly ρ q))
  unfolding poly
  merge_is ρ m p rest h (last n) =
      either_way ρ (before m n) (more m (rest (last n))) (more n (more m p)) (F.sum (F.sum (mono ρ m) (poly ρ p)) (mono ρ n))
      (chain laws (plus laws (laws.same_refl (mono ρ m)) (h (last n))) (back laws (laws.sum_assoc (mono ρ m) (poly ρ p) (mono ρ n))))
      (laws.sum_comm (mono ρ n) (F.sum (mono ρ m) (poly ρ p)))
  merge_is ρ m p rest h (more n q) =
      either_way ρ (before m n) (more m (rest (more n q))) (more n (merge m p rest q))
      (F.sum (F.sum (mono ρ m) (poly ρ p)) (F.sum (mono ρ n) (poly ρ q)))
      (chain laws (plus laws (laws.same_refl (mono ρ m)) (h (more n q)))
      (back laws (laws.sum_assoc (mono ρ m) (poly ρ p) (F.sum (mono ρ n) (poly ρ q)))))
      (chain laws (plus laws (laws.same_refl (mono ρ n)) (merge_is ρ m p rest h q))
      (sum_swap laws (mono ρ n) (F.sum (mono ρ m) (poly ρ p)) (poly ρ q)))

  poly_plus_is : (ρ : List F.Exact) (p q : Poly) → F.same (poly ρ (poly_plus p q)) (F.sum (poly ρ p) (poly ρ q))
  unfolding poly
  poly_plus_is ρ (last m) q = insert_is ρ m q
  poly_plus_is ρ (more m p) q = merge_is ρ m p (poly_plus p) (poly_plus_is ρ p) q

  shift_is : (ρ : List F.Exact) (m : List ℕ) (p : Poly) → F.same (poly ρ (shift m p)) (F.product (mono ρ m) (poly ρ p))
  unfolding poly
  shift_is ρ m (last n) = mono_times_is ρ m n
  shift_is ρ m (more n p) =
      chain laws (plus laws (mono_times_is ρ m n) (shift_is ρ m p)) (back laws (laws.distrib (mono ρ m) (mono ρ n) (poly ρ p)))

  poly_times_is : (ρ : List F.Exact) (p q : Poly) → F.same (poly ρ (poly_times p q)) (F.product (poly ρ p) (poly ρ q))
  unfolding poly
  poly_times_is ρ (last m) q = shift_is ρ m q
  poly_times_is ρ (more m p) q =
      chain laws (poly_plus_is ρ (shift m q) (poly_times p q))
      (chain laws (plus laws (shift_is ρ m q) (poly_times_is ρ p q)) (back laws (distrib_left laws (mono ρ m) (poly ρ p) (poly ρ q))))

  poly_equal_same : (ρ : List F.Exact) (p q : Poly) → T (poly_equal p q) → F.same (poly ρ p) (poly ρ q)
  poly_equal_same ρ p q h =
      subst (λ (r : Poly). F.same (poly ρ p) (poly ρ r)) (poly_equal_is p q h) (laws.same_refl (poly ρ p))

  -- A value times its denominator is its numerator.
  abbrev Is : List F.Exact → F.Exact → Ratio → Type 0
  Is ρ x r = F.same (F.product x (poly ρ r.under)) (poly ρ r.top)

  either_ratio :
      (ρ : List F.Exact) (x : F.Exact) (b : Bool) (r s : Ratio) → (T b → Is ρ x r) → Is ρ x s →
      Is ρ x (elim b [ true ↦ r | false ↦ s ])
  either_ratio ρ x true r s h k = h tt
  either_ratio ρ x false r s h k = k

  cross_equal_same :
      (ρ : List F.Exact) (r s : Ratio) → T (cross_equal r s) →
      F.same (F.product (poly ρ r.top) (poly ρ s.under)) (F.product (poly ρ s.top) (poly ρ r.under))
  cross_equal_same ρ r s h =
      chain laws (back laws (poly_times_is ρ r.top s.under))
      (chain laws (poly_equal_same ρ (poly_times r.top s.under) (poly_times s.top r.under) h)
      (poly_times_is ρ s.top r.under))

  checked_is : (ρ : List F.Exact) (x : F.Exact) (r : Ratio) (g : Guess) → Is ρ x r → Is ρ x (checked r g)
  checked_is ρ x r no_guess p = p
  checked_is ρ x r (guessed s) p = either_ratio ρ x (cross_equal r s) s r (λ h. over_moves laws p (cross_equal_same ρ r s h)) p

  divided_is : (ρ : List F.Exact) (x : F.Exact) (r : Ratio) → Is ρ x r → Is ρ x (divided r)
  divided_is ρ x r p =
      either_ratio ρ x (is_monomial r.under) r (elim (is_monomial r.top) [ true ↦ r | false ↦ checked r (guess r) ]) (λ _. p)
      (either_ratio ρ x (is_monomial r.top) r (checked r (guess r)) (λ _. p) (checked_is ρ x r (guess r) p))

  stripped_is : (ρ : List F.Exact) (x : F.Exact) (r : Ratio) → Is ρ x r → Is ρ x (stripped r)
  stripped_is ρ x r p =
      let g = mono_min (content r.top) (content r.under) in
      let t = without g r.top in
      let u = without g r.under in
      let inner : Ratio = elim (poly_equal r.under (shift g u)) [ true ↦ record { top = t; under = u } | false ↦ r ] in
      either_ratio ρ x (mono_equal g []) r (elim (poly_equal r.top (shift g t)) [ true ↦ inner | false ↦ r ]) (λ _. p)
      (either_ratio ρ x (poly_equal r.top (shift g t)) inner r
      (λ h.
      either_ratio ρ x (poly_equal r.under (shift g u)) (record { top = t; under = u }) r
      (λ k.
      over_strips laws p
      (chain laws (poly_equal_same ρ r.top (shift g t) h) (shift_is ρ g t))
      (chain laws (poly_equal_same ρ r.under (shift g u) k) (shift_is ρ g u)))
      p)
      p)

  reduced_is : (ρ : List F.Exact) (x : F.Exact) (r : Ratio) → Is ρ x r → Is ρ x (reduced r)
  reduced_is ρ x r p = divided_is ρ x (stripped r) (stripped_is ρ x r p)

  ratio_plus_is : (ρ : List F.Exact) (x y : F.Exact) (r s : Ratio) → Is ρ x r → Is ρ y s → Is ρ (F.sum x y) (ratio_plus r s)
  ratio_plus_is ρ x y r s p q =
      either_ratio ρ (F.sum x y) (poly_equal r.under s.under)
      (record { top = poly_plus r.top s.top; under = r.under })
      (record { top = poly_plus (poly_times r.top s.under) (poly_times s.top r.under); under = poly_times r.under s.under })
      (λ h.
      chain laws (distrib_left laws x y (poly ρ r.under))
      (chain laws (plus laws p (chain laws (times_right laws y (poly_equal_same ρ r.under s.under h)) q))
      (back laws (poly_plus_is ρ r.top s.top))))
      (chain laws (times_right laws (F.sum x y) (poly_times_is ρ r.under s.under))
      (chain laws (over_sum laws p q)
      (back laws
      (chain laws (poly_plus_is ρ (poly_times r.top s.under) (poly_times s.top r.under))
      (plus laws (poly_times_is ρ r.top s.under) (poly_times_is ρ s.top r.under))))))

  ratio_times_is : (ρ : List F.Exact) (x y : F.Exact) (r s : Ratio) → Is ρ x r → Is ρ y s → Is ρ (F.product x y) (ratio_times r s)
  ratio_times_is ρ x y r s p q =
      let whole : Ratio = record { top = poly_times r.top s.top; under = poly_times r.under s.under } in
      let right : Ratio = record { top = r.top; under = s.under } in
      either_ratio ρ (F.product x y) (poly_equal r.top s.under) (record { top = s.top; under = r.under })
      (elim (poly_equal s.top r.under) [ true ↦ right | false ↦ whole ])
      (λ h.
      chain laws (times_left laws (poly ρ r.under) (laws.product_comm x y))
      (over_meets laws p q (poly_equal_same ρ r.top s.under h)))
      (either_ratio ρ (F.product x y) (poly_equal s.top r.under) right whole
      (λ h. over_meets laws q p (poly_equal_same ρ s.top r.under h))
      (chain laws (times_right laws (F.product x y) (poly_times_is ρ r.under s.under))
      (chain laws (over_product laws p q) (back laws (poly_times_is ρ r.top s.top)))))

  abbrev Known : List F.Exact → Facts → Type 0
  Known ρ none_yet = Unit {0}
  Known ρ (fact i r σ) = Is ρ (value F ρ i) r × Known ρ σ

  ratio_var_is : (ρ : List F.Exact) (σ : Facts) → Known ρ σ → (i : ℕ) → Is ρ (value F ρ i) (ratio_var σ i)
  unfolding poly
  ratio_var_is ρ none_yet k i =
      chain laws (times laws (back laws (mono_var_is ρ i)) (mono_unit ρ)) (laws.product_unit (mono ρ (mono_var i)))
  ratio_var_is ρ (fact j r σ) k i =
      either_ratio ρ (value F ρ i) (eqb i j) r (ratio_var σ i)
      (λ h. subst (λ (n : ℕ). Is ρ (value F ρ n) r) (sym (eqb→eq i j h)) k.0)
      (ratio_var_is ρ σ k.1 i)

  ratio_is : (ρ : List F.Exact) (σ : Facts) → Known ρ σ → (e : Expr) → Is ρ (eval F ρ e) (ratio σ e)
  unfolding poly
  ratio_is ρ σ k (var i) = ratio_var_is ρ σ k i
  ratio_is ρ σ k one = unit_product laws (mono ρ [])
  ratio_is ρ σ k (e ⊕ f) =
      reduced_is ρ (F.sum (eval F ρ e) (eval F ρ f)) (ratio_plus (ratio σ e) (ratio σ f))
      (ratio_plus_is ρ (eval F ρ e) (eval F ρ f) (ratio σ e) (ratio σ f) (ratio_is ρ σ k e) (ratio_is ρ σ k f))
  ratio_is ρ σ k (e ⊗ f) =
      reduced_is ρ (F.product (eval F ρ e) (eval F ρ f)) (ratio_times (ratio σ e) (ratio σ f))
      (ratio_times_is ρ (eval F ρ e) (eval F ρ f) (ratio σ e) (ratio σ f) (ratio_is ρ σ k e) (ratio_is ρ σ k f))
  ratio_is ρ σ k (e ⊘ f) =
      let r = ratio_times (ratio σ e) (inverse (ratio σ f)) in
      reduced_is ρ (F.quotient (eval F ρ e) (eval F ρ f)) r
      (chain laws (times_left laws (poly ρ r.under) (quotient_inverse laws (eval F ρ e) (eval F ρ f)))
      (ratio_times_is ρ (eval F ρ e) (F.quotient F.unit (eval F ρ f)) (ratio σ e) (inverse (ratio σ f)) (ratio_is ρ σ k e)
      (over_inverse laws (ratio_is ρ σ k f))))

  agree_is : (ρ : List F.Exact) (x y : F.Exact) (r s : Ratio) → Is ρ x r → Is ρ y s → Agree r s → F.same x y
  agree_is ρ x y r s p q h = by_test (ratio_equal r s) refl h
    where
      by_under : (b : Bool) → poly_equal r.under s.under ≡ b → T (elim b [ true ↦ poly_equal r.top s.top | false ↦ cross_equal r s ]) → F.same x y
      by_under true e k =
          let d = poly_equal_same ρ r.under s.under (subst T (sym e) tt) in
          cancel laws (poly ρ r.under)
          (chain laws p (chain laws (poly_equal_same ρ r.top s.top k) (back laws (chain laws (times_right laws y d) q))))
      by_under false e k = over_same laws p q (cross_equal_same ρ r s k)

      by_test : (b : Bool) → ratio_equal r s ≡ b → Verdict b r s → F.same x y
      by_test true e k = by_under (poly_equal r.under s.under) refl (subst T (sym e) tt)
      by_test false e k = elim k [ ]

  learn_is : (ρ : List F.Exact) (e d : Expr) (σ : Facts) → Known ρ σ → F.same (eval F ρ e) (eval F ρ d) → Known ρ (learn e d σ)
  learn_is ρ (var i) d σ k h = (chain laws (times_left laws (poly ρ (ratio σ d).under) h) (ratio_is ρ σ k d), k)
  learn_is ρ one d σ k h = k
  learn_is ρ (e ⊕ f) d σ k h = k
  learn_is ρ (e ⊗ f) d σ k h = learn_is ρ e (d ⊘ f) σ k (divide laws h)
  learn_is ρ (e ⊘ f) d σ k h = learn_is ρ e (d ⊗ f) σ k (multiply laws h)

  settle : (ρ : List F.Exact) (σ : Facts) → Known ρ σ → (t : Task) → Settled σ t → Meaning F ρ t
  settle ρ σ k (e ≗ f) h = agree_is ρ (eval F ρ e) (eval F ρ f) (ratio σ e) (ratio σ f) (ratio_is ρ σ k e) (ratio_is ρ σ k f) h
  settle ρ σ k (e ≔ d ⇒ t) h = λ p. settle ρ (learn e d σ) (learn_is ρ e d σ k p) t h

  pub prove : (ρ : List F.Exact) (q : Over ρ) → Settled none_yet (numbered ρ 0 q) → Meaning F ρ (numbered ρ 0 q)
  prove ρ q h = settle ρ none_yet tt (numbered ρ 0 q) h
