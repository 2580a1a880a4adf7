-- Pentagons: two edges e and f that can both be flipped and share just one triangle, so that their darts lie in three.
use Rattle.std.specs.Prelude.{◌≡◌, ℕ, ◌+◌, ◌*◌, ◌%◌, min, max, Bool, true, false, cond, not, ◌&&◌, T as Yes, List, [], ◌∷◌, Some, None, Option, ◌==◌}
use Rattle.triangulations.specs.Triangulations.{Table, partner, edge_of, after, together, flippable}
use Rattle.triangulations.specs.Steps.{Step, L, T, S}

-- x is the dart of e and y that of f in the triangle that they share, and their partners lie in two other triangles
pub record Pentagon (t : Table) (e f x y : ℕ) : Type 0 where
  pub e_flips : Yes (flippable t e)
  pub f_flips : Yes (flippable t f)
  pub x_of : edge_of x ≡ e
  pub y_of : edge_of y ≡ f
  pub shared : Yes (together t x y)
  pub only : Yes (not (together t (partner x) (partner y)))

-- the five flips in turn
abbrev pub five : ℕ → ℕ → List Step
five e f = L e ∷ L f ∷ L e ∷ L f ∷ L e ∷ []

-- one of the two darts is even, one odd
abbrev pub mixed : ℕ → ℕ → Bool
mixed x y = not (x % 2 == y % 2)

-- whether y is followed by x
abbrev pub followed : Table → ℕ → ℕ → Bool
followed t y x = after t y == x

-- the turns after the swap, by whether the dart of f is followed by that of e, and whether the two are mixed
abbrev pub turns : ℕ → ℕ → Bool → Bool → List Step
turns e f true true = T e ∷ T f ∷ []
turns e f true false = []
turns e f false true = T f ∷ []
turns e f false false = T e ∷ []

-- what the five flips amount to: the swap of e and f, and then turns
abbrev pub swap_and_turns : (e f x y : ℕ) → Table → List Step
swap_and_turns e f x y t = S (min e f) (max e f) ∷ turns e f (followed t y x) (mixed x y)

-- whether x and y lie in one triangle, and their partners do not
unfoldable pub corner : Table → ℕ → ℕ → Bool
corner t x y = together t x y && not (together t (partner x) (partner y))

abbrev pub first_of : {A : Type 0} → Bool → A → Option A → Option A
first_of true x r = Some x
first_of false x r = r

-- the first of four pairs of darts that is such a corner
abbrev pub corner_of : Table → (d p c q : ℕ) → Option (ℕ × ℕ)
corner_of t d p c q =
    first_of (corner t d c) (d, c)
    (first_of (corner t d q) (d, q)
    (first_of (corner t p c) (p, c)
    (first_of (corner t p q) (p, q) None)))

-- the darts x and y of a pentagon of e and f, where there is one
unfoldable pub pentagon_at : Table → ℕ → ℕ → Option (ℕ × ℕ)
pentagon_at t e f = cond (flippable t e && flippable t f) (corner_of t (2 * e) (2 * e + 1) (2 * f) (2 * f + 1)) None
