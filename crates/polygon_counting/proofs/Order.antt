-- The cyclic order of three and of four corners.
use Rattle.std.proofs.Common.{◌≡◌, ℕ, ◌<◌, true, ◌⊎◌, arith}
use Rattle.std.proofs.lemmas.Bool.Decides.{nat_tests}
use Rattle.polygon_counting.specs.Polygons.{between}

-- w is met strictly between v and u, going counterclockwise from v
unfoldable pub Between : ℕ → ℕ → ℕ → Type 0
Between v w u = ((v < w) × (w < u)) ⊎ (((w < u) × (u < v)) ⊎ ((u < v) × (v < w)))

-- v, w, x, u are met in this order, going counterclockwise
unfoldable pub Order : ℕ → ℕ → ℕ → ℕ → Type 0
Order v w x u =
    ((v < w) × (w < x) × (x < u)) ⊎ (((w < x) × (x < u) × (u < v)) ⊎ (((x < u) × (u < v) × (v < w)) ⊎ ((u < v) × (v < w) × (w < x))))

pub between_from : (v w u : ℕ) → between v w u ≡ true → (u ≡ v → ⊥) → Between v w u
unfolding Between
between_from v w u t n = grind (arith, nat_tests)

pub between_to : (v w u : ℕ) → Between v w u → between v w u ≡ true
unfolding Between
between_to v w u h = grind (arith, nat_tests)

pub between_turn : (v w u : ℕ) → Between v w u → Between w u v
unfolding Between
between_turn v w u h = grind arith

pub between_apart : (v w u : ℕ) → Between v w u → u ≡ v → ⊥
unfolding Between
between_apart v w u h e = omega arith

pub order : (v w x u : ℕ) → Between v w u → Between v x u → (w ≡ x) ⊎ (Order v w x u ⊎ Order v x w u)
unfolding Between Order
order v w x u a b = grind arith
