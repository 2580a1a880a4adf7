-- Steps on labelled triangulations, and walks of steps.
use Rattle.std.specs.Prelude.{ℕ, ◌+◌, ◌*◌, ◌%◌, ◌<◌, cond, T as Yes, List, [], ◌∷◌, Some, None, Option, ◌==◌, slice_index}
use Rattle.triangulations.specs.Triangulations.{Table, Triangulation, partner, edge_of, after, flippable}

-- a step is a flip of an edge, left or right, or a label step: a turn of an edge, or a swap of two
pub data Step : Type 0 where
  L R T : ℕ → Step
  S : ℕ → ℕ → Step

pub data Direction : Type 0 where
  left right : Direction

abbrev pub opposite : Direction → Direction
opposite left = right
opposite right = left

abbrev pub flip_step : Direction → ℕ → Step
flip_step left e = L e
flip_step right e = R e

-- the table with x, y, z for a triangle, in this order
unfoldable pub triangle : ℕ → ℕ → ℕ → Table → Table
triangle x y z t d = cond (d == x) (Some y) (cond (d == y) (Some z) (cond (d == z) (Some x) (t d)))

-- the table with a triangle of three listed darts, in this order
abbrev pub triangle_in : List ℕ → Table → Table
triangle_in xs = triangle (slice_index xs 0) (slice_index xs 1) (slice_index xs 2)

-- A flip of the edge with the darts d and p, where d, a, b and p, c, g are its triangles: a left flip makes d, b, c and p, g, a,
-- and a right flip d, g, a and p, b, c. The one that it makes with d, and the one with p:
abbrev pub with_d : Direction → (d a b c g : ℕ) → List ℕ
with_d left d a b c g = d ∷ b ∷ c ∷ []
with_d right d a b c g = d ∷ g ∷ a ∷ []

abbrev pub with_p : Direction → (p a b c g : ℕ) → List ℕ
with_p left p a b c g = p ∷ g ∷ a ∷ []
with_p right p a b c g = p ∷ b ∷ c ∷ []

unfoldable pub flipped_by : Direction → (d p a b c g : ℕ) → Table → Table
flipped_by w d p a b c g t = triangle_in (with_d w d a b c g) (triangle_in (with_p w p a b c g) t)

abbrev pub flipped : Direction → ℕ → ℕ → Table → Table
flipped w d p t = flipped_by w d p (after t d) (after t (after t d)) (after t p) (after t (after t p)) t

-- a turn of e exchanges the names 2 e and 2 e + 1
abbrev pub turn : ℕ → ℕ → ℕ
turn e d = cond (edge_of d == e) (partner d) d

-- k, with e and f exchanged
abbrev pub exchanged : ℕ → ℕ → ℕ → ℕ
exchanged e f k = cond (k == e) f (cond (k == f) e k)

-- a swap of e and f exchanges 2 e with 2 f and 2 e + 1 with 2 f + 1
abbrev pub swap : ℕ → ℕ → ℕ → ℕ
swap e f d = 2 * exchanged e f (edge_of d) + d % 2

abbrev pub renamed : (ℕ → ℕ) → Option ℕ → Option ℕ
renamed π None = None
renamed π (Some x) = Some (π x)

-- the table with each name x replaced by π x, where π is its own inverse
unfoldable pub relabelled : (ℕ → ℕ) → Table → Table
relabelled π t d = renamed π (t (π d))

-- what a step makes of a table
abbrev pub stepped : Step → Table → Table
stepped (L e) t = flipped left (2 * e) (2 * e + 1) t
stepped (R e) t = flipped right (2 * e) (2 * e + 1) t
stepped (T e) t = relabelled (turn e) t
stepped (S e f) t = relabelled (swap e f) t

-- the triangulation to which a step leads
abbrev pub apply_step : Step → Triangulation → Triangulation
apply_step s t = record { edges = t.edges; next = stepped s t.next }

-- a flip is legal where its edge is flippable, a label step wherever it names edges, a swap the smaller first
abbrev pub LegalStep : Step → Triangulation → Type 0
LegalStep (L e) t = Yes (flippable t.next e)
LegalStep (R e) t = Yes (flippable t.next e)
LegalStep (T e) t = e < t.edges
LegalStep (S e f) t = (e < f) × (f < t.edges)

-- the triangulation to which a walk leads: its steps are done from left to right
abbrev pub leads : List Step → Triangulation → Triangulation
leads [] t = t
leads (s ∷ w) t = leads w (apply_step s t)

-- a walk is legal when each step is legal where those before it lead
abbrev pub Legal : List Step → Triangulation → Type 0
Legal [] t = Unit {0}
Legal (s ∷ w) t = LegalStep s t × Legal w (apply_step s t)

-- the step that undoes a step
abbrev pub inverse : Step → Step
inverse (L e) = R e
inverse (R e) = L e
inverse (T e) = T e
inverse (S e f) = S e f
