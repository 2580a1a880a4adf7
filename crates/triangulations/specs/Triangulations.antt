-- Labelled triangulations. A surface is cut into triangles along E edges, named 0 to E - 1. Edge e has two darts, 2 e and 2 e + 1,
-- its two directions. A dart has a triangle on its left, or it lies outside.
use Rattle.std.specs.Prelude.{◌≡◌, ℕ, ◌+◌, ◌-◌, ◌*◌, ◌/◌, ◌%◌, ◌<◌, Bool, true, false, not, ◌&&◌, ◌||◌, ◌≢◌, Some, None, Option, ◌==◌}

-- which dart follows each dart counterclockwise in its triangle; none follows a dart that lies outside or does not exist
abbrev pub Table : Type 0
Table = ℕ → Option ℕ

-- two are equal when the number of edges and all entries are
pub record Triangulation : Type 0 where
  pub edges : ℕ
  pub next : Table

-- the other dart of the same edge
abbrev pub partner : ℕ → ℕ
partner d = (d + 1) - 2 * (d % 2)

abbrev pub edge_of : ℕ → ℕ
edge_of d = d / 2

abbrev pub is_some : Option ℕ → Bool
is_some None = false
is_some (Some x) = true

-- whether a triangle lies on the left of d
abbrev pub inside : Table → ℕ → Bool
inside t d = is_some (t d)

abbrev pub or_else : ℕ → Option ℕ → ℕ
or_else d None = d
or_else d (Some x) = x

-- the dart that follows d, or d itself where none does
abbrev pub after : Table → ℕ → ℕ
after t d = or_else d (t d)

-- whether x lies in the triangle of d
unfoldable pub together : Table → ℕ → ℕ → Bool
together t d x = x == d || (x == after t d || x == after t (after t d))

-- whether both darts of e are inside, in different triangles
abbrev pub flippable : Table → ℕ → Bool
flippable t e = inside t (2 * e) && (inside t (2 * e + 1) && not (together t (2 * e) (2 * e + 1)))

-- whether d is inside and a dart of f lies in its triangle
abbrev pub meets : Table → ℕ → ℕ → Bool
meets t d f = inside t d && (together t d (2 * f) || together t d (2 * f + 1))

-- whether e and f share a triangle: a dart of each lies in it
abbrev pub shares : Table → ℕ → ℕ → Bool
shares t e f = meets t (2 * e) f || meets t (2 * e + 1) f

-- the four laws of a triangulation, and no follower beyond the edges
pub record Lawful (t : Triangulation) : Type 0 where
  -- the dart that follows an inside dart is inside
  pub follows : (d a : ℕ) → t.next d ≡ Some a → (b : ℕ) × (t.next a ≡ Some b)
  -- no dart follows itself
  pub moves : (d : ℕ) → t.next d ≢ Some d
  -- following three times leads back
  pub round : (d a b : ℕ) → t.next d ≡ Some a → t.next a ≡ Some b → t.next b ≡ Some d
  -- no edge has both darts outside
  pub covered : (e : ℕ) → e < t.edges → t.next (2 * e) ≡ None → t.next (2 * e + 1) ≢ None
  -- only the darts of the edges have a follower
  pub bounded : (d a : ℕ) → t.next d ≡ Some a → d < 2 * t.edges
