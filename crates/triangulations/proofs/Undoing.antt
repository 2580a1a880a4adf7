-- Steps that undo one another, and flips done twice.
use Rattle.std.proofs.Common.{◌≡◌, ℕ, ◌*◌, ◌<◌, T as Yes, arith}
use Rattle.triangulations.specs.Triangulations.{Triangulation, Table, Lawful, flippable}
use Rattle.triangulations.specs.Steps.{Step, L, R, T, S, Direction, left, right, flip_step, inverse}
use Rattle.triangulations.specs.Theorems.{Undoes, TwiceIs}
use Rattle.triangulations.proofs.Flips.{flip_parts, inside_tri, L_then_R, R_then_L, L_then_L, R_then_R, L_again, R_again}
use Rattle.triangulations.proofs.Labels.{turn_twice, swap_twice}

-- equal tables are equal triangulations
pub with_table : (n : ℕ) (u v : Table) → u ≡ v → ◌≡◌ {A = Triangulation} (record { edges = n; next = u }) (record { edges = n; next = v })
with_table n u v e = λ i. record { edges = n; next = e i }

pub undone : (s : Step) → Undoes s (inverse s)
undone (L e) t law h = ((h, (L_again t law e h, tt)), with_table t.edges _ _ (L_then_R t law e h))
undone (R e) t law h = ((h, (R_again t law e h, tt)), with_table t.edges _ _ (R_then_L t law e h))
undone (T e) t law h = ((h, (h, tt)), with_table t.edges _ _ (turn_twice e t.next))
undone (S e f) t law h = ((h, (h, tt)), with_table t.edges _ _ (swap_twice e f t.next))

-- an edge that can be flipped is an edge
pub flippable_edge : (t : Triangulation) → Lawful t → (e : ℕ) → Yes (flippable t.next e) → e < t.edges
flippable_edge t law e h =
    let inside = inside_tri t law (2 * e) (flip_parts t law e h).0 in
    let low : 2 * e < 2 * t.edges = law.bounded _ _ inside.one in
    omega arith

pub flipped_twice : (w : Direction) (e : ℕ) → TwiceIs (flip_step w e) (T e)
flipped_twice left e t law h = ((h, (L_again t law e h, tt)), flippable_edge t law e h, with_table t.edges _ _ (L_then_L t law e h))
flipped_twice right e t law h = ((h, (R_again t law e h, tt)), flippable_edge t law e h, with_table t.edges _ _ (R_then_R t law e h))
