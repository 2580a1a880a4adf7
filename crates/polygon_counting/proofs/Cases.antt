-- The cases of the definitions of a polygon's darts.
use Rattle.std.proofs.Common.{◌≡◌, ℕ, ◌+◌, ◌*◌, ◌%◌, ◌<◌, ◌≤◌, ◌⊎◌, List, length, Some, None, Option, sym, ap, ◌∙◌, inl, inr, arith}
use Rattle.std.proofs.lemmas.Bool.Decides.{nat_tests}
use Rattle.std.proofs.Math.Nat.{mod-eq_of_lt, mod_self}
use Rattle.std.specs.List.{position}
use Rattle.std.specs.Option.{option_and_then}
use Rattle.triangulations.specs.Triangulations.{edge_of}
use Rattle.polygon_counting.specs.declared.diagonal.Diagonal.{Diagonal}
use Rattle.polygon_counting.specs.Polygons.{onward, joins, diagonal_dart, dart_to, ends}

pub onward_is : (n u : ℕ) → u < n → ((u + 1 < n) × (onward n u ≡ u + 1)) ⊎ ((u + 1 ≡ n) × (onward n u ≡ 0))
onward_is n u h = grind (arith, nat_tests)

pub onward_rem : (n u : ℕ) → u < n → (u + 1) % n ≡ onward n u
onward_rem n u h = elim (onward_is n u h) [
  | inl o ↦ mod-eq_of_lt o.0 ∙ sym o.1
  | inr o ↦ ap (λ k. k % n) o.0 ∙ mod_self n ∙ sym o.1
]

module _ (n : ℕ) (ds : List Diagonal) where
  -- the dart of a diagonal that joins u and v, where one does
  abbrev pub by_diagonal : ℕ → ℕ → Option ℕ
  by_diagonal u v = option_and_then (λ k. Some (diagonal_dart n u v k)) (position (joins u v) ds)

  pub dart_side : (u v : ℕ) → v ≡ onward n u → dart_to n ds u v ≡ Some (2 * u)
  unfolding dart_to
  dart_side u v e = grind (arith, nat_tests)

  pub dart_other : (u v : ℕ) → (v ≡ onward n u → ⊥) → dart_to n ds u v ≡ by_diagonal u v
  unfolding dart_to
  dart_other u v e = grind (arith, nat_tests)

  pub ends_outside : (d : ℕ) → edge_of d < n → (d % 2 ≡ 0 → ⊥) → ends n ds d ≡ None
  unfolding ends
  ends_outside d h e = grind (arith, nat_tests)

  pub ends_past : (d : ℕ) → n + length ds ≤ edge_of d → ends n ds d ≡ None
  unfolding ends
  ends_past d h = grind (arith, nat_tests)
