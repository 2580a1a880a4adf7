-- The first of the four pairs of darts that make a corner.
use Rattle.std.proofs.Common.{◌≡◌, ℕ, Bool, true, false, cond, [], ◌∷◌, Some, Option, refl}
use Rattle.std.specs.List.{find}
use Rattle.triangulations.specs.Triangulations.{Table}
use Rattle.relations.specs.Pentagons.{first_of, corner, corner_of}

first_is : {A : Type 0} (b : Bool) (x : A) (r s : Option A) → r ≡ s → cond b (Some x) r ≡ first_of b x s
first_is true x r s e = refl
first_is false x r s e = e

pub corner_found : (t : Table) (d p c q : ℕ) → find (λ z. corner t z.0 z.1) ((d, c) ∷ (d, q) ∷ (p, c) ∷ (p, q) ∷ []) ≡ corner_of t d p c q
corner_found t d p c q =
    first_is (corner t d c) (d, c) _ _
    (first_is (corner t d q) (d, q) _ _
    (first_is (corner t p c) (p, c) _ _
    (first_is (corner t p q) (p, q) _ _ refl)))
