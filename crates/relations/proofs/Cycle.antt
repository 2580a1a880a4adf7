-- Five flips of a pentagon exchange the two values: the closed part.
use Rattle.std.proofs.Common.{ℕ, Bool, true, false, cond, List, [], ◌∷◌, get_or}
use Rattle.exact.specs.Field.{Field, Laws}
use Rattle.exact.specs.Flips.{flipped}
use Rattle.exact.proofs.Normal.{Expr, Task, ◌⊕◌, ◌⊗◌, ◌⊘◌, ◌≗◌, prove}
use Rattle.relations.proofs.Triples.{σ₉}
use Rattle.relations.proofs.PentagonPlaces.{e_at, e_to, f_at, f_to}
use Rattle.relations.proofs.PentagonTables.{s₁, s₂, s₃, s₄}
use Rattle.relations.proofs.Valued.{flip_w}

-- values of any kind at the nine names: x at e, y at f, m at the third dart of the shared triangle
abbrev pub nine : {Q : Type 0} → Bool → (x y m p q r s : Q) → ℕ → Q
nine o x y m p q r s k = get_or (x ∷ cond o m y ∷ cond o y m ∷ x ∷ p ∷ q ∷ y ∷ r ∷ s ∷ []) k x

-- the values after the five flips
abbrev pub five_w : {Q : Type 0} → (Q → Q → Q → Q → Q → Q) → (o a b : Bool) → (ℕ → Q) → ℕ → Q
five_w new o a b w =
    flip_w new (e_at a) (e_to a) (s₄ o a b) (flip_w new (f_at o b) (f_to o b) (s₃ o a b) (flip_w new (e_at a) (e_to a) (s₂ o a b)
    (flip_w new (f_at o b) (f_to o b) (s₁ o a b) (flip_w new (e_at a) (e_to a) σ₉ w))))

-- the same as expressions
abbrev at_e : (o a b : Bool) (X Y M P Q R S : Expr) → Task
at_e o a b X Y M P Q R S = five_w (λ A C B G E. (A ⊗ C ⊕ B ⊗ G) ⊘ E) o a b (nine o X Y M P Q R S) (e_at a) ≗ Y

abbrev at_f : (o a b : Bool) (X Y M P Q R S : Expr) → Task
at_f o a b X Y M P Q R S = five_w (λ A C B G E. (A ⊗ C ⊕ B ⊗ G) ⊘ E) o a b (nine o X Y M P Q R S) (f_at o b) ≗ X

module _ (F : Field) (laws : Laws F) (x y m p q r s : F.Exact) where
  abbrev ρ : List F.Exact
  ρ = x ∷ y ∷ m ∷ p ∷ q ∷ r ∷ s ∷ []

  pub five_values : (o a b : Bool)
      → F.same (five_w (flipped F) o a b (nine o x y m p q r s) (e_at a)) y × F.same (five_w (flipped F) o a b (nine o x y m p q r s) (f_at o b)) x
  five_values true true true = (prove laws ρ (at_e true true true) tt, prove laws ρ (at_f true true true) tt)
  five_values true true false = (prove laws ρ (at_e true true false) tt, prove laws ρ (at_f true true false) tt)
  five_values true false true = (prove laws ρ (at_e true false true) tt, prove laws ρ (at_f true false true) tt)
  five_values true false false = (prove laws ρ (at_e true false false) tt, prove laws ρ (at_f true false false) tt)
  five_values false true true = (prove laws ρ (at_e false true true) tt, prove laws ρ (at_f false true true) tt)
  five_values false true false = (prove laws ρ (at_e false true false) tt, prove laws ρ (at_f false true false) tt)
  five_values false false true = (prove laws ρ (at_e false false true) tt, prove laws ρ (at_f false false true) tt)
  five_values false false false = (prove laws ρ (at_e false false false) tt, prove laws ρ (at_f false false false) tt)
