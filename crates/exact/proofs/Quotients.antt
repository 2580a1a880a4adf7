-- How quotients are compared, summed, multiplied and divided.
use Rattle.std.proofs.Common.{[], ◌∷◌}
use Rattle.exact.specs.Field.{Field, Laws}
use Rattle.exact.specs.Consequences.{Cancels, Quotients}
use Rattle.exact.proofs.Normal.{◌⊕◌, ◌⊗◌, ◌⊘◌, ◌≗◌, ◌≔◌⇒◌, prove}

module _ {F : Field} (laws : Laws F) where
  pub cancels : Cancels F
  cancels x y z = prove laws (x ∷ y ∷ z ∷ []) (λ X Y Z. X ⊗ Z ≔ Y ⊗ Z ⇒ X ≗ Y) tt

  pub quotients : Quotients F
  quotients = record {
    products = λ x y u v. prove laws (x ∷ y ∷ u ∷ v ∷ []) (λ X Y U V. (X ⊘ Y) ⊗ (U ⊘ V) ≗ (X ⊗ U) ⊘ (Y ⊗ V)) tt;
    quotients = λ x y u v. prove laws (x ∷ y ∷ u ∷ v ∷ []) (λ X Y U V. (X ⊘ Y) ⊘ (U ⊘ V) ≗ (X ⊗ V) ⊘ (Y ⊗ U)) tt;
    twice = λ x y z. prove laws (x ∷ y ∷ z ∷ []) (λ X Y Z. (X ⊘ Y) ⊘ Z ≗ X ⊘ (Y ⊗ Z)) tt;
    sums = λ x y u v. prove laws (x ∷ y ∷ u ∷ v ∷ []) (λ X Y U V. X ⊘ Y ⊕ U ⊘ V ≗ (X ⊗ V ⊕ U ⊗ Y) ⊘ (Y ⊗ V)) tt;
    reduce = λ x y z. prove laws (x ∷ y ∷ z ∷ []) (λ X Y Z. (X ⊗ Z) ⊘ (Y ⊗ Z) ≗ X ⊘ Y) tt;
    undo = λ x y. prove laws (x ∷ y ∷ []) (λ X Y. (X ⊗ Y) ⊘ Y ≗ X) tt;
    cross = λ x y u v. prove laws (x ∷ y ∷ u ∷ v ∷ []) (λ X Y U V. X ⊘ Y ≔ U ⊘ V ⇒ X ⊗ V ≗ U ⊗ Y) tt;
    crossed = λ x y u v. prove laws (x ∷ y ∷ u ∷ v ∷ []) (λ X Y U V. X ⊗ V ≔ U ⊗ Y ⇒ X ⊘ Y ≗ U ⊘ V) tt;
  }
