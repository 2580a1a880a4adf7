-- The identities of flips' values.
use Rattle.std.proofs.Common.{[], ◌∷◌}
use Rattle.exact.specs.Field.{Field, Laws}
use Rattle.exact.specs.Flips.{flipped, Pentagon}
use Rattle.exact.specs.Consequences.{Diagonals, Undoes, Turns, FiveCycle}
use Rattle.exact.proofs.Normal.{Expr, ◌⊕◌, ◌⊗◌, ◌⊘◌, ◌≗◌, ◌≔◌⇒◌, prove}
use Rattle.exact.proofs.Rearranged.{plus, times, over}

-- A flip, as an expression.
abbrev flip : Expr → Expr → Expr → Expr → Expr → Expr
flip A C B G E = (A ⊗ C ⊕ B ⊗ G) ⊘ E

module _ {F : Field} (laws : Laws F) where
  pub flipped_same :
      {a a' c c' b b' g g' e e' : F.Exact} →
      F.same a a' → F.same c c' → F.same b b' → F.same g g' → F.same e e' →
      F.same (flipped F a c b g e) (flipped F a' c' b' g' e')
  flipped_same p q r s t = over laws (plus laws (times laws p q) (times laws r s)) t

  -- The sides read from the next corner on, and from the one after that.
  pub turns : Turns F
  turns a b c g e = prove laws (a ∷ b ∷ c ∷ g ∷ e ∷ []) (λ A B C G E. flip A C B G E ≗ flip B G C A E) tt

  pub flipped_half_turn : (a b c g e : F.Exact) → F.same (flipped F a c b g e) (flipped F c a g b e)
  flipped_half_turn a b c g e = prove laws (a ∷ b ∷ c ∷ g ∷ e ∷ []) (λ A B C G E. flip A C B G E ≗ flip C A G B E) tt

  -- A flip as a product of the two diagonals.
  pub flip_product :
      (a b c g e e' : F.Exact) → F.same e' (flipped F a c b g e) → F.same (F.product e e') (F.sum (F.product a c) (F.product b g))
  flip_product a b c g e e' =
      prove laws (a ∷ b ∷ c ∷ g ∷ e ∷ e' ∷ []) (λ A B C G E E'. E' ≔ flip A C B G E ⇒ E ⊗ E' ≗ A ⊗ C ⊕ B ⊗ G) tt

  pub product_flip :
      (a b c g e e' : F.Exact) → F.same (F.product e e') (F.sum (F.product a c) (F.product b g)) → F.same e' (flipped F a c b g e)
  product_flip a b c g e e' =
      prove laws (a ∷ b ∷ c ∷ g ∷ e ∷ e' ∷ []) (λ A B C G E E'. E ⊗ E' ≔ A ⊗ C ⊕ B ⊗ G ⇒ E' ≗ flip A C B G E) tt

  pub diagonals : Diagonals F
  diagonals a b c g e e' = (flip_product a b c g e e', product_flip a b c g e e')

  -- A flip and the flip back.
  pub undoes : Undoes F
  undoes a b c g e e' = prove laws (a ∷ b ∷ c ∷ g ∷ e ∷ e' ∷ []) (λ A B C G E E'. E' ≔ flip A C B G E ⇒ flip B G C A E' ≗ E) tt

  -- The five flips of a pentagon.
  module _ (s1 s2 s3 s4 s5 x y x1 y1 x2 y2 x3 : F.Exact) (flips : Pentagon F s1 s2 s3 s4 s5 x y x1 y1 x2 y2 x3) where
    pub second_flip :
        F.same y1 (F.quotient (F.sum (F.product s1 (F.product s4 x)) (F.product s5 (F.sum (F.product s1 s3) (F.product s2 y)))) (F.product x y))
    second_flip =
        prove laws (s1 ∷ s2 ∷ s3 ∷ s4 ∷ s5 ∷ x ∷ y ∷ x1 ∷ y1 ∷ [])
        (λ S1 S2 S3 S4 S5 X Y X1 Y1.
        X1 ≔ flip S1 S3 S2 Y X ⇒
        Y1 ≔ flip S1 S4 X1 S5 Y ⇒
        Y1 ≗ (S1 ⊗ (S4 ⊗ X) ⊕ S5 ⊗ (S1 ⊗ S3 ⊕ S2 ⊗ Y)) ⊘ (X ⊗ Y))
        tt flips.first flips.second

    pub third_flip : F.same x2 (flipped F x s4 s3 s5 y)
    third_flip =
        prove laws (s1 ∷ s2 ∷ s3 ∷ s4 ∷ s5 ∷ x ∷ y ∷ x1 ∷ y1 ∷ x2 ∷ [])
        (λ S1 S2 S3 S4 S5 X Y X1 Y1 X2.
        X1 ≔ flip S1 S3 S2 Y X ⇒
        Y1 ≔ flip S1 S4 X1 S5 Y ⇒
        X2 ≔ flip S2 S4 S3 Y1 X1 ⇒
        X2 ≗ flip X S4 S3 S5 Y)
        tt flips.first flips.second flips.third

    pub fourth_flip : F.same y2 x
    fourth_flip =
        prove laws (s1 ∷ s2 ∷ s3 ∷ s4 ∷ s5 ∷ x ∷ y ∷ x1 ∷ y1 ∷ x2 ∷ y2 ∷ [])
        (λ S1 S2 S3 S4 S5 X Y X1 Y1 X2 Y2.
        X1 ≔ flip S1 S3 S2 Y X ⇒
        Y1 ≔ flip S1 S4 X1 S5 Y ⇒
        X2 ≔ flip X S4 S3 S5 Y ⇒
        Y2 ≔ flip S1 X2 S2 S5 Y1 ⇒
        Y2 ≗ X)
        tt flips.first flips.second third_flip flips.fourth

    pub fifth_flip : F.same x3 y
    fifth_flip =
        prove laws (s3 ∷ s4 ∷ s5 ∷ x ∷ y ∷ x2 ∷ y2 ∷ x3 ∷ [])
        (λ S3 S4 S5 X Y X2 Y2 X3.
        X2 ≔ flip X S4 S3 S5 Y ⇒
        Y2 ≔ X ⇒
        X3 ≔ flip Y2 S4 S3 S5 X2 ⇒
        X3 ≗ Y)
        tt third_flip fourth_flip flips.fifth

  pub five_cycle : FiveCycle F
  five_cycle s1 s2 s3 s4 s5 x y x1 y1 x2 y2 x3 flips =
      (fifth_flip s1 s2 s3 s4 s5 x y x1 y1 x2 y2 x3 flips, fourth_flip s1 s2 s3 s4 s5 x y x1 y1 x2 y2 x3 flips)
