-- Exact values with sum, product and quotient, compared up to `same`. There is no zero and no subtraction.
-- Positive fractions are such a field, and so are the integers with the larger of two for their sum and `+` for their product.
pub record Field : Type 1 where
  pub Exact : Type 0
  pub same : Exact → Exact → Type 0
  pub sum : Exact → Exact → Exact
  pub product : Exact → Exact → Exact
  pub quotient : Exact → Exact → Exact
  pub unit : Exact

-- What a field keeps: sameness is an equivalence that the three operations respect; sum and product are associative and
-- commutative; product distributes over sum and has a unit; a quotient times its divisor is the dividend.
pub record Laws (F : Field) : Type 0 where
  pub same_refl : (x : F.Exact) → F.same x x
  pub same_sym : (x y : F.Exact) → F.same x y → F.same y x
  pub same_trans : (x y z : F.Exact) → F.same x y → F.same y z → F.same x z
  pub sum_same : (x x' y y' : F.Exact) → F.same x x' → F.same y y' → F.same (F.sum x y) (F.sum x' y')
  pub product_same : (x x' y y' : F.Exact) → F.same x x' → F.same y y' → F.same (F.product x y) (F.product x' y')
  pub quotient_same : (x x' y y' : F.Exact) → F.same x x' → F.same y y' → F.same (F.quotient x y) (F.quotient x' y')
  pub sum_assoc : (x y z : F.Exact) → F.same (F.sum (F.sum x y) z) (F.sum x (F.sum y z))
  pub sum_comm : (x y : F.Exact) → F.same (F.sum x y) (F.sum y x)
  pub product_assoc : (x y z : F.Exact) → F.same (F.product (F.product x y) z) (F.product x (F.product y z))
  pub product_comm : (x y : F.Exact) → F.same (F.product x y) (F.product y x)
  pub distrib : (x y z : F.Exact) → F.same (F.product x (F.sum y z)) (F.sum (F.product x y) (F.product x z))
  pub product_unit : (x : F.Exact) → F.same (F.product x F.unit) x
  pub quotient_product : (x y : F.Exact) → F.same (F.product (F.quotient x y) y) x
