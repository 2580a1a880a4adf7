-- What follows from the laws of a field.
use Rattle.std.specs.Prelude.{◌↔◌}
use Rattle.exact.specs.Field.{Field}
use Rattle.exact.specs.Flips.{flipped, Pentagon}

module _ (F : Field) where
  -- A common factor of two values that are the same goes.
  abbrev pub Cancels : Type 0
  Cancels = (x y z : F.Exact) → F.same (F.product x z) (F.product y z) → F.same x y

  -- Quotients, and quotients of quotients: how they are multiplied, divided, added and reduced.
  pub record Quotients : Type 0 where
    -- (x ÷ y) · (u ÷ v) is x·u ÷ y·v
    pub products : (x y u v : F.Exact) → F.same (F.product (F.quotient x y) (F.quotient u v)) (F.quotient (F.product x u) (F.product y v))
    -- (x ÷ y) ÷ (u ÷ v) is x·v ÷ y·u
    pub quotients : (x y u v : F.Exact) → F.same (F.quotient (F.quotient x y) (F.quotient u v)) (F.quotient (F.product x v) (F.product y u))
    -- (x ÷ y) ÷ z is x ÷ y·z
    pub twice : (x y z : F.Exact) → F.same (F.quotient (F.quotient x y) z) (F.quotient x (F.product y z))
    -- x ÷ y + u ÷ v is (x·v + u·y) ÷ y·v
    pub sums : (x y u v : F.Exact) → F.same (F.sum (F.quotient x y) (F.quotient u v)) (F.quotient (F.sum (F.product x v) (F.product u y)) (F.product y v))
    -- x·z ÷ y·z is x ÷ y
    pub reduce : (x y z : F.Exact) → F.same (F.quotient (F.product x z) (F.product y z)) (F.quotient x y)
    -- x·y ÷ y is x
    pub undo : (x y : F.Exact) → F.same (F.quotient (F.product x y) y) x
    -- quotients are the same when their cross products are, and only then
    pub cross : (x y u v : F.Exact) → F.same (F.quotient x y) (F.quotient u v) → F.same (F.product x v) (F.product u y)
    pub crossed : (x y u v : F.Exact) → F.same (F.product x v) (F.product u y) → F.same (F.quotient x y) (F.quotient u v)

  -- The value of a flip is the one that times the edge's own is the sum of the products of opposite sides: Ptolemy's relation of the two
  -- diagonals e and e'.
  abbrev pub Diagonals : Type 0
  Diagonals = (a b c g e e' : F.Exact) → F.same e' (flipped F a c b g e) ↔ F.same (F.product e e') (F.sum (F.product a c) (F.product b g))

  -- A flip and the flip back give the old value. The sides of the quadrilateral are met in the order b, g, c, a on the way back.
  abbrev pub Undoes : Type 0
  Undoes = (a b c g e e' : F.Exact) → F.same e' (flipped F a c b g e) → F.same (flipped F b g c a e') e

  -- A flip's value does not depend on the corner from which the sides are read.
  abbrev pub Turns : Type 0
  Turns = (a b c g e : F.Exact) → F.same (flipped F a c b g e) (flipped F b g c a e)

  -- After five flips the two diagonals of a pentagon stand again, each in the other's place.
  abbrev pub FiveCycle : Type 0
  FiveCycle =
      (s1 s2 s3 s4 s5 x y x1 y1 x2 y2 x3 : F.Exact) → Pentagon F s1 s2 s3 s4 s5 x y x1 y1 x2 y2 x3 → F.same x3 y × F.same y2 x
