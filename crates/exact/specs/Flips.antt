-- A flip's value. A flip takes a diagonal out of a quadrilateral and puts the other one in.
use Rattle.exact.specs.Field.{Field}

module _ (F : Field) where
  -- The diagonal that takes the place of e, in a quadrilateral whose opposite sides are a and c, and b and g:
  -- (a·c + b·g) ÷ e.
  abbrev pub flipped : F.Exact → F.Exact → F.Exact → F.Exact → F.Exact → F.Exact
  flipped a c b g e = F.quotient (F.sum (F.product a c) (F.product b g)) e

-- A pentagon with the corners 0 to 4: s1 is the side 0-1, s2 is 1-2, s3 is 2-3, s4 is 3-4, s5 is 4-0. Its diagonals are x, 0-2, and y, 0-3.
-- Five flips, of the one and the other in turn: x1 is 1-3, y1 is 1-4, x2 is 2-4, y2 is 0-2, x3 is 0-3.
pub record Pentagon (F : Field) (s1 s2 s3 s4 s5 x y x1 y1 x2 y2 x3 : F.Exact) : Type 0 where
  pub first : F.same x1 (flipped F s1 s3 s2 y x)
  pub second : F.same y1 (flipped F s1 s4 x1 s5 y)
  pub third : F.same x2 (flipped F s2 s4 s3 y1 x1)
  pub fourth : F.same y2 (flipped F s1 x2 s2 s5 y1)
  pub fifth : F.same x3 (flipped F y2 s4 s3 s5 x2)
