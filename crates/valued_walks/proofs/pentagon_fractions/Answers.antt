use Rattle.std.proofs.Common.{◌≡◌, List, [], ◌∷◌, sym, refl, ap, ◌∙◌, subst}
use Rattle.triangulations.specs.Steps.{Step, L, flipped_by, triangle}
use Rattle.triangulations.specs.Stored.{stored}
use Rattle.polygons.proofs.Pentagon.{row0, is_row0}
use Rattle.kinds.specs.Fractions.{fractions}
use Rattle.valued_walks.specs.Carrying.{carried, rows_of}
use Rattle.valued_walks.specs.Worked.{whole, fractions_on_pentagon, PentagonFractions}
use Rattle.valued_walks.proofs.pentagon_fractions.Goals as goal

-- the pentagon's table written out
from_row : (w : List Step) → fractions_on_pentagon w ≡ rows_of 7 (carried fractions 0 w (stored 7 row0) (λ k. whole 1))
from_row w = ap (λ t. rows_of 7 (carried fractions 0 w t (λ k. whole 1))) is_row0

in-turn : PentagonFractions (whole 2 ∷ whole 3 ∷ whole 2 ∷ whole 1 ∷ whole 1 ∷ [])
unfolding flipped_by triangle
in-turn = record {
  first = from_row (L 5 ∷ []) ∙ refl;
  second = from_row (L 5 ∷ L 6 ∷ []) ∙ refl;
  third = from_row (L 5 ∷ L 6 ∷ L 5 ∷ []) ∙ refl;
  fourth = from_row (L 5 ∷ L 6 ∷ L 5 ∷ L 6 ∷ []) ∙ refl;
  fifth = from_row (L 5 ∷ L 6 ∷ L 5 ∷ L 6 ∷ L 5 ∷ []) ∙ refl;
}

pub returns : goal.returns
returns c =
    let is : whole 2 ∷ whole 3 ∷ whole 2 ∷ whole 1 ∷ whole 1 ∷ [] ≡ c.whole.result ∷ c.whole-2.result ∷ c.whole-3.result ∷ c.whole-4.result ∷ c.whole-5.result ∷ [] =
    λ i. sym c.whole.ensures i ∷ sym c.whole-2.ensures i ∷ sym c.whole-3.ensures i ∷ sym c.whole-4.ensures i ∷ sym c.whole-5.ensures i ∷ [] in
    subst PentagonFractions is in-turn
