use Rattle.std.proofs.Common.{refl}
use Rattle.triangulations.specs.Triangulations.{together}
use Rattle.triangulations.specs.Steps.{flipped_by, triangle}
use Rattle.surfaces.specs.WorkedWalks.{LeftFlipOfTwo}
use Rattle.surfaces.proofs.worked_walks.left_flip_of_two.Goals as goal

flipped : LeftFlipOfTwo
unfolding together flipped_by triangle
flipped = record {
  one_before = record { first = refl; second = refl; third = refl };
  other_before = record { first = refl; second = refl; third = refl };
  legal = (tt, tt);
  one_after = record { first = refl; second = refl; third = refl };
  other_after = record { first = refl; second = refl; third = refl };
}

pub returns : goal.returns
unfolding together flipped_by triangle
returns c = record { table = refl; triangles = flipped }
