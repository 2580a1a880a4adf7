use Rattle.triangulations.specs.Meaning.{direction}
use Rattle.triangulations.proofs.Undoing.{flipped_twice}
use Rattle.triangulations.proofs.step.Flip.twice.Goals as goal

pub returns : goal.returns
returns c = flipped_twice (direction c.args.self.side) c.args.self.edge
