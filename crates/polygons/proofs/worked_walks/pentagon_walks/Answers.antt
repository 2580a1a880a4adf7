use Rattle.polygons.proofs.Pentagon.{pentagon_walks, five_flips}
use Rattle.polygons.proofs.worked_walks.pentagon_walks.Goals as goal

pub returns : goal.returns
returns c = record { table = five_flips; walks = pentagon_walks }
