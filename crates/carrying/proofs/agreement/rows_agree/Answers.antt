use Rattle.carrying.proofs.Agreed.{settled, rows_agree}
use Rattle.carrying.proofs.agreement.rows_agree.Goals as goal

pub returns : goal.returns
returns g c = let lawful = g.met.K.Kind.lawful in record { settled = settled lawful; rewritten = rows_agree lawful }
