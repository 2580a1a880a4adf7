use Rattle.exact.proofs.Quotients.{cancels, quotients}
use Rattle.exact.proofs.Ptolemy.{diagonals, undoes, turns, five_cycle}
use Rattle.numbers.proofs.laws.consequences_stand.Goals as goal

pub returns : goal.returns
returns g c =
    let laws = g.met.K.Kind.lawful.laws in
    record { cancels = cancels laws; quotients = quotients laws; diagonals = diagonals laws; undoes = undoes laws; turns = turns laws; cycle = five_cycle laws }
