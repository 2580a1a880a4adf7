use Rattle.std.proofs.Common.{sym, ⊎_elim}
use Rattle.triangulations.proofs.Moved.{shares_none, shares_past}
use Rattle.triangulations.proofs.board.Board.shares.Goals as goal

pub returns-then-e-ge-MOST_EDGES : goal.returns-then-e-ge-MOST_EDGES
returns-then-e-ge-MOST_EDGES c =
    let x = c.args.self.now in
    let e = c.args.e in
    let f = c.args.f in
    ⊎_elim (λ h. sym (shares_none x e f h)) (λ h. sym (shares_past x e f h.1)) c.then-e-ge-MOST_EDGES.either
