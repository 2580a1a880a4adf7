use Rattle.std.proofs.Common.{◌≡◌, None, rules}
use Rattle.triangulations.proofs.Made.{made}
use Rattle.surfaces.proofs.Asked.{asked_all}
use Rattle.surfaces.proofs.loading.ask_table.Goals as goal

pub returns : goal.returns
returns g c =
    let t = g.S.Surface.triangulation c.args.surface.now in
    let items = c.from_fn.ensures.items in
    asked_all t (g.met.S.Surface.sound c.args.surface.now) c.from_fn.result items.long
    (λ d h. made _ _ (λ d y. y ≡ t.next d) (λ d q y called. search rules) c.from_fn.result 128 items d None h)
