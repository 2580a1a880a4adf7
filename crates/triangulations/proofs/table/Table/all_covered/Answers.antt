use Rattle.std.proofs.Common.{◌≡◌, true, false, refl, arith, rules}
use Rattle.std.proofs.lemmas.Iterator.{cases_from_all, YieldsList-from_range}
use Rattle.triangulations.specs.Stored.{table_of, covers}
use Rattle.triangulations.proofs.Stored.{all_in_range}
use Rattle.triangulations.proofs.table.Table.all_covered.Goals as goal

pub returns : goal.returns
returns c =
    let t = table_of c.args.self.now.next in
    let n = c.args.self.now.edges in
    all_in_range n (covers t) _ (cases_from_all _ _ _ (λ e. true ≡ covers t e) (λ e. false ≡ covers t e) c.all.ensures.ran (YieldsList-from_range 0 n n refl (omega arith)) (λ e q k. search rules) (λ e q k. search rules))
