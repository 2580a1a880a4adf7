use Rattle.std.proofs.Common.{◌≡◌, ◌*◌, ℕ, Bool, true, false, refl, arith, rules}
use Rattle.std.proofs.lemmas.Iterator.{cases_from_all, YieldsList-from_range}
use Rattle.triangulations.specs.Stored.{table_of, turns_back}
use Rattle.triangulations.proofs.Stored.{all_in_range}
use Rattle.triangulations.proofs.table.Table.all_turn_back.Goals as goal

pub returns : goal.returns
returns c =
    let t = table_of c.args.self.now.next in
    let n = 2 * c.args.self.now.edges in
    let p : ℕ → Bool = λ d. turns_back t d (t d) in
    all_in_range n p _ (cases_from_all _ _ _ (λ d. true ≡ p d) (λ d. false ≡ p d) c.all.ensures.ran (YieldsList-from_range 0 n n refl (omega arith)) (λ d q k. search rules) (λ d q k. search rules))
