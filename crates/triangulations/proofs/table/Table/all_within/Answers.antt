use Rattle.std.proofs.Common.{◌≡◌, ℕ, Bool, length, true, false, refl, arith, rules}
use Rattle.std.proofs.lemmas.Iterator.{cases_from_all, YieldsList-from_range}
use Rattle.triangulations.specs.Stored.{table_of, within}
use Rattle.triangulations.proofs.Stored.{all_in_range}
use Rattle.triangulations.proofs.table.Table.all_within.Goals as goal

pub returns : goal.returns
returns c =
    let x = c.args.self.now in
    let t = table_of x.next in
    let n = length x.next in
    let p : ℕ → Bool = λ d. within x.edges d (t d) in
    let full = x.full in
    all_in_range n p _ (cases_from_all _ _ _ (λ d. true ≡ p d) (λ d. false ≡ p d) c.all.ensures.ran (YieldsList-from_range 0 128 n refl (omega arith)) (λ d q k. search rules) (λ d q k. search rules))
