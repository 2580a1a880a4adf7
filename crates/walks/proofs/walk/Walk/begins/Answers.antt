use Rattle.std.proofs.Common.{◌≡◌, ℕ, ◌<◌, ◌≤◌, ◌⊎◌, List, [], length, take, drop, Some, None, Option, Bor, sym, refl, ap, ◌∙◌, arith}
use Rattle.std.specs.Option.{unwrap_or, MatchOption}
use Rattle.std.specs.List.{slice_range}
use Rattle.std.proofs.lemmas.List.{drop_all, take_all}
use Rattle.std.proofs.lemmas.Slice.{between_is}
use Rattle.std.proofs.lemmas.Bool.Decides.{Decides-like}
use Rattle.walks.specs.Walks.{held}
use Rattle.walks.proofs.Alike.{steps_decide}
use Rattle.walks.proofs.walk.Walk.begins.Goals as goal

-- `xs.get(at..).unwrap_or(&[])`
rest : {X : Type 0} (P : Bor (List X) → Type 0) (xs : List X) (at : ℕ) (r : Option (Bor (List X))) (d : Bor (List X)) → d.now ≡ []
    → MatchOption r ((length xs < at) ⊎ (length xs < length xs)) (λ x. (at ≤ length xs) × (length xs ≤ length xs) × (x.now ≡ slice_range xs at (length xs)) × P x)
    → (unwrap_or r d).now ≡ drop at xs
rest P xs at None d e h = e ∙ sym (drop_all at xs (omega arith))
rest P xs at (Some x) d e h = h.2 ∙ between_is xs at (length xs) ∙ ap (drop at) (take_all (length xs) xs (omega arith))

pub returns : goal.returns
returns c =
    let e = rest (λ _. _) c.steps.result.now c.args.at c.get.result _ refl c.get.ensures.lookup.0 in
    let from : c.unwrap_or.result.now ≡ drop c.args.at (held c.args.self.now) = ap (λ x. x.now) c.unwrap_or.ensures ∙ e ∙ ap (drop c.args.at) c.steps.ensures in
    let front = ap (take (length c.args.old.now)) from in
    Decides-like _ (λ p. sym (p ∙ front)) (λ p. sym (front ∙ p)) (steps_decide _ _ _ c.starts_with.ensures.value)
