use Rattle.std.proofs.Common.{sym, ◌∙◌}
use Rattle.numbers.proofs.Flipped.{contract, refusal, refused_first, refused_second, refused_sum, refused_quotient, reached}
use Rattle.numbers.proofs.ptolemy.Sides.flipped.Goals as goal

pub returns-in_err-first : goal.returns-in_err-first
returns-in_err-first g c =
    let L = g.met.K.Kind.lawful in
    let s = c.args.self in
    let all = refusal L s c.from_residual.result _ c.from_residual.ensures.1 (λ stored.
    refused_first L s stored _ c.product.ensures (sym c.at.ensures ∙ c.in_err-first.was)) in
    record { flips = all.flips; result = all.result }

pub returns-in_err-second : goal.returns-in_err-second
returns-in_err-second g c =
    let L = g.met.K.Kind.lawful in
    let s = c.args.self in
    let all = refusal L s c.from_residual-in_err-second.result _ c.from_residual-in_err-second.ensures.1 (λ stored.
    refused_second L s stored _ c.product.ensures (sym c.at.ensures ∙ c.in_ok-first.was)
    _ c.product-2.ensures (sym c.at-2.ensures ∙ c.in_err-second.was)) in
    record { flips = all.flips; result = all.result }

pub returns-in_err-sum : goal.returns-in_err-sum
returns-in_err-sum g c =
    let L = g.met.K.Kind.lawful in
    let s = c.args.self in
    let all = refusal L s c.from_residual-in_err-sum.result _ c.from_residual-in_err-sum.ensures.1 (λ stored.
    refused_sum L s stored _ c.product.ensures (sym c.at.ensures ∙ c.in_ok-first.was)
    _ c.product-2.ensures (sym c.at-2.ensures ∙ c.in_ok-second.was)
    _ c.sum.ensures (sym c.at-3.ensures ∙ c.in_err-sum.was)) in
    record { flips = all.flips; result = all.result }

pub returns-in_err-at : goal.returns-in_err-at
returns-in_err-at g c =
    let L = g.met.K.Kind.lawful in
    let s = c.args.self in
    let all = refusal L s c.from_residual-in_err-at.result _ c.from_residual-in_err-at.ensures.1 (λ stored.
    refused_quotient L s stored _ c.product.ensures (sym c.at.ensures ∙ c.in_ok-first.was)
    _ c.product-2.ensures (sym c.at-2.ensures ∙ c.in_ok-second.was)
    _ c.sum.ensures (sym c.at-3.ensures ∙ c.in_ok-sum.was)
    _ c.quotient.ensures (sym c.at-4.ensures ∙ c.in_err-at.was)) in
    record { flips = all.flips; result = all.result }

pub returns : goal.returns
returns g c =
    let L = g.met.K.Kind.lawful in
    let s = c.args.self in
    let all = contract L s (λ stored.
    reached L s stored _ c.product.ensures (sym c.at.ensures ∙ c.in_ok-first.was)
    _ c.product-2.ensures (sym c.at-2.ensures ∙ c.in_ok-second.was)
    _ c.sum.ensures (sym c.at-3.ensures ∙ c.in_ok-sum.was)
    _ c.quotient.ensures (sym c.at-4.ensures ∙ c.in_ok-at.was)) in
    record { flips = all.flips; result = all.result }
