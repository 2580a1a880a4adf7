use Rattle.std.proofs.Common.{◌≡◌, ℕ, length, take, drop, ap, ◌∙◌, rules, arith}
use Rattle.numbers.specs.Layouts.{high_first}
use Rattle.kinds.specs.Fractions.{fractions, fraction_layout}
use Rattle.kinds.specs.declared.fraction.Fraction.{Fraction}
use Rattle.kinds.proofs.Bytes.{four}
use Rattle.numbers.proofs.Answered.{read_tested}
use Rattle.kinds.proofs.fraction.FractionKind.read.Goals as goal

parts : (a b c d : ℕ) → a ≡ c → b ≡ d → ◌≡◌ {A = Fraction} (record { numerator = a; denominator = b }) (record { numerator = c; denominator = d })
parts a b c d e f = cc

pub returns : goal.returns
returns c =
    let bytes = c.args.bytes.now in
    let front : c.in_ok-numerator.numerator.now ≡ take 4 bytes = search rules in
    let back : c.in_ok-ok.field-0 ≡ drop 4 bytes = search rules in
    let short : length c.in_ok-numerator.numerator.now ≡ 4 = search rules in
    let rest : length c.in_ok-numerator.denominator.now ≡ 4 = search rules in
    let short₂ : length c.in_ok-ok.field-0 ≡ 4 = search rules in
    let long : length bytes ≡ 8 = omega (arith, c.in_ok-numerator.ensures.cases) in
    let same = parts _ _ _ _
    (c.from_be_bytes.ensures ∙ four _ short ∙ ap (high_first 0) front)
    (c.from_be_bytes-2.ensures ∙ four _ short₂ ∙ ap (high_first 0) back) in
    rw c.then_some.ensures (read_tested fractions fraction_layout bytes _ same c.is_stored.result c.is_stored.ensures long)
