use Rattle.std.proofs.Common.{◌≡◌, false, IsErrAnd, MatchResult, Ok, Err, sym, refl, ap, ◌∙◌, rules}
use Rattle.std.proofs.lemmas.Bool.Decides.{not_from_Decides}
use Rattle.rewriting_records.specs.declared.fault.RewritingFault.TheVariants.{TooLong}
use Rattle.walks.specs.Walks.{held}
use Rattle.rewriting.proofs.Edits.{unfit, put_there}
use Rattle.rewriting.proofs.site.Site.substitute.Goals as goal

pub returns-then-not-begins : goal.returns-then-not-begins
returns-then-not-begins c =
    let s = c.args.self.now in
    (refl, (unfit s.place (held s.walk.now) c.args.old.now c.args.new.now (not_from_Decides false c.if-not-begins.ensures refl) ∙ ap Err (sym c.no_form.ensures), refl))

pub returns : goal.returns
returns c =
    let s = c.args.self.now in
    let told : MatchResult c.replace.result (λ u. c.map_err.result ≡ Ok u) (λ _. IsErrAnd c.map_err.result (λ f. f ≡ TooLong)) = search rules in
    (refl, put_there s.place (held s.walk.now) c.args.old.now c.args.new.now s.reached (c.if-not-begins.ensures.0 refl) _ _ told c.replace.ensures.granted c.replace.ensures.replaced)
