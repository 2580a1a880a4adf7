use Rattle.std.proofs.Common.{T, sym, refl, ◌∙◌, subst}
use Rattle.triangulations.proofs.Stored.{lawful_from_list, list_from_lawful}
use Rattle.triangulations.proofs.board.Board.load.Goals as goal

pub returns-then-not-is_lawful-clause-granted : goal.returns-then-not-is_lawful-clause-granted
returns-then-not-is_lawful-clause-granted c =
    (λ e. absurd (subst T (sym e) tt), λ h. absurd (subst T (sym c.is_lawful.ensures ∙ c.if-not-is_lawful.true) (list_from_lawful c.args.edges c.args.table h.1)))

pub returns-clause-granted : goal.returns-clause-granted
returns-clause-granted c =
    (λ _. (c.if-edges-gt-MOST_EDGES.false, lawful_from_list c.args.edges c.args.table (subst T (sym (sym c.is_lawful.ensures ∙ c.if-not-is_lawful.false)) tt)), λ _. refl)
