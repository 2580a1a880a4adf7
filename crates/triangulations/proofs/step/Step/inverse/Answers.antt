use Rattle.std.proofs.Common.{◌≡◌, sym, subst, rules}
use Rattle.triangulations.specs.Steps.{Step as Move}
use Rattle.triangulations.specs.Steps.{inverse}
use Rattle.triangulations.specs.Meaning.{meant}
use Rattle.triangulations.specs.Theorems.{Undoes}
use Rattle.triangulations.proofs.Undoing.{undone}
use Rattle.triangulations.proofs.step.Step.inverse.Goals as goal

-- a step that is the inverse of another undoes it
undoing : (s r : Move) → r ≡ inverse s → Undoes s r
undoing s r e = subst (Undoes s) (sym e) (undone s)

pub returns-in-Flip-clause-undoes : goal.returns-in-Flip-clause-undoes
returns-in-Flip-clause-undoes c = undoing (meant c.args.self) _ (search rules)

pub returns-in-Label-clause-undoes : goal.returns-in-Label-clause-undoes
returns-in-Label-clause-undoes c = undoing (meant c.args.self) _ (search rules)
