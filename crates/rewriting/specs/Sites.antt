-- What a call that rewrites a walk at a place answers.
use Rattle.std.specs.Prelude.{◌≡◌, ℕ, ◌+◌, Option, Result}
use Rattle.std.specs.Option.{option_map}
use Rattle.std.specs.List.{slice_get}
use Rattle.triangulations.specs.Steps.{Step as Move}
use Rattle.triangulations.specs.Meaning.{meant}
use Rattle.triangulations.specs.declared.step.Step.{Step}
use Rattle.rewriting_records.specs.declared.fault.RewritingFault.{RewritingFault}
use Rattle.relations.specs.Judging.{Judged}
use Rattle.walks.specs.Walks.{held, moves}
use Rattle.rewriting.specs.declared.site.Site.{Site}
use Rattle.rewriting.specs.Rewritten.{Answers, done}

-- the step at a place of the walk, if there is one
abbrev pub step_at : Site → ℕ → Option Step
step_at s i = slice_get (held s.walk.now) i

-- what the first two steps there mean, if there are any
abbrev pub first : Site → Option Move
first s = option_map meant (step_at s s.place)

abbrev pub second : Site → Option Move
second s = option_map meant (step_at s (s.place + 1))

-- The change that was judged is made there; where it is refused, the walk stays as it was.
abbrev pub Makes : {U : Type 0} → (before after : Site) → Result U RewritingFault → Judged → Type 0
Makes s s' result judged =
    (s'.walk.ghost_name ≡ s.walk.ghost_name) × Answers (held s.walk.now) result (held s'.walk.now) (done s.place (moves s.walk.now) judged)
