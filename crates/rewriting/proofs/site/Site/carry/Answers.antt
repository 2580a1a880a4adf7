use Rattle.std.proofs.Common.{◌≡◌, ◌+◌, Some, sym, refl, ap, ◌∙◌}
use Rattle.std.specs.List.{slice_get}
use Rattle.walks.specs.Walks.{held}
use Rattle.rewriting.proofs.Passing.{placed, stands, swap_carried, turn_carried}
use Rattle.rewriting.proofs.site.Site.carry.Goals.{In-Label, in-Right, in-Left}
use Rattle.rewriting.proofs.site.Site.carry.Goals as goal

first_stands : (c : In-Label) → Some c.in_ok-first.first ≡ slice_get (held c.args.self.now.walk.now) c.args.self.now.place
first_stands c = stands _ _ _ c.first.ensures c.in_ok-first.was

second_stands : (c : In-Label) → Some c.in_ok-second.second ≡ slice_get (held c.args.self.now.walk.now) (c.args.self.now.place + 1)
second_stands c = stands _ _ _ c.second.ensures c.in_ok-second.was

label_stands : (c : In-Label) → c.match-to.label_at ≡ placed c.args.self.now.place c.in_ok-first.first c.in_ok-second.second c.args.to
label_stands c =
    let at = placed c.args.self.now.place c.in_ok-first.first c.in_ok-second.second in
    elim c.match-to.branch [ in-Right w ↦ w.label_at-is ∙ ap at (sym w.in-Right.is) | in-Left w ↦ w.label_at-is ∙ ap at (sym w.in-Left.is) ]

pub returns-in-Swap : goal.returns-in-Swap
returns-in-Swap c =
    let s = c.args.self.now in
    let k = (goal.at.returns-in-Swap c).In-Label in
    let a = first_stands k in
    let b = second_stands k in (
      refl,
      swap_carried s.walk.now s.place s.reached _ _ a b c.args.to _ (label_stands k) _ _ _ c.in-Label.is c.in-Swap.is _ _
          (c.exchange.ensures.exchanged _ _ (sym a) (sym b)) c.rename.ensures.renamed,
    )

pub returns-then-is_passed : goal.returns-then-is_passed
returns-then-is_passed c =
    let s = c.args.self.now in
    let k = (goal.at.returns-then-is_passed c).In-Label in
    let a = first_stands k in
    let b = second_stands k in (
      refl,
      turn_carried s.walk.now s.place s.reached _ _ a b c.args.to _ (label_stands k) _ _ c.in-Label.is c.in_default-label.is c.if-is_passed.ensures _
          (c.exchange-then-is_passed.ensures.exchanged _ _ (sym a) (sym b)),
    )
