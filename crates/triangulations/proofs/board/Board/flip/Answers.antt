use Rattle.std.proofs.Common.{refl, sym, ◌∙◌, arith}
use Rattle.triangulations.specs.Meaning.{direction}
use Rattle.triangulations.proofs.Moved.{by_other, one_within, other_within, flip_kept}
use Rattle.triangulations.proofs.board.Board.flip.Goals as goal

pub write_triangle-requires : goal.write_triangle-requires
write_triangle-requires c =
    one_within c.args.self.now (direction c.args.flip.side) c.args.flip.edge c.in_ok-around.around (sym c.around.ensures ∙ c.in_ok-around.ensures.ok_part) _ _ (by_other _ _ _ _ _ _ _ _ c.begun_by.ensures c.other.ensures) refl

pub write_triangle-requires-2 : goal.write_triangle-requires-2
write_triangle-requires-2 c =
    let w = other_within c.args.self.now (direction c.args.flip.side) c.args.flip.edge c.in_ok-around.around (sym c.around.ensures ∙ c.in_ok-around.ensures.ok_part) _ _ (by_other _ _ _ _ _ _ _ _ c.begun_by.ensures c.other.ensures) c.begun_by-2.ensures in
    let k = c.write_triangle.auto.next in
    (omega arith, omega arith, omega arith)

pub invariant_of-self-2 : goal.invariant_of-self-2
invariant_of-self-2 c =
    let k = flip_kept c.args.self.now (direction c.args.flip.side) c.args.flip.edge c.in_ok-around.around (sym c.around.ensures ∙ c.in_ok-around.ensures.ok_part) _ _ (by_other _ _ _ _ _ _ _ _ c.begun_by.ensures c.other.ensures) c.begun_by-2.ensures _ _ c.write_triangle.ensures c.write_triangle-2.ensures c.write_triangle.auto.next c.write_triangle-2.auto.next in
    ((k.few, (k.full, tt)), (k.lawful, tt))

pub returns-clause-moved : goal.returns-clause-moved
returns-clause-moved c =
    (flip_kept c.args.self.now (direction c.args.flip.side) c.args.flip.edge c.in_ok-around.around (sym c.around.ensures ∙ c.in_ok-around.ensures.ok_part) _ _ (by_other _ _ _ _ _ _ _ _ c.begun_by.ensures c.other.ensures) c.begun_by-2.ensures _ _ c.write_triangle.ensures c.write_triangle-2.ensures c.write_triangle.auto.next c.write_triangle-2.auto.next).moved
