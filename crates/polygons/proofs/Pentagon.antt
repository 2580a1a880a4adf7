-- The rows that the walks on a pentagon pass: the followers of the darts 0 to 13.
use Rattle.std.proofs.Common.{◌≡◌, T as Yes, List, [], ◌∷◌, Some, None, sym, refl, ap, ◌∙◌, subst}
use Rattle.triangulations.specs.Triangulations.{Triangulation, Lawful, together}
use Rattle.triangulations.specs.Steps.{Step, L, T, S, Legal, leads, triangle, flipped_by, relabelled}
use Rattle.triangulations.specs.Stored.{stored, lawful_list}
use Rattle.triangulations.proofs.Stored.{lawful_from_list}
use Rattle.polygon_counting.specs.declared.diagonal.Diagonal.{Diagonal}
use Rattle.polygon_counting.specs.Polygons.{first_below, dart_to, apex, ends, polygon_next}
use Rattle.polygon_counting.proofs.Laws.{cut_into_triangles}
use Rattle.polygons.specs.Judging.{first_fault}
use Rattle.polygons.specs.WorkedWalks.{pentagon, turned_pentagon, Meet, PentagonWalks}
use Rattle.polygons.specs.Admission.{uncrossed}
use Rattle.polygons.proofs.Rows.{Row, same_triangulation, passes, last_of, arrives}

abbrev pub row0 : Row
row0 = Some 2 ∷ None ∷ Some 11 ∷ None ∷ Some 13 ∷ None ∷ Some 8 ∷ None ∷ Some 12 ∷ None ∷ Some 4 ∷ Some 0 ∷ Some 6 ∷ Some 10 ∷ []

abbrev row1 : Row
row1 = Some 2 ∷ None ∷ Some 10 ∷ None ∷ Some 13 ∷ None ∷ Some 8 ∷ None ∷ Some 12 ∷ None ∷ Some 0 ∷ Some 4 ∷ Some 6 ∷ Some 11 ∷ []

abbrev row2 : Row
row2 = Some 10 ∷ None ∷ Some 4 ∷ None ∷ Some 11 ∷ None ∷ Some 8 ∷ None ∷ Some 12 ∷ None ∷ Some 13 ∷ Some 2 ∷ Some 6 ∷ Some 0 ∷ []

abbrev row3 : Row
row3 = Some 12 ∷ None ∷ Some 4 ∷ None ∷ Some 11 ∷ None ∷ Some 13 ∷ None ∷ Some 0 ∷ None ∷ Some 6 ∷ Some 2 ∷ Some 8 ∷ Some 10 ∷ []

abbrev row4 : Row
row4 = Some 12 ∷ None ∷ Some 10 ∷ None ∷ Some 6 ∷ None ∷ Some 11 ∷ None ∷ Some 0 ∷ None ∷ Some 13 ∷ Some 4 ∷ Some 8 ∷ Some 2 ∷ []

abbrev row5 : Row
row5 = Some 2 ∷ None ∷ Some 12 ∷ None ∷ Some 6 ∷ None ∷ Some 11 ∷ None ∷ Some 13 ∷ None ∷ Some 8 ∷ Some 4 ∷ Some 0 ∷ Some 10 ∷ []

abbrev pub row6 : Row
row6 = Some 2 ∷ None ∷ Some 12 ∷ None ∷ Some 10 ∷ None ∷ Some 8 ∷ None ∷ Some 11 ∷ None ∷ Some 13 ∷ Some 6 ∷ Some 0 ∷ Some 4 ∷ []

abbrev row7 : Row
row7 = Some 2 ∷ None ∷ Some 13 ∷ None ∷ Some 11 ∷ None ∷ Some 8 ∷ None ∷ Some 10 ∷ None ∷ Some 6 ∷ Some 12 ∷ Some 4 ∷ Some 0 ∷ []

abbrev row8 : Row
row8 = Some 2 ∷ None ∷ Some 13 ∷ None ∷ Some 10 ∷ None ∷ Some 8 ∷ None ∷ Some 11 ∷ None ∷ Some 12 ∷ Some 6 ∷ Some 4 ∷ Some 0 ∷ []

abbrev row9 : Row
row9 = Some 11 ∷ None ∷ Some 4 ∷ None ∷ Some 10 ∷ None ∷ Some 8 ∷ None ∷ Some 12 ∷ None ∷ Some 2 ∷ Some 13 ∷ Some 6 ∷ Some 0 ∷ []

abbrev row10 : Row
row10 = Some 12 ∷ None ∷ Some 4 ∷ None ∷ Some 10 ∷ None ∷ Some 13 ∷ None ∷ Some 0 ∷ None ∷ Some 2 ∷ Some 6 ∷ Some 8 ∷ Some 11 ∷ []

abbrev row11 : Row
row11 = Some 12 ∷ None ∷ Some 11 ∷ None ∷ Some 6 ∷ None ∷ Some 10 ∷ None ∷ Some 0 ∷ None ∷ Some 4 ∷ Some 13 ∷ Some 8 ∷ Some 2 ∷ []

abbrev row12 : Row
row12 = Some 2 ∷ None ∷ Some 12 ∷ None ∷ Some 6 ∷ None ∷ Some 10 ∷ None ∷ Some 13 ∷ None ∷ Some 4 ∷ Some 8 ∷ Some 0 ∷ Some 11 ∷ []

abbrev row13 : Row
row13 = Some 2 ∷ None ∷ Some 12 ∷ None ∷ Some 11 ∷ None ∷ Some 8 ∷ None ∷ Some 10 ∷ None ∷ Some 6 ∷ Some 13 ∷ Some 0 ∷ Some 4 ∷ []

abbrev row14 : Row
row14 = Some 2 ∷ None ∷ Some 11 ∷ None ∷ Some 6 ∷ None ∷ Some 13 ∷ None ∷ Some 10 ∷ None ∷ Some 12 ∷ Some 0 ∷ Some 8 ∷ Some 4 ∷ []

abbrev row15 : Row
row15 = Some 10 ∷ None ∷ Some 12 ∷ None ∷ Some 6 ∷ None ∷ Some 13 ∷ None ∷ Some 0 ∷ None ∷ Some 8 ∷ Some 2 ∷ Some 11 ∷ Some 4 ∷ []

abbrev row16 : Row
row16 = Some 10 ∷ None ∷ Some 4 ∷ None ∷ Some 12 ∷ None ∷ Some 11 ∷ None ∷ Some 0 ∷ None ∷ Some 8 ∷ Some 13 ∷ Some 2 ∷ Some 6 ∷ []

abbrev row17 : Row
row17 = Some 13 ∷ None ∷ Some 4 ∷ None ∷ Some 12 ∷ None ∷ Some 8 ∷ None ∷ Some 11 ∷ None ∷ Some 0 ∷ Some 6 ∷ Some 2 ∷ Some 10 ∷ []

abbrev row18 : Row
row18 = Some 2 ∷ None ∷ Some 10 ∷ None ∷ Some 6 ∷ None ∷ Some 13 ∷ None ∷ Some 11 ∷ None ∷ Some 0 ∷ Some 12 ∷ Some 8 ∷ Some 4 ∷ []

abbrev row19 : Row
row19 = Some 11 ∷ None ∷ Some 12 ∷ None ∷ Some 6 ∷ None ∷ Some 13 ∷ None ∷ Some 0 ∷ None ∷ Some 2 ∷ Some 8 ∷ Some 10 ∷ Some 4 ∷ []

abbrev row20 : Row
row20 = Some 11 ∷ None ∷ Some 4 ∷ None ∷ Some 12 ∷ None ∷ Some 10 ∷ None ∷ Some 0 ∷ None ∷ Some 13 ∷ Some 8 ∷ Some 2 ∷ Some 6 ∷ []

abbrev row21 : Row
row21 = Some 13 ∷ None ∷ Some 4 ∷ None ∷ Some 12 ∷ None ∷ Some 8 ∷ None ∷ Some 10 ∷ None ∷ Some 6 ∷ Some 0 ∷ Some 2 ∷ Some 11 ∷ []

abbrev cuts : List Diagonal
cuts = record { low = 0; high = 2 } ∷ record { low = 0; high = 3 } ∷ []

law0 : Lawful (stored 7 row0)
unfolding lawful_list
law0 = lawful_from_list 7 row0 tt

law1 : Lawful (stored 7 row1)
unfolding lawful_list
law1 = lawful_from_list 7 row1 tt

pentagon_lawful : Lawful pentagon
unfolding first_fault
pentagon_lawful = (cut_into_triangles 5 cuts refl (uncrossed 5 cuts refl)).lawful

pub is_row0 : pentagon ≡ stored 7 row0
unfolding first_below dart_to apex ends polygon_next
is_row0 = same_triangulation pentagon.next (stored 7 row0).next pentagon_lawful law0 tt

is_row1 : turned_pentagon ≡ stored 7 row1
unfolding lawful_list relabelled
is_row1 = ap (leads (T 5 ∷ [])) is_row0 ∙ (arrives (T 5 ∷ []) row0 (row1 ∷ []) law0 tt).1

-- two walks from one row that pass these rows to one last row meet
meet : {t : Triangulation} (xs : Row) → t ≡ stored 7 xs → Lawful (stored 7 xs) → (w w' : List Step) (yss zss : List Row) → Yes (passes w xs yss) → Yes (passes w' xs zss)
    → last_of w xs yss ≡ last_of w' xs zss → Meet t w w'
meet xs e law w w' yss zss p q r =
    let a = arrives w xs yss law p in
    let b = arrives w' xs zss law q in
    record {
      legal = subst (Legal w) (sym e) a.0;
      other_legal = subst (Legal w') (sym e) b.0;
      one_end = ap (leads w) e ∙ (a.1 ∙ (ap (stored 7) r ∙ sym (ap (leads w') e ∙ b.1)));
    }

pub pentagon_walks : PentagonWalks
unfolding lawful_list together flipped_by triangle relabelled
pentagon_walks = record {
  from_five = meet row0 is_row0 law0 (L 5 ∷ L 6 ∷ L 5 ∷ L 6 ∷ L 5 ∷ []) (S 5 6 ∷ T 5 ∷ T 6 ∷ []) (row2 ∷ row3 ∷ row4 ∷ row5 ∷ row6 ∷ []) (row7 ∷ row8 ∷ row6 ∷ []) tt tt refl;
  from_five_turned = meet row1 is_row1 law1 (L 5 ∷ L 6 ∷ L 5 ∷ L 6 ∷ L 5 ∷ []) (S 5 6 ∷ []) (row9 ∷ row10 ∷ row11 ∷ row12 ∷ row13 ∷ []) (row13 ∷ []) tt tt refl;
  from_six = meet row0 is_row0 law0 (L 6 ∷ L 5 ∷ L 6 ∷ L 5 ∷ L 6 ∷ []) (S 5 6 ∷ T 5 ∷ []) (row14 ∷ row15 ∷ row16 ∷ row17 ∷ row8 ∷ []) (row7 ∷ row8 ∷ []) tt tt refl;
  from_six_turned = meet row1 is_row1 law1 (L 6 ∷ L 5 ∷ L 6 ∷ L 5 ∷ L 6 ∷ []) (S 5 6 ∷ T 6 ∷ []) (row18 ∷ row19 ∷ row20 ∷ row21 ∷ row7 ∷ []) (row13 ∷ row7 ∷ []) tt tt refl;
}

-- where the first of these walks ends
pub five_flips : stored 7 row6 ≡ leads (L 5 ∷ L 6 ∷ L 5 ∷ L 6 ∷ L 5 ∷ []) pentagon
unfolding lawful_list together flipped_by triangle relabelled
five_flips = sym (ap (leads (L 5 ∷ L 6 ∷ L 5 ∷ L 6 ∷ L 5 ∷ [])) is_row0 ∙ (arrives (L 5 ∷ L 6 ∷ L 5 ∷ L 6 ∷ L 5 ∷ []) row0 (row2 ∷ row3 ∷ row4 ∷ row5 ∷ row6 ∷ []) law0 tt).1)
