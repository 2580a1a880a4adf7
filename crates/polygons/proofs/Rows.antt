-- Walks on stored triangulations of seven edges, by evaluation: the rows that a walk passes are written down, and each step is tested.
use Rattle.std.proofs.Common.{◌≡◌, ℕ, ◌<◌, Bool, true, false, ◌&&◌, T as Yes, eqb, ltb, List, [], ◌∷◌, Some, None, Option, sym, refl, ap, ◌∙◌, subst, arith, eqb→eq, ltb→lt}
use Rattle.std.specs.Option.{option_eq}
use native.Mathlib.Decide.{dec_lt}
use mathlib.Core.Path.{fun_ext}
use Rattle.triangulations.specs.Triangulations.{Table, Triangulation, Lawful, flippable}
use Rattle.triangulations.specs.Steps.{Step, L, R, T, S, stepped, apply_step, LegalStep, Legal, leads}
use Rattle.triangulations.specs.Stored.{table_of, stored, all_below, lawful_list}
use Rattle.triangulations.proofs.Frames.{at_below}
use Rattle.std.proofs.Math.Facts.{and_yes}
use Rattle.triangulations.proofs.Labels.{step_lawful}
use Rattle.triangulations.proofs.Stored.{none_past, lawful_from_list}

abbrev pub Row : Type 0
Row = List (Option ℕ)

equal_is : (a b : Option ℕ) → Yes (option_eq eqb a b) → a ≡ b
equal_is None None h = refl
equal_is None (Some y) h = absurd h
equal_is (Some x) None h = absurd h
equal_is (Some x) (Some y) h = ap Some (eqb→eq x y h)

-- whether the darts of seven edges have the same followers
abbrev pub agree : Table → Table → Bool
agree t u = all_below 14 (λ d. option_eq eqb (t d) (u d))

-- lawful triangulations of seven edges that agree on their darts are equal
pub same_triangulation : (t u : Table) → Lawful (record { edges = 7; next = t }) → Lawful (record { edges = 7; next = u }) → Yes (agree t u)
    → ◌≡◌ {A = Triangulation} (record { edges = 7; next = t }) (record { edges = 7; next = u })
same_triangulation t u lt lu h = λ i. record { edges = 7; next = same i }
  where
    at : (d : ℕ) → Dec (d < 14) → t d ≡ u d
    at d (yes l) = equal_is (t d) (u d) (at_below 14 (λ d. option_eq eqb (t d) (u d)) h d l)
    at d (no l) = none_past _ lt d (omega arith) ∙ sym (none_past _ lu d (omega arith))

    same : t ≡ u
    same = fun_ext (λ d. at d (dec_lt d 14))

abbrev legal_test : Step → Row → Bool
legal_test (L e) xs = flippable (table_of xs) e
legal_test (R e) xs = flippable (table_of xs) e
legal_test (T e) xs = ltb e 7
legal_test (S e f) xs = ltb e f && ltb f 7

legal_is : (s : Step) (xs : Row) → Yes (legal_test s xs) → LegalStep s (stored 7 xs)
legal_is (L e) xs h = h
legal_is (R e) xs h = h
legal_is (T e) xs h = ltb→lt e 7 h
legal_is (S e f) xs h = (ltb→lt e f ((and_yes (ltb e f) _ h).0), ltb→lt f 7 ((and_yes (ltb e f) _ h).1))

-- whether s is legal at xs and leads to ys
abbrev goes : Step → Row → Row → Bool
goes s xs ys = legal_test s xs && (lawful_list 7 ys && agree (stepped s (table_of xs)) (table_of ys))

-- whether the walk passes these rows
abbrev pub passes : List Step → Row → List Row → Bool
passes [] xs yss = true
passes (s ∷ w) xs [] = false
passes (s ∷ w) xs (ys ∷ yss) = goes s xs ys && passes w ys yss

abbrev pub last_of : List Step → Row → List Row → Row
last_of [] xs yss = xs
last_of (s ∷ w) xs [] = xs
last_of (s ∷ w) xs (ys ∷ yss) = last_of w ys yss

-- what a step that goes from xs to ys has
record Gone (s : Step) (xs ys : Row) : Type 0 where
  legal : LegalStep s (stored 7 xs)
  lawful : Lawful (stored 7 ys)
  moved : apply_step s (stored 7 xs) ≡ stored 7 ys

gone : (s : Step) (xs ys : Row) → Lawful (stored 7 xs) → Yes (goes s xs ys) → Gone s xs ys
gone s xs ys law test = record {
  legal = legal;
  lawful = lawful;
  moved = same_triangulation (stepped s (table_of xs)) (table_of ys) (step_lawful s (stored 7 xs) law legal) lawful ((and_yes (lawful_list 7 ys) _ ((and_yes (legal_test s xs) _ test).1)).1);
}
  where
    legal : LegalStep s (stored 7 xs)
    legal = legal_is s xs ((and_yes (legal_test s xs) _ test).0)

    lawful : Lawful (stored 7 ys)
    lawful = lawful_from_list 7 ys ((and_yes (lawful_list 7 ys) _ ((and_yes (legal_test s xs) _ test).1)).0)

pub arrives : (w : List Step) (xs : Row) (yss : List Row) → Lawful (stored 7 xs) → Yes (passes w xs yss) → Legal w (stored 7 xs) × (leads w (stored 7 xs) ≡ stored 7 (last_of w xs yss))
arrives [] xs yss law p = (tt, refl)
arrives (s ∷ w) xs [] law p = absurd p
arrives (s ∷ w) xs (ys ∷ yss) law p =
    let g = gone s xs ys law ((and_yes (goes s xs ys) _ p).0) in
    let rest = arrives w ys yss g.lawful ((and_yes (goes s xs ys) _ p).1) in
    ((g.legal, subst (Legal w) (sym g.moved) rest.0), ap (leads w) g.moved ∙ rest.1)
