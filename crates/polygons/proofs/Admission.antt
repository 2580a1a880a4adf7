-- Counts and diagonals have no fault exactly when they are admitted.
use Rattle.std.proofs.Common.{◌≡◌, ℕ, ◌-◌, ◌<◌, ◌≤◌, true, false, cond, not, List, length, take, Decides, Option, Some, None, sym, ap, ◌∙◌, arith}
use Rattle.std.proofs.lemmas.Bool.Decides.{nat_tests}
use Rattle.std.proofs.lemmas.Bool.{false≢true, cond-true, cond-false}
use Rattle.std.proofs.lemmas.List.{get_or-take, length-take-le}
use Rattle.std.proofs.lemmas.List.Elements.{All-from_get_or}
use Rattle.std.proofs.lemmas.List.Sums.{list_all-from_AllPass}
use Rattle.surfaces.specs.declared.faults.SurfaceFault.{SurfaceFault}
use Rattle.surfaces.specs.declared.faults.SurfaceFault.TheVariants.{CountOutside, NotDiagonal, Crosses}
use Rattle.polygon_counting.specs.declared.diagonal.Diagonal.{Diagonal}
use Rattle.polygon_counting.specs.Diagonals.{at, proper, clashes, Uncrossed}
use Rattle.polygon_counting.proofs.Searching.{told_first}
use Rattle.polygons.specs.Judging.{Admitted, clear, diagonal_fault, first_fault, counts_fit, polygon_fault}
use Rattle.polygons.specs.Admission.{uncrossed}

-- what counts that fit tell, and back
counts_are : (n m : ℕ) → counts_fit n m ≡ true → (3 ≤ n) × (n ≤ 33) × (m ≡ n - 3)
counts_are n m t = (grind (arith, nat_tests), grind (arith, nat_tests), grind (arith, nat_tests))

counts_from : (n m : ℕ) → 3 ≤ n → n ≤ 33 → m ≡ n - 3 → counts_fit n m ≡ true
counts_from n m h k e = grind (arith, nat_tests)

-- diagonals that neither cross nor repeat one another have no fault
module _ (n : ℕ) (ds : List Diagonal) (un : Uncrossed n ds) where
  all_clear : (k : ℕ) → k < length ds → clear ds k ≡ true
  all_clear k h =
      let long = length-take-le k ds (omega arith) in
      list_all-from_AllPass (λ d. not (clashes (at ds k) d)) (take k ds)
      (All-from_get_or (λ d. not (clashes (at ds k) d) ≡ true) (take k ds) _
      (λ j l. ap (λ d. not (clashes (at ds k) d)) (get_or-take k ds j _ (omega arith)) ∙ ap not (un.apart j k (omega arith) h)))

  pub none_first : first_fault n ds ≡ None
  unfolding first_fault
  none_first =
      sym (told_first (length ds) (diagonal_fault n ds) None
      (λ k h. cond-true (proper n (at ds k)) (cond (clear ds k) None (Some (Crosses k))) (Some (NotDiagonal k)) (un.diagonals k h)
      ∙ cond-true (clear ds k) None (Some (Crosses k)) (all_clear k h)))

pub admitted : (n : ℕ) (ds : List Diagonal) → counts_fit n (length ds) ≡ true → first_fault n ds ≡ None → Admitted n ds
admitted n ds e p =
    let c = counts_are n (length ds) e in
    record { least = c.0; most = c.1; full = omega (arith, c.0, c.2); uncrossed = uncrossed n ds p }

-- why counts and diagonals make no polygon, and that those that are admitted make one
module _ (n : ℕ) (ds : List Diagonal) where
  pub count_refused : counts_fit n (length ds) ≡ false → polygon_fault n ds ≡ Some CountOutside
  count_refused e = cond-false (counts_fit n (length ds)) (first_fault n ds) (Some CountOutside) e

  pub diagonals_judged : counts_fit n (length ds) ≡ true → {o : Option SurfaceFault} → first_fault n ds ≡ o → polygon_fault n ds ≡ o
  diagonals_judged e p = cond-true (counts_fit n (length ds)) (first_fault n ds) (Some CountOutside) e ∙ p

  pub faultless : Admitted n ds → polygon_fault n ds ≡ None
  faultless a =
      let e = counts_from n (length ds) a.least a.most (omega (arith, a.full)) in
      diagonals_judged e (none_first n ds a.uncrossed)

  pub not_admitted : (e : SurfaceFault) → polygon_fault n ds ≡ Some e → Decides false (Admitted n ds)
  not_admitted e p = (λ z. absurd (false≢true z), λ a. absurd (cc (p, faultless a)))
