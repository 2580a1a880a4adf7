-- Diagonals without a fault neither cross nor repeat one another.
use Rattle.std.specs.Prelude.{◌≡◌, ℕ, ◌<◌, Bool, true, false, cond, not, List, length, take, Some, None, refl}
use Rattle.std.proofs.Common.{subst, arith}
use Rattle.std.proofs.lemmas.Bool.{not-true}
use Rattle.std.proofs.lemmas.List.{get_or-take, length-take-le}
use Rattle.std.proofs.lemmas.List.Sums.{AllPass-from_list_all}
use Rattle.surfaces.specs.declared.faults.SurfaceFault.{SurfaceFault}
use Rattle.polygon_counting.specs.declared.diagonal.Diagonal.{Diagonal}
use Rattle.polygon_counting.specs.Diagonals.{at, proper, clashes, Uncrossed}
use Rattle.polygon_counting.proofs.Searching.{Tells, first_tells}
use Rattle.polygons.specs.Judging.{clear, diagonal_fault, first_fault}

both : (p q : Bool) (x y : SurfaceFault) → cond p (cond q None (Some x)) (Some y) ≡ None → (p ≡ true) × (q ≡ true)
both true true x y e = (refl, refl)
both true false x y e = absurd (cc)
both false q x y e = absurd (cc)

clear_is : (ds : List Diagonal) (j k : ℕ) → j < k → k < length ds → clear ds k ≡ true → clashes (at ds k) (at ds j) ≡ false
clear_is ds j k h l t =
    let passes = AllPass-from_list_all (λ d. not (clashes (at ds k) d)) (take k ds) t j _ (omega (arith, length-take-le k ds (omega arith))) in
    not-true (clashes (at ds k) (at ds j)) (subst (λ d. not (clashes (at ds k) d) ≡ true) (get_or-take k ds j _ h) passes)

pub uncrossed : (n : ℕ) (ds : List Diagonal) → first_fault n ds ≡ None → Uncrossed n ds
unfolding first_fault
uncrossed n ds e = record {
  diagonals = λ k h. (fine k h).0;
  apart = λ j k h l. clear_is ds j k h l (fine k l).1;
}
  where
    fine : (k : ℕ) → k < length ds → (proper n (at ds k) ≡ true) × (clear ds k ≡ true)
    fine k h = both (proper n (at ds k)) (clear ds k) _ _ (subst (Tells (length ds) (diagonal_fault n ds)) e (first_tells (length ds) (diagonal_fault n ds)) k h)
