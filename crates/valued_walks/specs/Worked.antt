-- Values along worked walks, which hold by evaluation.
use Rattle.std.specs.Prelude.{◌≡◌, ℕ, List, [], ◌∷◌, get_or, pos, Ok, Result, slice_index_or}
use Rattle.triangulations.specs.Steps.{Step, L}
use Rattle.surfaces.specs.Torus.{torus}
use Rattle.polygons.specs.WorkedWalks.{pentagon}
use Rattle.numbers.specs.Ptolemy.{flip_result}
use Rattle.numbers.specs.declared.fault.FlipFault.{FlipFault}
use Rattle.numbers.specs.declared.fault.CarryFault.{CarryFault}
use Rattle.kinds.specs.declared.weight.Weight.{Weight}
use Rattle.kinds.specs.declared.fraction.Fraction.{Fraction}
use Rattle.kinds.specs.Weights.{weights}
use Rattle.kinds.specs.Fractions.{fractions, largest}
use Rattle.valued_walks.specs.Carrying.{carried, rows_of}

abbrev pub whole : ℕ → Fraction
whole n = record { numerator = n; denominator = 1 }

abbrev pub weighing : ℕ → Weight
weighing n = record { value = pos n }

-- the torus with one puncture: three edges
abbrev pub fractions_on_torus : List Step → List Fraction → Result (List Fraction) CarryFault
fractions_on_torus w start = rows_of 3 (carried fractions 0 w (torus 1) (λ k. get_or start k (whole 1)))

abbrev pub weights_on_torus : List Step → List Weight → Result (List Weight) CarryFault
weights_on_torus w start = rows_of 3 (carried weights 0 w (torus 1) (λ k. get_or start k (weighing 0)))

-- the pentagon with the diagonals 5 and 6, from fractions all 1: seven edges
abbrev pub fractions_on_pentagon : List Step → Result (List Fraction) CarryFault
fractions_on_pentagon w = rows_of 7 (carried fractions 0 w pentagon (λ k. whole 1))

-- seven rows, all 1 but those of the diagonals
abbrev pub with_diagonals : Fraction → Fraction → List Fraction
with_diagonals x y = whole 1 ∷ whole 1 ∷ whole 1 ∷ whole 1 ∷ whole 1 ∷ x ∷ y ∷ []

-- the new values that L(5) L(6) L(5) L(6) L(5) gives in turn
pub record PentagonFractions (given : List Fraction) : Type 0 where
  pub first : fractions_on_pentagon (L 5 ∷ []) ≡ Ok (with_diagonals (slice_index_or given 0 (whole 0)) (whole 1))
  pub second : fractions_on_pentagon (L 5 ∷ L 6 ∷ []) ≡ Ok (with_diagonals (slice_index_or given 0 (whole 0)) (slice_index_or given 1 (whole 0)))
  pub third : fractions_on_pentagon (L 5 ∷ L 6 ∷ L 5 ∷ []) ≡ Ok (with_diagonals (slice_index_or given 2 (whole 0)) (slice_index_or given 1 (whole 0)))
  pub fourth : fractions_on_pentagon (L 5 ∷ L 6 ∷ L 5 ∷ L 6 ∷ []) ≡ Ok (with_diagonals (slice_index_or given 2 (whole 0)) (slice_index_or given 3 (whole 0)))
  pub fifth : fractions_on_pentagon (L 5 ∷ L 6 ∷ L 5 ∷ L 6 ∷ L 5 ∷ []) ≡ Ok (with_diagonals (slice_index_or given 4 (whole 0)) (slice_index_or given 3 (whole 0)))

-- a flip with a = 2147483647/2, c = 2/2147483647, b = g = 1 and e = 1/2
abbrev pub reduced_flip : Result Fraction FlipFault
reduced_flip =
    flip_result fractions (record {
      a = record { numerator = largest; denominator = 2 };
      b = whole 1;
      c = record { numerator = 2; denominator = largest };
      g = whole 1;
      e = record { numerator = 1; denominator = 2 };
    })
