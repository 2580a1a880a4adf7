-- Rows of numbers carried along a walk: a flip gives its edge the stored number of (a·c + b·g) ÷ e, a swap exchanges two rows.
use Rattle.std.specs.Prelude.{ℕ, zero, suc, ◌+◌, ◌*◌, cond, List, [], ◌∷◌, ◌++◌, Ok, Err, Result, ◌==◌}
use Rattle.triangulations.specs.Triangulations.{Table, Triangulation, edge_of, after}
use Rattle.triangulations.specs.Steps.{Step, L, R, T, S, exchanged, apply_step}
use Rattle.numbers.specs.Numbers.{Numbers}
use Rattle.numbers.specs.Faults.{at_step}
use Rattle.numbers.specs.Ptolemy.{flip_result}
use Rattle.numbers.specs.declared.fault.FlipFault.{FlipFault}
use Rattle.numbers.specs.declared.fault.CarryFault.{CarryFault}
use Rattle.numbers.specs.declared.ptolemy.Sides.{Sides}

-- the rows around e, where d, a, b and p, c, g are the triangles of d = 2 e and p = 2 e + 1 and each edge has a row
abbrev pub sides_at : {N : Type 0} → Table → ℕ → (ℕ → N) → Sides N
sides_at t e rows = record {
  a = rows (edge_of (after t (2 * e)));
  b = rows (edge_of (after t (after t (2 * e))));
  c = rows (edge_of (after t (2 * e + 1)));
  g = rows (edge_of (after t (after t (2 * e + 1))));
  e = rows e;
}

-- what a flip of e answers
abbrev pub flip_answer : {N : Type 0} → Numbers N → Table → ℕ → (ℕ → N) → Result N FlipFault
flip_answer K t e rows = flip_result K (sides_at t e rows)

abbrev pub with_row : {N : Type 0} → ℕ → (ℕ → N) → N → ℕ → N
with_row e rows n k = cond (k == e) n (rows k)

-- the rows after a flip of e that gave this answer
abbrev pub given : {N : Type 0} → ℕ → (ℕ → N) → Result N CarryFault → Result (ℕ → N) CarryFault
given e rows (Ok n) = Ok (with_row e rows n)
given e rows (Err f) = Err f

-- the rows after the step with this index, or its fault
abbrev pub carried_step : {N : Type 0} → Numbers N → ℕ → Step → Table → (ℕ → N) → Result (ℕ → N) CarryFault
carried_step K index (L e) t rows = given e rows (at_step index (flip_answer K t e rows))
carried_step K index (R e) t rows = given e rows (at_step index (flip_answer K t e rows))
carried_step K index (T e) t rows = Ok rows
carried_step K index (S e f) t rows = Ok (λ k. rows (exchanged e f k))

abbrev pub then : {X Y E : Type 0} → Result X E → (X → Result Y E) → Result Y E
then (Ok x) f = f x
then (Err e) f = Err e

-- the rows at the end of a walk whose first step has this index, or the first fault
abbrev pub carried : {N : Type 0} → Numbers N → ℕ → List Step → Triangulation → (ℕ → N) → Result (ℕ → N) CarryFault
carried K index [] t rows = Ok rows
carried K index (s ∷ w) t rows = then (carried_step K index s t.next rows) (carried K (suc index) w (apply_step s t))

-- the rows of the edges below n
abbrev pub listed : {N : Type 0} → ℕ → (ℕ → N) → List N
listed zero rows = []
listed (suc n) rows = listed n rows ++ (rows n ∷ [])

abbrev pub rows_of : {N : Type 0} → ℕ → Result (ℕ → N) CarryFault → Result (List N) CarryFault
rows_of n (Ok rows) = Ok (listed n rows)
rows_of n (Err f) = Err f
