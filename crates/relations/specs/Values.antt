-- The exact values of the edges, and what a walk does to them.
use Rattle.std.specs.Prelude.{ℕ, ◌+◌, ◌*◌, cond, List, [], ◌∷◌, ◌==◌}
use Rattle.triangulations.specs.Triangulations.{Table, Triangulation, edge_of, after}
use Rattle.triangulations.specs.Steps.{Step, L, R, T, S, exchanged, apply_step}
use Rattle.exact.specs.Field.{Field}
use Rattle.exact.specs.Flips.{flipped}

module _ (F : Field) where
  -- a value for each edge
  abbrev pub Values : Type 0
  Values = ℕ → F.Exact

  -- a dart stands for the value of its edge
  abbrev pub worth : Values → ℕ → F.Exact
  worth v d = v (edge_of d)

  -- (a·c + b·g) ÷ e, where d, a, b and p, c, g are the triangles of the darts d = 2 e and p = 2 e + 1
  unfoldable pub flip_value : Table → ℕ → Values → F.Exact
  flip_value t e v =
      flipped F
      (worth v (after t (2 * e))) (worth v (after t (2 * e + 1)))
      (worth v (after t (after t (2 * e)))) (worth v (after t (after t (2 * e + 1))))
      (v e)

  -- a flip gives its edge a new value, a swap exchanges two values, a turn leaves them
  abbrev pub value_step : Step → Table → Values → Values
  value_step (L e) t v = λ k. cond (k == e) (flip_value t e v) (v k)
  value_step (R e) t v = λ k. cond (k == e) (flip_value t e v) (v k)
  value_step (T e) t v = v
  value_step (S e f) t v = λ k. v (exchanged e f k)

  -- the values to which a walk leads
  abbrev pub leads_values : List Step → Triangulation → Values → Values
  leads_values [] t v = v
  leads_values (s ∷ w) t v = leads_values w (apply_step s t) (value_step s t.next v)

  -- the same values on every edge
  abbrev pub Same : Values → Values → Type 0
  Same v v' = (k : ℕ) → F.same (v k) (v' k)
