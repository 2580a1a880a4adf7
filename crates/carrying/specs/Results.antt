-- The exact results on the way along a walk, and whether stored numbers have them.
use Rattle.std.specs.Prelude.{ℕ, ◌+◌, ◌*◌, List, [], ◌∷◌}
use Rattle.triangulations.specs.Triangulations.{Table, Triangulation, after}
use Rattle.triangulations.specs.Steps.{L, R, T, S, apply_step}
use Rattle.triangulations.specs.Steps.{Step as Move}
use Rattle.exact.specs.Field.{Field}
use Rattle.numbers.specs.Numbers.{Numbers, Held}
use Rattle.numbers.specs.declared.fault.Operation.{Operation}
use Rattle.numbers.specs.declared.fault.Operation.TheVariants.{FirstProduct, SecondProduct, Sum, Quotient}
use Rattle.relations.specs.Values.{Values, worth, flip_value, value_step}

-- the exact results of the four operations of a flip of e from values v: a·c, b·g, a·c + b·g and (a·c + b·g) ÷ e
module _ (F : Field) (t : Table) (e : ℕ) (v : Values F) where
  abbrev pub first_product : F.Exact
  first_product = F.product (worth F v (after t (2 * e))) (worth F v (after t (2 * e + 1)))

  abbrev pub second_product : F.Exact
  second_product = F.product (worth F v (after t (after t (2 * e)))) (worth F v (after t (after t (2 * e + 1))))

  abbrev pub result : Operation → F.Exact
  result FirstProduct = first_product
  result SecondProduct = second_product
  result Sum = F.sum first_product second_product
  result Quotient = flip_value F t e v

module _ {N : Type 0} (K : Numbers N) where
  module _ (t : Table) (e : ℕ) (v : Values K.exact) where
    -- some stored number has the exact result of this operation
    abbrev pub ResultHeld : Operation → Type 0
    ResultHeld o = Held K (result K.exact t e v o)

    -- this operation is the first whose exact result no stored number has
    abbrev pub FlipBlocked : Operation → Type 0
    FlipBlocked FirstProduct = ResultHeld FirstProduct → ⊥
    FlipBlocked SecondProduct = ResultHeld FirstProduct × (ResultHeld SecondProduct → ⊥)
    FlipBlocked Sum = ResultHeld FirstProduct × ResultHeld SecondProduct × (ResultHeld Sum → ⊥)
    FlipBlocked Quotient = ResultHeld FirstProduct × ResultHeld SecondProduct × ResultHeld Sum × (ResultHeld Quotient → ⊥)

  -- each exact result of a step has a stored number: a label step has none
  abbrev pub StepHeld : Move → Table → Values K.exact → Type 0
  StepHeld (L e) t v = (o : Operation) → ResultHeld t e v o
  StepHeld (R e) t v = (o : Operation) → ResultHeld t e v o
  StepHeld (T e) t v = Unit {0}
  StepHeld (S e f) t v = Unit {0}

  -- the step is a flip, and this operation the first of it whose exact result no stored number has
  abbrev pub StepBlocked : Move → Table → Values K.exact → Operation → Type 0
  StepBlocked (L e) t v o = FlipBlocked t e v o
  StepBlocked (R e) t v o = FlipBlocked t e v o
  StepBlocked (T e) t v o = ⊥
  StepBlocked (S e f) t v o = ⊥

  -- each exact result on the way along a walk has a stored number
  abbrev pub WalkHeld : List Move → Triangulation → Values K.exact → Type 0
  WalkHeld [] t v = Unit {0}
  WalkHeld (s ∷ w) t v = StepHeld s t.next v × WalkHeld w (apply_step s t) (value_step K.exact s t.next v)
