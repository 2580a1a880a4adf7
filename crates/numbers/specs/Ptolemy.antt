-- The value (a·c + b·g) ÷ e that a flip gives its edge, worked out an operation at a time.
use Rattle.std.specs.Prelude.{Some, None, Ok, Err, Option, Result}
use Rattle.exact.specs.Flips.{flipped}
use Rattle.numbers.specs.Numbers.{Numbers, Stands, Held}
use Rattle.numbers.specs.declared.fault.Operation.{Operation}
use Rattle.numbers.specs.declared.fault.Operation.TheVariants.{FirstProduct, SecondProduct, Sum, Quotient}
use Rattle.numbers.specs.declared.fault.FlipFault.{FlipFault}
use Rattle.numbers.specs.declared.ptolemy.Sides.{Sides}

-- The answer to an operation that has this stored result, or none.
abbrev pub answered : {N : Type 0} → Operation → Option N → Result N FlipFault
answered operation (Some n) = Ok n
answered operation None = Err (record { operation = operation; fault = record {} })

-- The answer of what comes after an operation.
abbrev pub after : {N : Type 0} → Operation → Option N → Result N FlipFault → Result N FlipFault
after operation (Some _) rest = rest
after operation None rest = answered operation None

module _ {N : Type 0} (K : Numbers N) (s : Sides N) where
  -- All five are stored numbers.
  pub record AllStored : Type 0 where
    pub a_stored : K.stored s.a
    pub b_stored : K.stored s.b
    pub c_stored : K.stored s.c
    pub g_stored : K.stored s.g
    pub e_stored : K.stored s.e

  -- The exact results of the four operations.
  abbrev pub first_product : K.exact.Exact
  first_product = K.exact.product (K.value s.a) (K.value s.c)

  abbrev pub second_product : K.exact.Exact
  second_product = K.exact.product (K.value s.b) (K.value s.g)

  abbrev pub both : K.exact.Exact
  both = K.exact.sum first_product second_product

  abbrev pub new : K.exact.Exact
  new = flipped K.exact (K.value s.a) (K.value s.c) (K.value s.b) (K.value s.g) (K.value s.e)

  -- The operation is the first whose exact result no stored number has.
  abbrev pub Blocked : Operation → Type 0
  Blocked FirstProduct = Held K first_product → ⊥
  Blocked SecondProduct = Held K first_product × (Held K second_product → ⊥)
  Blocked Sum = Held K first_product × Held K second_product × (Held K both → ⊥)
  Blocked Quotient = Held K first_product × Held K second_product × Held K both × (Held K new → ⊥)

  -- Each operation has a stored result, and n is the last.
  pub record Reached (n : N) : Type 0 where
    pub first_held : Held K first_product
    pub second_held : Held K second_product
    pub both_held : Held K both
    pub stands : Stands K new n

  abbrev pub Flips : Result N FlipFault → Type 0
  Flips (Ok n) = Reached n
  Flips (Err f) = Blocked f.operation

  -- The same, computed.
  abbrev pub flip_result : Result N FlipFault
  flip_result =
      after FirstProduct (K.result first_product)
      (after SecondProduct (K.result second_product)
      (after Sum (K.result both) (answered Quotient (K.result new))))
