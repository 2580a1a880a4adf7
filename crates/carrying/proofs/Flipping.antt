-- What a flip gives its row, of the exact values for which the rows around it stand.
use Rattle.std.proofs.Common.{◌≡◌, ℕ, ◌+◌, ◌*◌, ◌<◌, Bool, cond, List, set, Some, None, Ok, Err, Decides, Option, Result, refl, ap, ◌∙◌, subst, arith}
use Rattle.triangulations.specs.Triangulations.{Triangulation, after, edge_of}
use Rattle.triangulations.specs.Steps.{Direction, left, right, flip_step, apply_step, LegalStep}
use Rattle.triangulations.specs.Steps.{Step as Move}
use Rattle.numbers.specs.Numbers.{Numbers, Lawful, Stands, Held}
use Rattle.numbers.specs.Faults.{at_step}
use Rattle.numbers.specs.Ptolemy.{answered, AllStored, Blocked, Flips, Reached, flip_result}
use Rattle.numbers.specs.Ptolemy as row
use Rattle.numbers.specs.declared.ptolemy.Sides.{Sides}
use Rattle.numbers.specs.declared.fault.Operation.{Operation}
use Rattle.numbers.specs.declared.fault.Operation.TheVariants.{FirstProduct, SecondProduct, Sum, Quotient}
use Rattle.numbers.specs.declared.fault.FlipFault.{FlipFault}
use Rattle.numbers.specs.declared.fault.CarryFault.{CarryFault}
use Rattle.numbers.proofs.Answered.{stands_same, held_same}
use Rattle.exact.proofs.Ptolemy.{flipped_same}
use Rattle.relations.specs.Values.{Values, flip_value}
use Rattle.carrying.specs.Rows.{Standing}
use Rattle.carrying.specs.Results.{result, ResultHeld, FlipBlocked}
use Rattle.carrying.specs.Stepping.{FlipsRow, Stepped, StepRefused}
use Rattle.carrying.proofs.Rowwise.{standing_set}

module _ {N : Type 0} {K : Numbers N} (lawful : Lawful K) (sides : Sides N) where
  -- the computed answer says of the exact results what an answer has to say
  flips_result : Flips K sides (flip_result K sides)
  flips_result = go _ _ _ _ refl refl refl refl
    where
      go : (i j k l : Option N)
          → K.result (row.first_product K sides) ≡ i → K.result (row.second_product K sides) ≡ j
          → K.result (row.both K sides) ≡ k → K.result (row.new K sides) ≡ l
          → Flips K sides (row.after FirstProduct i (row.after SecondProduct j (row.after Sum k (answered Quotient l))))
      go None j k l p q r s = lawful.missing _ p
      go (Some m) None k l p q r s = ((m, lawful.found _ m p), lawful.missing _ q)
      go (Some m) (Some n) None l p q r s = ((m, lawful.found _ m p), (n, lawful.found _ n q), lawful.missing _ r)
      go (Some m) (Some n) (Some o) None p q r s =
          ((m, lawful.found _ m p), (n, lawful.found _ n q), (o, lawful.found _ o r), lawful.missing _ s)
      go (Some m) (Some n) (Some o) (Some y) p q r s = record {
        first_held = (m, lawful.found _ m p);
        second_held = (n, lawful.found _ n q);
        both_held = (o, lawful.found _ o r);
        stands = lawful.found _ y s;
      }

  module _ (t : Triangulation) (e : ℕ) where
    -- the five rows stand for the values of the edges around e and of e
    pub record Around (v : Values K.exact) : Type 0 where
      pub a_stands : Stands K (v (edge_of (after t.next (2 * e)))) sides.a
      pub b_stands : Stands K (v (edge_of (after t.next (after t.next (2 * e))))) sides.b
      pub c_stands : Stands K (v (edge_of (after t.next (2 * e + 1)))) sides.c
      pub g_stands : Stands K (v (edge_of (after t.next (after t.next (2 * e + 1))))) sides.g
      pub e_stands : Stands K (v e) sides.e

    module _ (v : Values K.exact) (h : Around v) where
      around_stored : AllStored K sides
      around_stored = record {
        a_stored = h.a_stands.stored;
        b_stored = h.b_stands.stored;
        c_stored = h.c_stands.stored;
        g_stored = h.g_stands.stored;
        e_stored = h.e_stands.stored;
      }

      -- the exact results of the rows
      made : Operation → K.exact.Exact
      made FirstProduct = row.first_product K sides
      made SecondProduct = row.second_product K sides
      made Sum = row.both K sides
      made Quotient = row.new K sides

      made_same : (o : Operation) → K.exact.same (made o) (result K.exact t.next e v o)
      unfolding made flip_value
      made_same FirstProduct = lawful.laws.product_same _ _ _ _ h.a_stands.same h.c_stands.same
      made_same SecondProduct = lawful.laws.product_same _ _ _ _ h.b_stands.same h.g_stands.same
      made_same Sum =
          lawful.laws.sum_same _ _ _ _
          (lawful.laws.product_same _ _ _ _ h.a_stands.same h.c_stands.same)
          (lawful.laws.product_same _ _ _ _ h.b_stands.same h.g_stands.same)
      made_same Quotient = flipped_same lawful.laws h.a_stands.same h.c_stands.same h.b_stands.same h.g_stands.same h.e_stands.same

      new_same : K.exact.same (row.new K sides) (flip_value K.exact t.next e v)
      unfolding made
      new_same = made_same Quotient

      has : (o : Operation) → Held K (made o) → ResultHeld K t.next e v o
      has o = held_same lawful (made_same o)

      lacks : (o : Operation) → (Held K (made o) → ⊥) → ResultHeld K t.next e v o → ⊥
      lacks o none s = none (held_same lawful (lawful.laws.same_sym _ _ (made_same o)) s)

      held : (n : N) → Reached K sides n → (o : Operation) → ResultHeld K t.next e v o
      unfolding made
      held n r FirstProduct = has FirstProduct r.first_held
      held n r SecondProduct = has SecondProduct r.second_held
      held n r Sum = has Sum r.both_held
      held n r Quotient = has Quotient (n, r.stands)

      blocked : (o : Operation) → Blocked K sides o → FlipBlocked K t.next e v o
      unfolding made
      blocked FirstProduct s = lacks FirstProduct s
      blocked SecondProduct s = (has FirstProduct s.0, lacks SecondProduct s.1)
      blocked Sum s = (has FirstProduct s.0, has SecondProduct s.1, lacks Sum s.2)
      blocked Quotient s = (has FirstProduct s.0, has SecondProduct s.1, has Sum s.2, lacks Quotient s.3)

  -- what the answer at step k says
  answered_ok : (k : ℕ) (y : Result N FlipFault) (n : N) → Flips K sides y → Ok n ≡ at_step k y → Reached K sides n
  answered_ok k (Ok m) n h e = let P : N → Type 0 = λ z. Reached K sides z in let p : m ≡ n = cc in subst P p h
  answered_ok k (Err f) n h e = let z : ◌≡◌ {A = ℕ} 0 1 = cc in absurd (omega arith)

  answered_err : (k : ℕ) (y : Result N FlipFault) (f : CarryFault) → Flips K sides y → Err f ≡ at_step k y
      → (f.step ≡ k) × Blocked K sides f.fault.operation
  answered_err k (Ok m) f h e = let z : ◌≡◌ {A = ℕ} 0 1 = cc in absurd (omega arith)
  answered_err k (Err d) f h e =
      let P : CarryFault → Type 0 = λ f. (f.step ≡ k) × Blocked K sides f.fault.operation in
      let p : record { step = k; fault = d } ≡ f = cc in
      subst P p (refl, h)

  -- the row that a flip of e gives, where the five rows are those around e
  pub flips_row : (k : ℕ) (t : Triangulation) (e : ℕ) (rows : List N) (r : Result N CarryFault)
      → (AllStored K sides → r ≡ at_step k (flip_result K sides))
      → ((v : Values K.exact) → Standing K t.edges v rows → Around t e v)
      → FlipsRow K k t e rows r
  flips_row k t e rows (Ok n) is around = λ v s.
      let h = around v s in
      let reached = answered_ok k (flip_result K sides) n flips_result (is (around_stored t e v h)) in
      (held t e v h n reached, stands_same lawful (new_same t e v h) reached.stands)
  flips_row k t e rows (Err f) is around = λ v s.
      let h = around v s in
      let refused = answered_err k (flip_result K sides) f flips_result (is (around_stored t e v h)) in
      (refused.0, blocked t e v h f.fault.operation refused.1)

-- where a legal step leads
pub moved_by : (s : Move) (t u : Triangulation) (r : Bool) → Decides r (LegalStep s t) → u ≡ cond r (apply_step s t) t → LegalStep s t → u ≡ apply_step s t
moved_by s t u r tells is legal = is ∙ ap (λ b. cond b (apply_step s t) t) (tells.1 legal)

-- a flip as a step
module _ {N : Type 0} {K : Numbers N} where
  pub flip_stepped : (w : Direction) (k e : ℕ) (t u : Triangulation) (rows : List N) (n : N)
      → LegalStep (flip_step w e) t → u ≡ apply_step (flip_step w e) t → e < t.edges
      → FlipsRow K k t e rows (Ok n) → Stepped K (flip_step w e) t u rows (set rows e n)
  flip_stepped left k e t u rows n legal moved l h = record {
    legal = legal;
    moved = moved;
    held = λ v s. (h v s).0;
    rows = λ v s. standing_set s e _ n l (h v s).1;
  }
  flip_stepped right k e t u rows n legal moved l h = record {
    legal = legal;
    moved = moved;
    held = λ v s. (h v s).0;
    rows = λ v s. standing_set s e _ n l (h v s).1;
  }

  pub flip_refused : (w : Direction) (k e : ℕ) (t : Triangulation) (rows : List N) (f : CarryFault)
      → LegalStep (flip_step w e) t → FlipsRow K k t e rows (Err f) → StepRefused K k (flip_step w e) t rows rows f
  flip_refused left k e t rows f legal h = record { legal = legal; kept = refl; blocked = h }
  flip_refused right k e t rows f legal h = record { legal = legal; kept = refl; blocked = h }
