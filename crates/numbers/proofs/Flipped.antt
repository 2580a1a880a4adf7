-- The operations of a flip, one after the other.
use Rattle.std.proofs.Common.{◌≡◌, Ok, Err, Result, sym, refl, ap, subst}
use Rattle.std.specs.Result.{IsErrAnd}
use Rattle.std.proofs.lemmas.Result.{err_from_is_err_and}
use Rattle.numbers.specs.Numbers.{Numbers, Lawful, Stands, Held, Answers, Sums, Multiplies, Divides}
use Rattle.numbers.specs.Faults.{with_place, in_flip}
use Rattle.numbers.specs.Ptolemy.{AllStored, first_product, second_product, both, new, Blocked, Flips, flip_result}
use Rattle.numbers.specs.declared.fault.Placed.{Placed}
use Rattle.numbers.specs.declared.fault.RangeFault.{RangeFault}
use Rattle.numbers.specs.declared.fault.Operation.{Operation}
use Rattle.numbers.specs.declared.fault.Operation.TheVariants.{FirstProduct, SecondProduct, Sum, Quotient}
use Rattle.numbers.specs.declared.fault.FlipFault.{FlipFault}
use Rattle.numbers.specs.declared.ptolemy.Sides.{Sides}
use Rattle.numbers.proofs.Answered.{answers_same, results, no_result}

-- an operation's answer, with its place
module _ {N : Type 0} (K : Numbers N) {x : K.exact.Exact} (o : Operation) where
  -- it was n
  pub stands_from : (r : Result N RangeFault) {n : N} → with_place o r ≡ Ok n → Answers K x r → Stands K x n
  stands_from (Ok m) {n = n} e h = let same : m ≡ n = cc in subst (λ (k : N). Stands K x k) same h
  stands_from (Err d) e h = cc

  -- it was a refusal
  pub refused_from : (r : Result N RangeFault) {f : Placed Operation RangeFault} → with_place o r ≡ Err f → Answers K x r → (f.place ≡ o) × (Held K x → ⊥)
  refused_from (Ok m) e h = cc
  refused_from (Err d) {f = f} e h =
      let whole : record { place = o; fault = d } ≡ f = cc in (sym (ap (λ (s : Placed Operation RangeFault). s.place) whole), h)

module _ {N : Type 0} {K : Numbers N} (lawful : Lawful K) (s : Sides N) where
  blocked : (o : Operation) (d : RangeFault) → Blocked K s o → Err (record { operation = o; fault = d }) ≡ flip_result K s
  blocked FirstProduct d h = rw (no_result lawful _ h) refl
  blocked SecondProduct d h = rw (results lawful _ _ h.0.1, no_result lawful _ h.1) refl
  blocked Sum d h = rw (results lawful _ _ h.0.1, results lawful _ _ h.1.1, no_result lawful _ h.2) refl
  blocked Quotient d h =
      rw (results lawful _ _ h.0.1, results lawful _ _ h.1.1, results lawful _ _ h.2.1, no_result lawful _ h.3) refl

  -- what the answer has to say fixes it
  pub settled : (r : Result N FlipFault) → Flips K s r → r ≡ flip_result K s
  settled (Ok n) h =
      rw (results lawful _ _ h.first_held.1, results lawful _ _ h.second_held.1, results lawful _ _ h.both_held.1, results lawful _ _ h.stands) refl
  settled (Err f) h = blocked f.operation f.fault h

  -- both clauses of the contract
  pub record Contract (r : Result N FlipFault) : Type 0 where
    pub flips : AllStored K s → Flips K s r
    pub result : AllStored K s → r ≡ flip_result K s

  pub contract : {r : Result N FlipFault} → (AllStored K s → Flips K s r) → Contract r
  contract {r} h = record { flips = h; result = λ stored. settled r (h stored) }

  -- a refusal, as `?` hands it on
  pub refusal :
      (r : Result N FlipFault) (f : Placed Operation RangeFault) → IsErrAnd r (λ d. d ≡ in_flip f) →
      (AllStored K s → Flips K s (Err (in_flip f))) → Contract r
  refusal r f e h = let p = err_from_is_err_and r e in contract (λ stored. rw (p.1, p.2) (h stored))

  -- What each operation answered, in turn, and that the ones before it answered a number.
  module _ (stored : AllStored K s) (i : Result N RangeFault) (multiplied : Multiplies K s.a s.c i) where
    abbrev is_first : Answers K (first_product K s) i
    is_first = multiplied stored.a_stored stored.c_stored

    pub refused_first : {f : Placed Operation RangeFault} → with_place FirstProduct i ≡ Err f → Flips K s (Err (in_flip f))
    refused_first e = let no = refused_from K _ i e is_first in rw no.0 no.1

    module _ {m : N} (got : with_place FirstProduct i ≡ Ok m) (j : Result N RangeFault) (multiplied₂ : Multiplies K s.b s.g j) where
      abbrev first : Stands K (first_product K s) m
      first = stands_from K _ i got is_first

      abbrev is_second : Answers K (second_product K s) j
      is_second = multiplied₂ stored.b_stored stored.g_stored

      pub refused_second : {f : Placed Operation RangeFault} → with_place SecondProduct j ≡ Err f → Flips K s (Err (in_flip f))
      refused_second e = let no = refused_from K _ j e is_second in rw no.0 ((_, first), no.1)

      module _ {n : N} (got₂ : with_place SecondProduct j ≡ Ok n) (k : Result N RangeFault) (summed : Sums K m n k) where
        abbrev second : Stands K (second_product K s) n
        second = stands_from K _ j got₂ is_second

        abbrev is_sum : Answers K (both K s) k
        is_sum = answers_same lawful k (lawful.laws.sum_same _ _ _ _ first.same second.same) (summed first.stored second.stored)

        pub refused_sum : {f : Placed Operation RangeFault} → with_place Sum k ≡ Err f → Flips K s (Err (in_flip f))
        refused_sum e = let no = refused_from K _ k e is_sum in rw no.0 ((_, first), (_, second), no.1)

        module _ {o : N} (got₃ : with_place Sum k ≡ Ok o) (l : Result N RangeFault) (divided : Divides K o s.e l) where
          abbrev sum : Stands K (both K s) o
          sum = stands_from K _ k got₃ is_sum

          abbrev is_new : Answers K (new K s) l
          is_new = answers_same lawful l (lawful.laws.quotient_same _ _ _ _ sum.same (lawful.laws.same_refl _)) (divided sum.stored stored.e_stored)

          pub refused_quotient : {f : Placed Operation RangeFault} → with_place Quotient l ≡ Err f → Flips K s (Err (in_flip f))
          refused_quotient e = let no = refused_from K _ l e is_new in rw no.0 ((_, first), (_, second), (_, sum), no.1)

          pub reached : {p : N} → with_place Quotient l ≡ Ok p → Flips K s (Ok p)
          reached e = record { first_held = (_, first); second_held = (_, second); both_held = (_, sum); stands = stands_from K _ l e is_new }
