-- What an operation on stored numbers says of the exact values.
use Rattle.std.proofs.Common.{◌≡◌, ℕ, Bool, true, false, List, length, Some, None, Ok, Err, Decides, Option, Result, sym, refl, ap, ◌∙◌, subst}
use Rattle.std.specs.Bool.{then_some}
use Rattle.std.proofs.lemmas.Bool.Decides.{not_from_Decides}
use Rattle.numbers.specs.Numbers.{Numbers, Lawful, Stands, Held, Answers, Single, Results}
use Rattle.numbers.specs.Layouts.{Layout, Reads}

module _ {N : Type 0} {K : Numbers N} (lawful : Lawful K) where
  pub stands_same : {x y : K.exact.Exact} {n : N} → K.exact.same x y → Stands K x n → Stands K y n
  stands_same e h = record { stored = h.stored; same = lawful.laws.same_trans _ _ _ h.same e }

  pub held_same : {x y : K.exact.Exact} → K.exact.same x y → Held K x → Held K y
  held_same e h = (h.0, stands_same e h.1)

  pub answers_same : {E : Type 0} {x y : K.exact.Exact} (r : Result N E) → K.exact.same x y → Answers K x r → Answers K y r
  answers_same (Ok n) e h = stands_same e h
  answers_same (Err d) e h = λ held. h (held_same (lawful.laws.same_sym _ _ e) held)

  pub single : Single K
  single x m n h k = lawful.apart m n h.stored k.stored (lawful.laws.same_trans _ _ _ h.same (lawful.laws.same_sym _ _ k.same))

  pub results : Results K
  results x n h = go (K.result x) refl
    where
      go : (o : Option N) → K.result x ≡ o → K.result x ≡ Some n
      go None e = absurd (lawful.missing x e (n, h))
      go (Some m) e = e ∙ ap Some (single x m n (lawful.found x m e) h)

  pub no_result : (x : K.exact.Exact) → (Held K x → ⊥) → K.result x ≡ None
  no_result x h = go (K.result x) refl
    where
      go : (o : Option N) → K.result x ≡ o → K.result x ≡ None
      go None e = e
      go (Some m) e = absurd (h (m, lawful.found x m e))

-- a row that was made from the bytes, where it passes the test
pub read_tested :
    {N : Type 0} (K : Numbers N) (L : Layout N) (bytes : List ℕ) (n : N) → n ≡ L.row bytes → (test : Bool) → Decides test (K.stored n) →
    length bytes ≡ L.width → Reads K L bytes (then_some test n)
read_tested K L bytes n made true tells e = record { whole = e; is = made; stored = tells.0 refl }
read_tested {N} K L bytes n made false tells e = λ _ s. not_from_Decides false tells refl (subst (λ (m : N). K.stored m) (sym made) s)
