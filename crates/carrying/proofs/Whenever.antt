-- No refusal fits rows that are ready, a legal walk and exact results that all have stored numbers.
use Rattle.std.proofs.Common.{◌≡◌, ℕ, zero, suc, ◌<◌, List, [], ◌∷◌, length, take, Some, Ok, Err, refl, ◌∙◌, subst, arith}
use Rattle.std.specs.List.{slice_get}
use Rattle.triangulations.specs.Triangulations.{Table, Triangulation}
use Rattle.triangulations.specs.Steps.{L, R, T, S, apply_step, leads, Legal, LegalStep}
use Rattle.triangulations.specs.Steps.{Step as Move}
use Rattle.numbers.specs.Numbers.{Numbers}
use Rattle.numbers.specs.declared.fault.Operation.{Operation}
use Rattle.numbers.specs.declared.fault.Operation.TheVariants.{FirstProduct, SecondProduct, Sum, Quotient}
use Rattle.relations.specs.Values.{Values, value_step, leads_values}
use Rattle.carrying.specs.declared.refusal.CarryRefusal.TheVariants.{RowCount, NotStored, NoStoredResult, NotLegal}
use Rattle.carrying.specs.Rows.{worths}
use Rattle.carrying.specs.Results.{ResultHeld, FlipBlocked, StepHeld, StepBlocked, WalkHeld}
use Rattle.carrying.specs.Theorems.{GrantedWhenever}

legal_at : (w : List Move) (t : Triangulation) (k : ℕ) (s : Move) → slice_get w k ≡ Some s → Legal w t → LegalStep s (leads (take k w) t)
legal_at [] t k s e h = let z : ◌≡◌ {A = ℕ} 0 1 = cc in absurd (omega arith)
legal_at (r ∷ w) t zero s e h = let P : Move → Type 0 = λ m. LegalStep m t in let p : r ≡ s = cc in subst P p h.0
legal_at (r ∷ w) t (suc k) s e h = legal_at w (apply_step r t) k s e h.1

some_of : {X : Type 0} (xs : List X) (k : ℕ) → k < length xs → X
some_of [] k h = absurd (omega arith)
some_of (x ∷ xs) k h = x

module _ {N : Type 0} (K : Numbers N) where
  held_at : (w : List Move) (t : Triangulation) (v : Values K.exact) (k : ℕ) (s : Move) → slice_get w k ≡ Some s → WalkHeld K w t v
      → StepHeld K s (leads (take k w) t).next (leads_values K.exact (take k w) t v)
  held_at [] t v k s e h = let z : ◌≡◌ {A = ℕ} 0 1 = cc in absurd (omega arith)
  held_at (r ∷ w) t v zero s e h = let P : Move → Type 0 = λ m. StepHeld K m t.next v in let p : r ≡ s = cc in subst P p h.0
  held_at (r ∷ w) t v (suc k) s e h = held_at w (apply_step r t) (value_step K.exact r t.next v) k s e h.1

  flip_passes : (t : Table) (e : ℕ) (v : Values K.exact) (o : Operation) → ((p : Operation) → ResultHeld K t e v p) → FlipBlocked K t e v o → ⊥
  flip_passes t e v FirstProduct h b = b (h FirstProduct)
  flip_passes t e v SecondProduct h b = b.1 (h SecondProduct)
  flip_passes t e v Sum h b = b.2 (h Sum)
  flip_passes t e v Quotient h b = b.3 (h Quotient)

  step_passes : (s : Move) (t : Table) (v : Values K.exact) (o : Operation) → StepHeld K s t v → StepBlocked K s t v o → ⊥
  step_passes (L e) t v o h b = flip_passes t e v o h b
  step_passes (R e) t v o h b = flip_passes t e v o h b
  step_passes (T e) t v o h b = b
  step_passes (S e f) t v o h b = b

  pub granted_whenever : GrantedWhenever K
  granted_whenever w t before after (Ok u) c ready legal held = refl
  granted_whenever w t before after (Err (RowCount n)) c ready legal held = absurd (c.0.wrong (c.0.count ∙ ready.count))
  granted_whenever w t before after (Err (NotStored f)) c ready legal held =
      let d = some_of before f.index c.1.0 in
      absurd (c.1.2 d (ready.stored f.index d c.1.0))
  granted_whenever w t before after (Err (NoStoredResult f)) c ready legal held =
      absurd (step_passes c.step _ _ f.fault.operation (held_at w t (worths K before) f.step c.step c.there held) c.blocked)
  granted_whenever w t before after (Err (NotLegal k)) c ready legal held = absurd (c.illegal (legal_at w t k c.step c.there legal))
