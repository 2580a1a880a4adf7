-- A walk that rows are carried along, one step at a time.
use Rattle.std.proofs.Common.{◌≡◌, ℕ, zero, suc, ◌+◌, List, [], ◌∷◌, ◌++◌, length, take, Some, Err, sym, refl, ap, ◌∙◌, subst, add-one, arith}
use Rattle.std.specs.List.{slice_get}
use Rattle.triangulations.specs.Triangulations.{Triangulation}
use Rattle.triangulations.specs.Steps.{apply_step, leads, Legal, LegalStep}
use Rattle.triangulations.specs.Steps.{Step as Move}
use Rattle.exact.specs.Field.{Field}
use Rattle.numbers.specs.Numbers.{Numbers}
use Rattle.relations.specs.Values.{Values, value_step, leads_values}
use Rattle.carrying.specs.declared.refusal.CarryRefusal.{CarryRefusal}
use Rattle.carrying.specs.declared.refusal.CarryRefusal.TheVariants.{RowCount, NotStored, NoStoredResult, NotLegal}
use Rattle.carrying.specs.Rows.{worths, Standing}
use Rattle.carrying.specs.Results.{StepHeld, WalkHeld}
use Rattle.carrying.specs.Carrying.{Granted, Halted, Illegal, Carries}
use Rattle.carrying.specs.Stepping.{Stepped, Steps}

-- the front of a list, with the next element
take_next : {X : Type 0} (xs : List X) (k : ℕ) (x : X) → slice_get xs k ≡ Some x → take (suc k) xs ≡ take k xs ++ (x ∷ [])
take_next [] k x e = let z : ◌≡◌ {A = ℕ} 0 1 = cc in absurd (omega arith)
take_next (y ∷ ys) zero x e = cc
take_next (y ∷ ys) (suc k) x e = ap (λ zs. y ∷ zs) (take_next ys k x e)

longer : {X : Type 0} (xs : List X) (k : ℕ) (x : X) → slice_get xs k ≡ Some x → take (k + 1) xs ≡ take k xs ++ (x ∷ [])
longer xs k x e = ap (λ n. take n xs) (add-one k) ∙ take_next xs k x e

-- a walk with one more step
leads_more : (w : List Move) (s : Move) (t : Triangulation) → leads (w ++ (s ∷ [])) t ≡ apply_step s (leads w t)
leads_more [] s t = refl
leads_more (r ∷ w) s t = leads_more w s (apply_step r t)

leads_edges : (w : List Move) (t : Triangulation) → (leads w t).edges ≡ t.edges
leads_edges [] t = refl
leads_edges (s ∷ w) t = leads_edges w (apply_step s t)

legal_more : (w : List Move) (s : Move) (t : Triangulation) → Legal w t → LegalStep s (leads w t) → Legal (w ++ (s ∷ [])) t
legal_more [] s t h l = (l, tt)
legal_more (r ∷ w) s t h l = (h.0, legal_more w s (apply_step r t) h.1 l)

values_more : (F : Field) (w : List Move) (s : Move) (t : Triangulation) (v : Values F)
    → leads_values F (w ++ (s ∷ [])) t v ≡ value_step F s (leads w t).next (leads_values F w t v)
values_more F [] s t v = refl
values_more F (r ∷ w) s t v = values_more F w s (apply_step r t) (value_step F r t.next v)

held_more : {N : Type 0} (K : Numbers N) (w : List Move) (s : Move) (t : Triangulation) (v : Values K.exact)
    → WalkHeld K w t v → StepHeld K s (leads w t).next (leads_values K.exact w t v) → WalkHeld K (w ++ (s ∷ [])) t v
held_more K [] s t v h l = (l, tt)
held_more K (r ∷ w) s t v h l = (h.0, held_more K w s (apply_step r t) (value_step K.exact r t.next v) h.1 l)

module _ {N : Type 0} (K : Numbers N) (w : List Move) (t : Triangulation) (before : List N) where
  -- the first k steps are granted, and lead to u
  pub record Going (k : ℕ) (u : Triangulation) (rows : List N) : Type 0 where
    pub granted : Granted K (take k w) t before rows
    pub reached : u ≡ leads (take k w) t

  module _ (k : ℕ) (u : Triangulation) (rows : List N) (g : Going k u rows) where
    pub going_count : length rows ≡ u.edges
    going_count = g.granted.rows.count ∙ sym (ap (λ (x : Triangulation). x.edges) g.reached ∙ leads_edges (take k w) t)

    standing_here : Standing K (leads (take k w) t).edges (leads_values K.exact (take k w) t (worths K before)) rows
    standing_here =
        let P : ℕ → Type 0 = λ n. Standing K n (leads_values K.exact (take k w) t (worths K before)) rows in
        subst P (sym (leads_edges (take k w) t)) g.granted.rows

    granted_by : (next : List N) → next ≡ rows → Granted K (take k w) t before next
    granted_by next e = let P : List N → Type 0 = λ r. Granted K (take k w) t before r in subst P (sym e) g.granted

    module _ (s : Move) (there : slice_get w k ≡ Some s) where
      one_more : (u' : Triangulation) (next : List N) → Stepped K s (leads (take k w) t) u' rows next
          → Granted K (take k w ++ (s ∷ [])) t before next × (u' ≡ leads (take k w ++ (s ∷ [])) t)
      one_more u' next h =
          let P : ℕ → Type 0 = λ n. Standing K n (value_step K.exact s (leads (take k w) t).next (leads_values K.exact (take k w) t (worths K before))) next in
          let Q : Values K.exact → Type 0 = λ v. Standing K t.edges v next in (
            record {
              ready = g.granted.ready;
              legal = legal_more (take k w) s t g.granted.legal h.legal;
              held = held_more K (take k w) s t (worths K before) g.granted.held (h.held _ standing_here);
              rows = subst Q (sym (values_more K.exact (take k w) s t (worths K before))) (subst P (leads_edges (take k w) t) (h.rows _ standing_here));
            },
            h.moved ∙ sym (leads_more (take k w) s t),
          )

      pub going_more : (u' : Triangulation) (next : List N) → Stepped K s u u' rows next → Going (k + 1) u' next
      going_more u' next h =
          let P : Triangulation → Type 0 = λ x. Stepped K s x u' rows next in
          let Q : List Move → Type 0 = λ p. Granted K p t before next × (u' ≡ leads p t) in
          let r = subst Q (sym (longer w k s there)) (one_more u' next (subst P g.reached h)) in
          record { granted = r.0; reached = r.1 }

      -- a step that is refused
      refused_there : (u' : Triangulation) (next : List N) (f : CarryRefusal)
          → Steps K {U = Unit {0}} k s (leads (take k w) t) u' rows next (Err f) → Carries K {U = Unit {0}} w t before next (Err f)
      refused_there u' next (RowCount n) h = absurd h
      refused_there u' next (NotStored f) h = absurd h
      refused_there u' next (NoStoredResult f) h =
          let b = h.blocked _ standing_here in
          let P : ℕ → Type 0 = λ j. Halted K w t before next j f.fault.operation in
          subst P (sym b.0) (record {
            step = s;
            there = there;
            reached = granted_by next h.kept;
            legal = h.legal;
            blocked = b.1;
          })
      refused_there u' next (NotLegal j) h =
          let P : ℕ → Type 0 = λ j. Illegal K w t before next j in
          subst P (sym h.0) (record { step = s; there = there; reached = granted_by next h.2; illegal = h.1 })

      pub going_refused : (u' : Triangulation) (next : List N) (f : CarryRefusal)
          → Steps K {U = Unit {0}} k s u u' rows next (Err f) → Carries K {U = Unit {0}} w t before next (Err f)
      going_refused u' next f h =
          let P : Triangulation → Type 0 = λ x. Steps K {U = Unit {0}} k s x u' rows next (Err f) in
          refused_there u' next f (subst P g.reached h)
