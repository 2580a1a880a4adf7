-- A legal walk and what records make of it are both legal, lead to one triangulation, and lead all values to the same.
use Rattle.std.proofs.Common.{◌≡◌, ℕ, ◌<◌, min, max, Bool, true, false, not, T as Yes, List, [], ◌∷◌, ◌++◌, sym, refl, ap, ◌∙◌, subst, arith}
use Rattle.triangulations.specs.Triangulations.{Triangulation, Lawful, flippable, shares}
use Rattle.triangulations.specs.Steps.{Step, L, R, T, S, Direction, left, right, flip_step, exchanged, inverse, stepped, apply_step, leads, LegalStep, Legal}
use Rattle.triangulations.specs.Meaning.{meant}
use Rattle.triangulations.proofs.Relabellings.{exchanged_own}
use Rattle.triangulations.proofs.Undoing.{with_table, undone, flippable_edge, flipped_twice}
use Rattle.rewriting_records.specs.declared.record.Rewriting.{Rewriting}
use Rattle.exact.specs.Field.{Field, Laws}
use Rattle.exact.proofs.Rearranged.{back, chain}
use Rattle.relations.specs.Pentagons.{Pentagon, five, turns, mixed, followed, swap_and_turns}
use Rattle.relations.specs.Rewritings.{renamed_step, passed, Changes, pair_dropped, pair_put_in, double_joined, double_split, apart, swap_right, turn_right, swap_left, turn_left, pentagon_closed, pentagon_opened, Rewritten, none, then}
use Rattle.relations.specs.Values.{Values, value_step, leads_values, Same}
use Rattle.relations.specs.Theorems.{Agree, RewritingKeeps, CertificateKeeps}
use Rattle.relations.proofs.Walking.{leads-++, legal-++, ++-legal, leads_lawful}
use Rattle.relations.proofs.Renaming.{carry, turn_passes_flip, turn_passes_turn, turn_flippable, before_turn, after_swap, before_swap, renamed_twice}
use Rattle.relations.proofs.Commuting.{flips_commute, e_stays, before_flip}
use Rattle.relations.proofs.PentagonPlaces.{place}
use Rattle.relations.proofs.PentagonTables.{flips_legal, five_lead}
use Rattle.relations.proofs.Valued.{same_of, leads_values_same}
use Rattle.relations.proofs.ValueRelations.{flip_twice, apart_values, carry_values, turn_passes_values}
use Rattle.relations.proofs.PentagonValues.{five_exchange}

values-++ : (F : Field) (p q : List Step) (t : Triangulation) (v : Values F) → leads_values F (p ++ q) t v ≡ leads_values F q (leads p t) (leads_values F p t v)
values-++ F [] q t v = refl
values-++ F (s ∷ p) q t v = values-++ F p q (apply_step s t) (value_step F s t.next v)

turns_legal : (e f : ℕ) (b c : Bool) (t : Triangulation) → e < t.edges → f < t.edges → Legal (turns e f b c) t
turns_legal e f true true t he hf = (he, (hf, tt))
turns_legal e f true false t he hf = tt
turns_legal e f false true t he hf = (hf, tt)
turns_legal e f false false t he hf = (he, tt)

turns_values : (F : Field) (e f : ℕ) (b c : Bool) (t : Triangulation) (v : Values F) → leads_values F (turns e f b c) t v ≡ v
turns_values F e f true true t v = refl
turns_values F e f true false t v = refl
turns_values F e f false true t v = refl
turns_values F e f false false t v = refl

module _ {F : Field} (laws : Laws F) where
  agree_back : {t : Triangulation} {u u' : List Step} → Agree F t u u' → Agree F t u' u
  agree_back a = record { legal = a.legal'; legal' = a.legal; ends = sym a.ends; values = λ v k. back laws (a.values v k) }

  -- two pieces that agree at a place can stand for one another in any legal walk
  agree_within : (p u u' q : List Step) (t : Triangulation) → Agree F (leads p t) u u' → Legal (p ++ (u ++ q)) t → Agree F t (p ++ (u ++ q)) (p ++ (u' ++ q))
  agree_within p u u' q t a h =
      let r = legal-++ p (u ++ q) t h in
      let s = legal-++ u q (leads p t) r.1 in
      record {
        legal = h;
        legal' = ++-legal p (u' ++ q) t r.0 (++-legal u' q (leads p t) a.legal' (subst (Legal q) a.ends s.1));
        ends = leads-++ p (u ++ q) t ∙ (leads-++ u q (leads p t) ∙ (ap (leads q) a.ends ∙ sym (leads-++ p (u' ++ q) t ∙ leads-++ u' q (leads p t))));
        values = λ v k. chain laws (same_of laws (ap (λ (z : Values F). z k) (split v u)))
            (chain laws (leads_values_same laws q (leads u (leads p t)) _ _ (a.values (leads_values F p t v)) k)
            (same_of laws (ap (λ z. leads_values F q z (leads_values F u' (leads p t) (leads_values F p t v)) k) a.ends ∙ ap (λ (z : Values F). z k) (sym (split v u')))));
      }
    where
      split : (v : Values F) (m : List Step) → leads_values F (p ++ (m ++ q)) t v ≡ leads_values F q (leads m (leads p t)) (leads_values F m (leads p t) (leads_values F p t v))
      split v m = values-++ F p (m ++ q) t v ∙ values-++ F m q (leads p t) (leads_values F p t v)

  -- each change of legal steps, at its place
  module _ (t : Triangulation) (law : Lawful t) where
    pair_agree : (s : Step) → LegalStep s t → Agree F t (s ∷ inverse s ∷ []) []
    pair_agree s h = let k = undone s t law h in record { legal = k.0; legal' = tt; ends = k.1; values = go s h }
      where
        go : (s : Step) → LegalStep s t → (v : Values F) → Same F (leads_values F (s ∷ inverse s ∷ []) t v) v
        go (L e) h v = flip_twice laws t law e h v left
        go (R e) h v = flip_twice laws t law e h v right
        go (T e) h v = λ k. laws.same_refl (v k)
        go (S e f) h v = λ k. same_of laws (ap v (exchanged_own e f k))

    double_agree : (e : ℕ) → Yes (flippable t.next e) → Agree F t (L e ∷ L e ∷ []) (T e ∷ [])
    double_agree e h = let k = flipped_twice left e t law h in record { legal = k.0; legal' = (k.1, tt); ends = k.2; values = λ v. flip_twice laws t law e h v left }

    -- two steps for two others
    two_agree : (s s' r r' : Step) → Legal (s ∷ s' ∷ []) t → Legal (r ∷ r' ∷ []) t → stepped s' (stepped s t.next) ≡ stepped r' (stepped r t.next)
        → ((v : Values F) → Same F (leads_values F (s ∷ s' ∷ []) t v) (leads_values F (r ∷ r' ∷ []) t v)) → Agree F t (s ∷ s' ∷ []) (r ∷ r' ∷ [])
    two_agree s s' r r' h h' p q = record { legal = h; legal' = h'; ends = with_table t.edges _ _ p; values = q }

    apart_agree : (w w' : Direction) (e f : ℕ) → Yes (not (shares t.next e f)) → Legal (flip_step w e ∷ flip_step w' f ∷ []) t
        → Agree F t (flip_step w e ∷ flip_step w' f ∷ []) (flip_step w' f ∷ flip_step w e ∷ [])
    apart_agree left left e f far h =
        let k = before_flip t law e f h.0 far left h.1.0 in
        two_agree (L e) (L f) (L f) (L e) h (k, (e_stays t law e f h.0 far k left, tt)) (flips_commute t law e f h.0 far k left left)
        (λ v m. same_of laws (apart_values F t law e f h.0 far k v left left m))
    apart_agree left right e f far h =
        let k = before_flip t law e f h.0 far left h.1.0 in
        two_agree (L e) (R f) (R f) (L e) h (k, (e_stays t law e f h.0 far k right, tt)) (flips_commute t law e f h.0 far k left right)
        (λ v m. same_of laws (apart_values F t law e f h.0 far k v left right m))
    apart_agree right left e f far h =
        let k = before_flip t law e f h.0 far right h.1.0 in
        two_agree (R e) (L f) (L f) (R e) h (k, (e_stays t law e f h.0 far k left, tt)) (flips_commute t law e f h.0 far k right left)
        (λ v m. same_of laws (apart_values F t law e f h.0 far k v right left m))
    apart_agree right right e f far h =
        let k = before_flip t law e f h.0 far right h.1.0 in
        two_agree (R e) (R f) (R f) (R e) h (k, (e_stays t law e f h.0 far k right, tt)) (flips_commute t law e f h.0 far k right right)
        (λ v m. same_of laws (apart_values F t law e f h.0 far k v right right m))

    swap_agree : (e f : ℕ) (s : Step) → e < f → f < t.edges → LegalStep s t → Agree F t (s ∷ S e f ∷ []) (S e f ∷ renamed_step e f s ∷ [])
    swap_agree e f s h k a = two_agree s (S e f) (S e f) (renamed_step e f s) (a, ((h, k), tt)) ((h, k), (after_swap e f h s t k a, tt)) (sym (carry e f s t.next))
        (λ v m. same_of laws (sym (carry_values F e f t.next v s m)))

    turn_agree : (e : ℕ) (s : Step) → Yes (passed s) → e < t.edges → LegalStep s t → Agree F t (s ∷ T e ∷ []) (T e ∷ s ∷ [])
    turn_agree e (L k) p he h = two_agree (L k) (T e) (T e) (L k) (h, (he, tt)) (he, (turn_flippable t law k h e, tt)) (sym (turn_passes_flip t law k h e left))
        (λ v m. back laws (turn_passes_values laws e t.next v k m))
    turn_agree e (R k) p he h = two_agree (R k) (T e) (T e) (R k) (h, (he, tt)) (he, (turn_flippable t law k h e, tt)) (sym (turn_passes_flip t law k h e right))
        (λ v m. back laws (turn_passes_values laws e t.next v k m))
    turn_agree e (T k) p he h = two_agree (T k) (T e) (T e) (T k) (h, (he, tt)) (he, (h, tt)) (sym (turn_passes_turn e k t.next)) (λ v m. laws.same_refl (v m))
    turn_agree e (S k l) p he h = absurd p

    legal_before_turn : (e : ℕ) (s : Step) → Yes (passed s) → e < t.edges → LegalStep s (apply_step (T e) t) → LegalStep s t
    legal_before_turn e (L k) p he h = before_turn t law e k he h
    legal_before_turn e (R k) p he h = before_turn t law e k he h
    legal_before_turn e (T k) p he h = h
    legal_before_turn e (S k l) p he h = absurd p

    pentagon_agree : (e f x y : ℕ) → Pentagon t.next e f x y → Agree F t (five e f) (swap_and_turns e f x y t.next)
    pentagon_agree e f x y at =
        let pl = place t law e f x y at in
        let l = flips_legal t e f x y pl in
        let he = flippable_edge t law e at.e_flips in
        let hf = flippable_edge t law f at.f_flips in
        let d = pl.different in
        record {
          legal = (at.e_flips, (l.0, (l.1, (l.2, (l.3, tt)))));
          legal' = ((omega arith, omega arith), turns_legal e f (followed t.next y x) (mixed x y) _ he hf);
          ends = five_lead t e f x y pl;
          values = λ v k. chain laws (five_exchange F laws t e f x y pl v k)
              (same_of laws (ap (λ (u : Values F). u k) (sym (turns_values F e f (followed t.next y x) (mixed x y) (apply_step (S (min e f) (max e f)) t) (λ m. v (exchanged (min e f) (max e f) m))))));
        }

    changes_agree : {r : Rewriting} {old new : List Step} → Changes t r old new → Legal old t → Agree F t old new
    changes_agree (pair_dropped s) h = pair_agree s h.0
    changes_agree (pair_put_in s k) h = agree_back (pair_agree (meant s) k)
    changes_agree (double_joined e) h = double_agree e h.0
    changes_agree (double_split e k) h = agree_back (double_agree e k)
    changes_agree (apart w w' e f far) h = apart_agree w w' e f far h
    changes_agree (swap_right e f s) h =
        subst (λ r. Agree F t (S e f ∷ r ∷ []) (renamed_step e f s ∷ S e f ∷ [])) (renamed_twice e f s (apply_step (S e f) t) h.1.0)
        (agree_back (swap_agree e f (renamed_step e f s) h.0.0 h.0.1 (before_swap e f h.0.0 s t h.0.1 h.1.0)))
    changes_agree (turn_right e s p) h = agree_back (turn_agree e s p h.0 (legal_before_turn e s p h.0 h.1.0))
    changes_agree (swap_left e f s) h = swap_agree e f s h.1.0.0 h.1.0.1 h.0
    changes_agree (turn_left e s p) h = turn_agree e s p h.1.0 h.0
    changes_agree (pentagon_closed e f x y at) h = pentagon_agree e f x y at
    changes_agree (pentagon_opened e f x y at) h = agree_back (pentagon_agree e f x y at)

  -- the whole walk
  pub rewrites_agree : RewritingKeeps F
  rewrites_agree t law ρ w w' h r =
      let h' : Legal (r.before ++ (r.old ++ r.after)) t = subst (λ u. Legal u t) r.from h in
      let l = legal-++ r.before (r.old ++ r.after) t h' in
      let o = legal-++ r.old r.after (leads r.before t) l.1 in
      let a = agree_within r.before r.old r.new r.after t (changes_agree (leads r.before t) (leads_lawful r.before t law l.0) r.change o.0) h' in
      subst (λ u. Agree F t u w') (sym r.from) (subst (λ u. Agree F t (r.before ++ (r.old ++ r.after)) u) (sym r.to) a)

  pub certificate_agree : CertificateKeeps F
  certificate_agree t law w w' h r = go r
    where
      go : {u : List Step} → Rewritten t w u → Agree F t w u
      go (none w) = record { legal = h; legal' = h; ends = refl; values = λ v k. laws.same_refl _ }
      go (then ρ r s) =
          let a = go r in
          let b = rewrites_agree t law ρ _ _ a.legal' s in
          record { legal = h; legal' = b.legal'; ends = a.ends ∙ b.ends; values = λ v k. chain laws (a.values v k) (b.values v k) }
