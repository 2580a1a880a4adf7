-- Steps done one after the other, as far as they are legal.
use Rattle.std.proofs.Common.{◌≡◌, ℕ, ◌+◌, ◌<◌, ◌≤◌, Bool, true, false, if◌then◌else◌, Decides, List, [], ◌∷◌, ◌++◌, map, length, get_or, take, drop, Some, sym, ap, ◌∙◌, subst, arith}
use lib.Dec.{not_T}
use Rattle.std.proofs.lemmas.Bool.Decides.{not_from_Decides}
use Rattle.std.proofs.lemmas.List.{take_more, take_all, drop_more, take-append-drop, get_or-map, length-map, length-take}
use Rattle.triangulations.specs.Triangulations.{Triangulation}
use Rattle.triangulations.specs.Steps.{Step, T, apply_step, leads, LegalStep, Legal}
use Rattle.triangulations.specs.Meaning.{meant}
use Rattle.triangulations.specs.declared.step.Step.{Step as Named}
use Rattle.relations.specs.Judging.{legal, first_illegal, one_more}
use Rattle.relations.proofs.Walking.{leads-++, ++-legal}
use Rattle.relations.proofs.Beginnings.{when_yes, when_no, legal_yes, yes_legal, none_illegal}
use Rattle.rewriting.specs.Replays.{before, reached}

-- a step that is not legal after those that are
illegal_at : (w : List Step) (s : Step) (rest : List Step) (t : Triangulation) → Legal w t → (LegalStep s (leads w t) → ⊥) → first_illegal (w ++ (s ∷ rest)) t ≡ Some (length w)
illegal_at [] s rest t h k = when_no (legal s t) _ _ (not_T _ (λ y. k (yes_legal s t y)))
illegal_at (x ∷ w) s rest t h k = when_yes (legal x t) _ _ (legal_yes x t h.0) ∙ ap one_more (illegal_at w s rest (apply_step x t) h.1 k)

-- the walk w is legal from t, and leads to u
pub record Walked (w : List Step) (t u : Triangulation) : Type 0 where
  pub legal : Legal w t
  pub leads_there : u ≡ leads w t

-- what is told of the whole walk
pub record Told (w : List Step) (t u : Triangulation) (k : ℕ) : Type 0 where
  pub illegal : Some k ≡ first_illegal w t
  pub reached : u ≡ reached w t

module _ (w : List Step) (t u : Triangulation) (k : ℕ) (s : Step) (within : k < length w) (here : get_or w k (T 0) ≡ s) (so_far : Walked (take k w) t u) where
  longer : take (k + 1) w ≡ take k w ++ (s ∷ [])
  longer = take_more w k (T 0) within ∙ ap (λ m. take k w ++ (m ∷ [])) here

  walked : (v : Triangulation) → LegalStep s u → v ≡ apply_step s u → Walked (take (k + 1) w) t v
  walked v h e =
      let P : List Step → Type 0 = λ p. Legal p t in
      let F : Triangulation → Type 0 = λ x. LegalStep s x in
      record {
        legal = subst P (sym longer) (++-legal (take k w) (s ∷ []) t so_far.legal (subst F so_far.leads_there h, tt));
        leads_there = e ∙ (ap (apply_step s) so_far.leads_there ∙ (sym (leads-++ (take k w) (s ∷ []) t) ∙ ap (λ p. leads p t) (sym longer)));
      }

  pub stops : (v : Triangulation) → (LegalStep s u → ⊥) → v ≡ u → Told w t v k
  stops v never e =
      let F : Triangulation → Type 0 = λ x. LegalStep s x in
      let told = sym (ap (λ p. first_illegal p t) parts ∙ (illegal_at (take k w) s (drop (k + 1) w) t so_far.legal (λ h. never (subst F (sym so_far.leads_there) h)) ∙ ap Some long)) in
      record { illegal = told; reached = e ∙ (so_far.leads_there ∙ ap (λ r. leads (before r w) t) told) }
    where
      parts : w ≡ take k w ++ (s ∷ drop (k + 1) w)
      parts = sym (take-append-drop k w) ∙ (ap (λ r. take k w ++ r) (drop_more w k (T 0) within) ∙ ap (λ m. take k w ++ (m ∷ drop (k + 1) w)) here)

      long : length (take k w) ≡ k
      long = length-take k w ∙ omega arith

  -- the step was done, if it is legal
  module _ (v : Triangulation) (b : Bool) (legal : Decides b (LegalStep s u)) (moved : v ≡ (if b then apply_step s u else u)) where
    pub walked_more : b ≡ true → Walked (take (k + 1) w) t v
    walked_more done = walked v (legal.0 done) (moved ∙ ap (λ r. if r then apply_step s u else u) done)

    pub stopped : b ≡ false → Told w t v k
    stopped refused = stops v (not_from_Decides b legal refused) (moved ∙ ap (λ r. if r then apply_step s u else u) refused)

-- all steps are done
pub walked_all : (w : List Step) (t u : Triangulation) (k : ℕ) → length w ≤ k → Walked (take k w) t u → Walked w t u
walked_all w t u k h r = let P : List Step → Type 0 = λ p. Walked p t u in subst P (take_all k w h) r

pub all_reached : (w : List Step) (t u : Triangulation) → Walked w t u → u ≡ reached w t
all_reached w t u h = h.leads_there ∙ ap (λ r. leads (before r w) t) (sym (none_illegal w t h.legal))

pub meant_at : (steps : List Named) (k : ℕ) (d : Named) → k < length steps → get_or (map meant steps) k (T 0) ≡ meant (get_or steps k d)
meant_at steps k d h = get_or-map meant steps k d (T 0) h

pub meant_length : (steps : List Named) → length (map meant steps) ≡ length steps
meant_length steps = length-map steps meant
