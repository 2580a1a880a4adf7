-- The label steps undo themselves and keep the laws.
use Rattle.std.proofs.lemmas.Option.{same_Some}
use Rattle.std.proofs.Common.{◌≡◌, ℕ, ◌+◌, ◌*◌, ◌<◌, ◌⊎◌, Some, None, Option, sym, refl, ap, ◌∙◌, subst, inl, inr, arith}
use native.Mathlib.Decide.{ℕ_discrete}
use Rattle.triangulations.specs.Triangulations.{Table, Triangulation, Lawful, edge_of}
use Rattle.triangulations.specs.Steps.{renamed, turn, exchanged, swap, relabelled, Step, L, R, T, S, stepped, apply_step, LegalStep}
use Rattle.triangulations.proofs.Triangles.{turn_even, turn_odd, turn_else}
use Rattle.triangulations.proofs.Flips.{some_none, L_lawful, R_lawful}
use Rattle.triangulations.proofs.Relabellings.{Own, relabelled_twice, exchanged_own, exchanged_below, swap_own, swap_even, swap_odd, swap_edge, turn_own, turn_edge}

pub turn_twice : (e : ℕ) (t : Table) → stepped (T e) (stepped (T e) t) ≡ t
turn_twice e t = relabelled_twice (turn e) (turn_own e) t

pub swap_twice : (e f : ℕ) (t : Table) → stepped (S e f) (stepped (S e f) t) ≡ t
swap_twice e f t = relabelled_twice (swap e f) (swap_own e f) t

-- π takes the darts of each edge below n to those of an edge below n
pub Keeps : (ℕ → ℕ) → ℕ → Type 0
Keeps π n = (k : ℕ) → k < n → (l : ℕ) × (l < n) × (((π (2 * k) ≡ 2 * l) × (π (2 * k + 1) ≡ 2 * l + 1)) ⊎ ((π (2 * k) ≡ 2 * l + 1) × (π (2 * k + 1) ≡ 2 * l)))

module _ (π : ℕ → ℕ) (own : Own π) (t : Table) where
  renamed_none : (r : Option ℕ) → renamed π r ≡ None → r ≡ None
  renamed_none None e = refl
  renamed_none (Some x) e = absurd (some_none (π x) e)

  renamed_some : (r : Option ℕ) (a : ℕ) → renamed π r ≡ Some a → r ≡ Some (π a)
  renamed_some None a e = absurd (some_none a (sym e))
  renamed_some (Some x) a e = ap Some (sym (own x) ∙ ap π (same_Some (π x) a e))

  -- a dart before, from one after
  pub was : (d a : ℕ) → relabelled π t d ≡ Some a → t (π d) ≡ Some (π a)
  unfolding relabelled
  was d a e = renamed_some (t (π d)) a e

  pub is_at : (d a : ℕ) → t (π d) ≡ Some a → relabelled π t d ≡ Some (π a)
  unfolding relabelled
  is_at d a e = ap (renamed π) e

  pub was_none : (d : ℕ) → relabelled π t d ≡ None → t (π d) ≡ None
  unfolding relabelled
  was_none d e = renamed_none (t (π d)) e

pub relabelled_lawful : (π : ℕ → ℕ) → Own π → (t : Triangulation) → Lawful t → Keeps π t.edges
    → ((d : ℕ) → π d < 2 * t.edges → d < 2 * t.edges) → Lawful (record { edges = t.edges; next = relabelled π t.next })
unfolding Keeps
relabelled_lawful π own t law keeps bound = record {
  follows = λ d a e. (π (law.follows _ _ (was π own t.next d a e)).0, is_at π own t.next a _ (law.follows _ _ (was π own t.next d a e)).1);
  moves = λ d e. law.moves (π d) (was π own t.next d d e);
  round = λ d a b e f. is_at π own t.next b _ (law.round _ _ _ (was π own t.next d a e) (was π own t.next a b f)) ∙ ap Some (own d);
  covered = λ e h p q. cover e h (was_none π own t.next _ p) (was_none π own t.next _ q) (keeps e h);
  bounded = λ d a e. bound d (law.bounded (π d) _ (was π own t.next d a e));
}
  where
    cover : (e : ℕ) → e < t.edges → t.next (π (2 * e)) ≡ None → t.next (π (2 * e + 1)) ≡ None
        → (l : ℕ) × (l < t.edges) × (((π (2 * e) ≡ 2 * l) × (π (2 * e + 1) ≡ 2 * l + 1)) ⊎ ((π (2 * e) ≡ 2 * l + 1) × (π (2 * e + 1) ≡ 2 * l))) → ⊥
    cover e h p q (l, k, inl (a, b)) = law.covered l k (ap t.next (sym a) ∙ p) (ap t.next (sym b) ∙ q)
    cover e h p q (l, k, inr (a, b)) = law.covered l k (ap t.next (sym b) ∙ q) (ap t.next (sym a) ∙ p)

pub T_lawful : (t : Triangulation) → Lawful t → (e : ℕ) → Lawful (apply_step (T e) t)
unfolding Keeps
T_lawful t law e = relabelled_lawful (turn e) (turn_own e) t law keeps bound
  where
    keeps : Keeps (turn e) t.edges
    keeps k h = go (ℕ_discrete k e)
      where
        go : Dec (k ≡ e) → (l : ℕ) × (l < t.edges) × (((turn e (2 * k) ≡ 2 * l) × (turn e (2 * k + 1) ≡ 2 * l + 1)) ⊎ ((turn e (2 * k) ≡ 2 * l + 1) × (turn e (2 * k + 1) ≡ 2 * l)))
        go (yes p) = (k, h, inr (ap (λ m. turn m (2 * k)) (sym p) ∙ turn_even k, ap (λ m. turn m (2 * k + 1)) (sym p) ∙ turn_odd k))
        go (no p) = (k, h, inl (turn_else e (2 * k) (λ q. omega arith) (λ q. omega arith), turn_else e (2 * k + 1) (λ q. omega arith) (λ q. omega arith)))

    bound : (d : ℕ) → turn e d < 2 * t.edges → d < 2 * t.edges
    bound d h = let q = turn_edge e d in omega arith

pub S_lawful : (t : Triangulation) → Lawful t → (e f : ℕ) → e < t.edges → f < t.edges → Lawful (apply_step (S e f) t)
unfolding Keeps
S_lawful t law e f he hf = relabelled_lawful (swap e f) (swap_own e f) t law
    (λ k h. (exchanged e f k, exchanged_below e f k t.edges he hf h, inl (swap_even e f k, swap_odd e f k))) bound
  where
    edge_bound : (d : ℕ) → swap e f d < 2 * t.edges → exchanged e f (edge_of d) < t.edges
    edge_bound d h = let q = swap_edge e f d in omega arith

    bound : (d : ℕ) → swap e f d < 2 * t.edges → d < 2 * t.edges
    bound d h =
        let q : edge_of d < t.edges = subst (λ k. k < t.edges) (exchanged_own e f (edge_of d)) (exchanged_below e f (exchanged e f (edge_of d)) t.edges he hf (edge_bound d h)) in
        omega arith

-- each step that is legal keeps the law
pub step_lawful : (s : Step) (t : Triangulation) → Lawful t → LegalStep s t → Lawful (apply_step s t)
step_lawful (L e) t law h = L_lawful t law e h
step_lawful (R e) t law h = R_lawful t law e h
step_lawful (T e) t law h = T_lawful t law e
step_lawful (S e f) t law h = S_lawful t law e f (let a = h.0 in let b = h.1 in omega arith) h.1
