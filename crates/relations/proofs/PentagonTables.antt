-- The pentagon on tables: the five flips are legal, and lead where the swap and the turns lead.
use Rattle.std.proofs.Math.Facts.{and_yes}
use Rattle.std.proofs.Common.{◌≡◌, ℕ, ◌<◌, min, max, Bool, true, false, cond, not, ◌&&◌, T as Yes, eqb, ◌∷◌, sym, ◌∙◌, subst, lit<}
use Rattle.triangulations.specs.Triangulations.{Table, Triangulation, flippable}
use Rattle.triangulations.specs.Steps.{left, L, T, S, stepped, leads}
use Rattle.triangulations.specs.Stored.{all_below}
use Rattle.triangulations.proofs.Frames.{Seen, flip, cond_below, same_below, seen_same}
use Rattle.triangulations.proofs.Pairs.{exch, seen_step_flip, seen_turn}
use Rattle.triangulations.proofs.Flips.{tog, seen_flippable}
use Rattle.triangulations.proofs.Undoing.{with_table}
use Rattle.relations.specs.Pentagons.{five, turns, swap_and_turns}
use Rattle.relations.proofs.Triples.{σ₉, exch₂, seen_swap}
use Rattle.relations.proofs.Renaming.{sorted}
use Rattle.relations.proofs.PentagonPlaces.{Place, e_at, e_to, f_at, f_to}

-- a test in each of the eight cases
abbrev both : (Bool → Bool) → Bool
both p = p true && p false

both_at : (p : Bool → Bool) → Yes (both p) → (b : Bool) → Yes (p b)
both_at p h true = (and_yes (p true) (p false) h).0
both_at p h false = (and_yes (p true) (p false) h).1

eight : (p : Bool → Bool → Bool → Bool) → Yes (both (λ o. both (λ a. both (p o a)))) → (o a b : Bool) → Yes (p o a b)
eight p h o a b = both_at (p o a) (both_at (λ a. both (p o a)) (both_at (λ o. both (λ a. both (p o a))) h o) a) b

pub e_at_below : (a : Bool) → e_at a < 9
e_at_below a = cond_below a 9 0 3 (lit< tt) (lit< tt)

pub e_to_below : (a : Bool) → e_to a < 9
e_to_below a = cond_below a 9 3 0 (lit< tt) (lit< tt)

pub f_at_below : (o b : Bool) → f_at o b < 9
f_at_below o b = cond_below b 9 (cond o 2 1) 6 (cond_below o 9 2 1 (lit< tt) (lit< tt)) (lit< tt)

pub f_to_below : (o b : Bool) → f_to o b < 9
f_to_below o b = cond_below b 9 6 (cond o 2 1) (lit< tt) (cond_below o 9 2 1 (lit< tt) (lit< tt))

-- the flips, closed
module _ (o a b : Bool) where
  abbrev flip_e : (ℕ → ℕ) → ℕ → ℕ
  flip_e = flip left (e_at a) (e_to a)

  abbrev flip_f : (ℕ → ℕ) → ℕ → ℕ
  flip_f = flip left (f_at o b) (f_to o b)

  abbrev pub s₁ : ℕ → ℕ
  s₁ = flip_e σ₉

  abbrev pub s₂ : ℕ → ℕ
  s₂ = flip_f s₁

  abbrev pub s₃ : ℕ → ℕ
  s₃ = flip_e s₂

  abbrev pub s₄ : ℕ → ℕ
  s₄ = flip_f s₃

  abbrev swap_σ : ℕ → ℕ
  swap_σ k = exch₂ (e_at a) (e_to a) (f_at o b) (f_to o b) (σ₉ (exch₂ (e_at a) (e_to a) (f_at o b) (f_to o b) k))

  abbrev turn_e_σ : (ℕ → ℕ) → ℕ → ℕ
  turn_e_σ σ k = exch (e_at a) (e_to a) (σ (exch (e_at a) (e_to a) k))

  abbrev turn_f_σ : (ℕ → ℕ) → ℕ → ℕ
  turn_f_σ σ k = exch (f_at o b) (f_to o b) (σ (exch (f_at o b) (f_to o b) k))

  -- the swap and the turns, as `turns` lists them
  abbrev turned_σ : Bool → Bool → ℕ → ℕ
  turned_σ true true = turn_f_σ (turn_e_σ swap_σ)
  turned_σ true false = swap_σ
  turned_σ false true = turn_f_σ swap_σ
  turned_σ false false = turn_e_σ swap_σ

-- the five flips are what the swap and the turns are, on the nine names
abbrev alike : Bool → Bool → Bool → Bool
alike o a b = all_below 9 (λ k. eqb (flip_e o a b (s₄ o a b) k) (turned_σ o a b o (not (eqb (cond a 0 1) (cond b 0 1))) k))

module _ (t : Triangulation) (e f x y : ℕ) (pl : Place t.next e f x y) where
  abbrev Now : (ℕ → ℕ) → Table → Type 0
  Now σ u = Seen pl.φ 9 t.next σ u

  by_e : (σ : ℕ → ℕ) (u : Table) → Now σ u → Now (flip_e pl.o pl.a pl.b σ) (stepped (L e) u)
  by_e σ u v = seen_step_flip pl.φ 9 pl.frame.different t.next pl.frame.far e _ _ (e_at_below pl.a) (e_to_below pl.a) pl.e₀ pl.e₁ left σ u v

  by_f : (σ : ℕ → ℕ) (u : Table) → Now σ u → Now (flip_f pl.o pl.a pl.b σ) (stepped (L f) u)
  by_f σ u v = seen_step_flip pl.φ 9 pl.frame.different t.next pl.frame.far f _ _ (f_at_below pl.o pl.b) (f_to_below pl.o pl.b) pl.f₀ pl.f₁ left σ u v

  turn_e : (σ : ℕ → ℕ) (u : Table) → Now σ u → Now (turn_e_σ pl.o pl.a pl.b σ) (stepped (T e) u)
  turn_e σ u v = seen_turn pl.φ 9 pl.frame.different t.next pl.frame.far e _ _ (e_at_below pl.a) (e_to_below pl.a) pl.e₀ pl.e₁ σ u v

  turn_f : (σ : ℕ → ℕ) (u : Table) → Now σ u → Now (turn_f_σ pl.o pl.a pl.b σ) (stepped (T f) u)
  turn_f σ u v = seen_turn pl.φ 9 pl.frame.different t.next pl.frame.far f _ _ (f_at_below pl.o pl.b) (f_to_below pl.o pl.b) pl.f₀ pl.f₁ σ u v

  swapped : Now (swap_σ pl.o pl.a pl.b) (stepped (S (min e f) (max e f)) t.next)
  swapped = subst (Now (swap_σ pl.o pl.a pl.b)) (sym (sorted e f t.next))
      (seen_swap pl.φ 9 pl.frame.different t.next pl.frame.far
      e _ _ (e_at_below pl.a) (e_to_below pl.a) pl.e₀ pl.e₁ f _ _ (f_at_below pl.o pl.b) (f_to_below pl.o pl.b) pl.f₀ pl.f₁
      σ₉ t.next pl.frame.seen)

  -- the tables after one, two, three and four flips
  abbrev t₁ : Table
  t₁ = stepped (L e) t.next

  abbrev t₂ : Table
  t₂ = stepped (L f) t₁

  abbrev t₃ : Table
  t₃ = stepped (L e) t₂

  abbrev t₄ : Table
  t₄ = stepped (L f) t₃

  pub seen₁ : Now (s₁ pl.o pl.a pl.b) t₁
  seen₁ = by_e _ _ pl.frame.seen

  pub seen₂ : Now (s₂ pl.o pl.a pl.b) t₂
  seen₂ = by_f _ _ seen₁

  pub seen₃ : Now (s₃ pl.o pl.a pl.b) t₃
  seen₃ = by_e _ _ seen₂

  pub seen₄ : Now (s₄ pl.o pl.a pl.b) t₄
  seen₄ = by_f _ _ seen₃

  can_e : (σ : ℕ → ℕ) (u : Table) → Now σ u → Yes (not (tog σ (e_at pl.a) (e_to pl.a))) → Yes (flippable u e)
  can_e σ u v h = subst Yes (sym (seen_flippable pl.φ 9 pl.frame.different t.next σ u v e _ _ (e_at_below pl.a) (e_to_below pl.a) pl.e₀ pl.e₁)) h

  can_f : (σ : ℕ → ℕ) (u : Table) → Now σ u → Yes (not (tog σ (f_at pl.o pl.b) (f_to pl.o pl.b))) → Yes (flippable u f)
  can_f σ u v h = subst Yes (sym (seen_flippable pl.φ 9 pl.frame.different t.next σ u v f _ _ (f_at_below pl.o pl.b) (f_to_below pl.o pl.b) pl.f₀ pl.f₁)) h

  pub flips_legal : Yes (flippable t₁ f) × Yes (flippable t₂ e) × Yes (flippable t₃ f) × Yes (flippable t₄ e)
  flips_legal = (
    can_f _ _ seen₁ (eight (λ o a b. not (tog (s₁ o a b) (f_at o b) (f_to o b))) tt pl.o pl.a pl.b),
    can_e _ _ seen₂ (eight (λ o a b. not (tog (s₂ o a b) (e_at a) (e_to a))) tt pl.o pl.a pl.b),
    can_f _ _ seen₃ (eight (λ o a b. not (tog (s₃ o a b) (f_at o b) (f_to o b))) tt pl.o pl.a pl.b),
    can_e _ _ seen₄ (eight (λ o a b. not (tog (s₄ o a b) (e_at a) (e_to a))) tt pl.o pl.a pl.b),
  )

  -- the table after all five is the one after the swap and the turns
  closed : (σ : ℕ → ℕ) (u : Table) → Now σ u → Yes (all_below 9 (λ k. eqb (flip_e pl.o pl.a pl.b (s₄ pl.o pl.a pl.b) k) (σ k))) → stepped (L e) t₄ ≡ u
  closed σ u v h = seen_same pl.φ 9 pl.frame.different t.next _ σ _ u (same_below 9 _ σ h) (by_e _ _ seen₄) v

  by_turns : (o c : Bool) → Yes (all_below 9 (λ k. eqb (flip_e pl.o pl.a pl.b (s₄ pl.o pl.a pl.b) k) (turned_σ pl.o pl.a pl.b o c k)))
      → leads (five e f) t ≡ leads (S (min e f) (max e f) ∷ turns e f o c) t
  by_turns true true h = with_table t.edges _ _ (closed _ _ (turn_f _ _ (turn_e _ _ swapped)) h)
  by_turns true false h = with_table t.edges _ _ (closed _ _ swapped h)
  by_turns false true h = with_table t.edges _ _ (closed _ _ (turn_f _ _ swapped) h)
  by_turns false false h = with_table t.edges _ _ (closed _ _ (turn_e _ _ swapped) h)

  pub five_lead : leads (five e f) t ≡ leads (swap_and_turns e f x y t.next) t
  five_lead =
      by_turns pl.o _ (eight alike tt pl.o pl.a pl.b)
      ∙ (λ i. leads (S (min e f) (max e f) ∷ turns e f (sym pl.order i) (sym pl.parity i)) t)
