-- The pentagon on values: the five flips exchange the values of e and f.
use Rattle.std.proofs.Common.{◌≡◌, ℕ, min, max, Bool, true, false, cond, ◌≢◌, sym, refl, ap, ◌∙◌}
use native.Mathlib.Decide.{ℕ_discrete}
use Rattle.triangulations.specs.Triangulations.{Table, Triangulation, edge_of}
use Rattle.triangulations.specs.Steps.{exchanged}
use Rattle.triangulations.proofs.Frames.{Seen}
use Rattle.triangulations.proofs.Triangles.{each}
use Rattle.triangulations.proofs.Relabellings.{exchanged_first, exchanged_second, exchanged_else}
use Rattle.exact.specs.Field.{Field, Laws}
use Rattle.exact.specs.Flips.{flipped}
use Rattle.exact.proofs.Rearranged.{chain}
use Rattle.relations.specs.Pentagons.{five}
use Rattle.relations.specs.Values.{Values, worth, leads_values, Same}
use Rattle.relations.proofs.Renaming.{exchanged_sorted}
use Rattle.relations.proofs.PentagonPlaces.{Place, e_at, e_to, f_at, f_to}
use Rattle.relations.proofs.PentagonTables.{e_at_below, e_to_below, f_at_below, f_to_below, seen₁, seen₂, seen₃, seen₄}
use Rattle.relations.proofs.Valued.{flip_w, bump, bump_off, Valued, valued_flip, value_at, same_of}
use Rattle.relations.proofs.Cycle.{nine, five_w, five_values}

module _ (F : Field) (laws : Laws F) (t : Triangulation) (e f x y : ℕ) (pl : Place t.next e f x y) (v : Values F) where
  -- the values at the nine names
  abbrev start : Bool → ℕ → F.Exact
  start o = nine o (v e) (v f) (worth F v (pl.φ (cond o 1 2))) (worth F v (pl.φ 4)) (worth F v (pl.φ 5)) (worth F v (pl.φ 7)) (worth F v (pl.φ 8))

  started : Valued F pl.φ 9 (start pl.o) v
  started = go pl.o pl.f_here
    where
      go : (o : Bool) → edge_of (pl.φ (cond o 2 1)) ≡ f → Valued F pl.φ 9 (start o) v
      go true h = each 9 (λ k. worth F v (pl.φ k) ≡ start true k) (((((((((tt, ap v pl.e_here), refl), ap v h), ap v pl.e_there), refl), refl), ap v pl.f_there), refl), refl)
      go false h = each 9 (λ k. worth F v (pl.φ k) ≡ start false k) (((((((((tt, ap v pl.e_here), ap v h), refl), ap v pl.e_there), refl), refl), ap v pl.f_there), refl), refl)

  by_e : (σ : ℕ → ℕ) (u : Table) → Seen pl.φ 9 t.next σ u → (w : ℕ → F.Exact) (z : Values F) → Valued F pl.φ 9 w z
      → Valued F pl.φ 9 (flip_w (flipped F) (e_at pl.a) (e_to pl.a) σ w) (bump F u e z)
  by_e = valued_flip F pl.φ 9 pl.frame.different t.next e _ _ (e_at_below pl.a) (e_to_below pl.a) pl.e₀ pl.e₁

  by_f : (σ : ℕ → ℕ) (u : Table) → Seen pl.φ 9 t.next σ u → (w : ℕ → F.Exact) (z : Values F) → Valued F pl.φ 9 w z
      → Valued F pl.φ 9 (flip_w (flipped F) (f_at pl.o pl.b) (f_to pl.o pl.b) σ w) (bump F u f z)
  by_f = valued_flip F pl.φ 9 pl.frame.different t.next f _ _ (f_at_below pl.o pl.b) (f_to_below pl.o pl.b) pl.f₀ pl.f₁

  abbrev end : Values F
  end = leads_values F (five e f) t v

  ended : Valued F pl.φ 9 (five_w (flipped F) pl.o pl.a pl.b (start pl.o)) end
  ended =
      by_e _ _ (seen₄ t e f x y pl) _ _ (by_f _ _ (seen₃ t e f x y pl) _ _ (by_e _ _ (seen₂ t e f x y pl) _ _
      (by_f _ _ (seen₁ t e f x y pl) _ _ (by_e _ _ pl.frame.seen _ v started))))

  closed : F.same (five_w (flipped F) pl.o pl.a pl.b (start pl.o) (e_at pl.a)) (v f)
      × F.same (five_w (flipped F) pl.o pl.a pl.b (start pl.o) (f_at pl.o pl.b)) (v e)
  closed = five_values F laws (v e) (v f) _ _ _ _ _ pl.o pl.a pl.b

  end_e : F.same (end e) (v f)
  end_e = chain laws
      (same_of laws (value_at F pl.φ 9 pl.frame.different t.next e _ _ (e_at_below pl.a) (e_to_below pl.a) pl.e₀ pl.e₁ _ end ended)) closed.0

  end_f : F.same (end f) (v e)
  end_f = chain laws
      (same_of laws (value_at F pl.φ 9 pl.frame.different t.next f _ _ (f_at_below pl.o pl.b) (f_to_below pl.o pl.b) pl.f₀ pl.f₁ _ end ended)) closed.1

  end_else : (k : ℕ) → k ≢ e → k ≢ f → end k ≡ v k
  end_else k p q = bump_off F _ e _ k p ∙ (bump_off F _ f _ k q ∙ (bump_off F _ e _ k p ∙ (bump_off F _ f _ k q ∙ bump_off F _ e _ k p)))

  pub five_exchange : Same F (leads_values F (five e f) t v) (λ k. v (exchanged (min e f) (max e f) k))
  five_exchange k = chain laws (go (ℕ_discrete k e) (ℕ_discrete k f)) (same_of laws (ap v (sym (exchanged_sorted e f k))))
    where
      go : Dec (k ≡ e) → Dec (k ≡ f) → F.same (end k) (v (exchanged e f k))
      go (yes p) q = chain laws (same_of laws (ap end p)) (chain laws end_e (same_of laws (ap v (sym (exchanged_first e f k p)))))
      go (no p) (yes q) = chain laws (same_of laws (ap end q)) (chain laws end_f (same_of laws (ap v (sym (exchanged_second e f k q)))))
      go (no p) (no q) = same_of laws (end_else k p q ∙ ap v (sym (exchanged_else e f k p q)))
