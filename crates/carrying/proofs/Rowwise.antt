-- Rows that stand for exact values, and what one step makes of them.
use Rattle.std.proofs.Common.{◌≡◌, ℕ, ◌<◌, cond, eqb, List, length, get_or, set, sym, ap, ◌∙◌, subst, get_or-set_other, get_or-set_same, eq-eqb, ne_eqb}
use native.Mathlib.Decide.{ℕ_discrete}
use Rattle.std.proofs.lemmas.List.{get_or-map, length-set}
use Rattle.numbers.specs.Numbers.{Numbers, Lawful, Stands}
use Rattle.relations.specs.Values.{Values}
use Rattle.carrying.specs.Rows.{worths, Ready, Standing}

module _ {N : Type 0} {K : Numbers N} where
  -- stored rows stand for their own values
  pub standing_self : Lawful K → {n : ℕ} {rows : List N} → Ready K n rows → Standing K n (worths K rows) rows
  standing_self lawful {n} {rows} h = record {
    count = h.count;
    each = λ k d l.
        let m : k < length rows = rw h.count l in
        let P : K.exact.Exact → Type 0 = λ x. K.exact.same (K.value (get_or rows k d)) x in
        record {
          stored = h.stored k d m;
          same = subst P (sym (get_or-map K.value rows k d K.exact.unit m)) (lawful.laws.same_refl _);
        };
  }

  module _ {n : ℕ} {v : Values K.exact} {rows : List N} (h : Standing K n v rows) where
    -- a row that was read
    pub stands_read : (k j : ℕ) (x : N) → j < n → k ≡ j → x ≡ get_or rows k x → Stands K (v j) x
    stands_read k j x l p q =
        let P : N → Type 0 = λ y. Stands K (v j) y in
        subst P (sym (q ∙ ap (λ i. get_or rows i x) p)) (h.each j x l)

    -- a row that is written
    pub standing_set : (e : ℕ) (x : K.exact.Exact) (m : N) → e < n → Stands K x m → Standing K n (λ k. cond (eqb k e) x (v k)) (set rows e m)
    standing_set e x m l s = record { count = length-set rows e m ∙ h.count; each = λ k d q. go k d q (ℕ_discrete k e) }
      where
        within : e < length rows
        within = rw h.count l

        go : (k : ℕ) (d : N) → k < n → Dec (k ≡ e) → Stands K (cond (eqb k e) x (v k)) (get_or (set rows e m) k d)
        go k d q (yes p) = rw (eq-eqb k e p, p, get_or-set_same rows e m d within) s
        go k d q (no p) = rw (ne_eqb k e p, get_or-set_other rows e k m d p) (h.each k d q)
