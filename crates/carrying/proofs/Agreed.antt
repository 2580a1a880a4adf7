-- Rows that stand for the same exact values are equal.
use Rattle.std.proofs.Common.{ℕ, ◌<◌, sym, ◌∙◌, subst}
use Rattle.std.proofs.lemmas.List.{same_lists}
use Rattle.numbers.specs.Numbers.{Numbers, Lawful}
use Rattle.numbers.proofs.Answered.{stands_same, single}
use Rattle.relations.proofs.Keeping.{certificate_agree}
use Rattle.carrying.specs.Theorems.{Settled, RowsAgree}

module _ {N : Type 0} {K : Numbers N} (lawful : Lawful K) where
  pub settled : Settled K
  settled n v v' a b h l same = same_lists a b (h.count ∙ sym l.count) (λ k d q.
      let P : ℕ → Type 0 = λ m. k < m in
      let r = subst P h.count q in
      single lawful (v' k) _ _ (stands_same lawful (same k) (h.each k d r)) (l.each k d r))

  pub rows_agree : RowsAgree K
  rows_agree t law w w' legal rewritten before a b h l =
      settled t.edges _ _ a b h.rows l.rows ((certificate_agree lawful.laws t law w w' legal rewritten).values _)
