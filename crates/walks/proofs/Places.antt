-- Elements of a list by their places.
use Rattle.std.proofs.Common.{◌≡◌, ℕ, zero, suc, ◌+◌, ◌<◌, List, [], ◌∷◌, ◌++◌, get_or, take, drop, set, Some, sym, refl, ap, ◌∙◌, add-one, arith}
use Rattle.std.specs.List.{slice_get}
use Rattle.std.proofs.lemmas.Option.{none-some, slice_get_within, get_or_from_slice_get}
use Rattle.std.proofs.lemmas.List.{get_or-take, length-take, set_split}
use Rattle.walks.specs.Walks.{replaced}

module _ {X : Type 0} where
  -- what stands in a front stands in the list, at any default
  pub nth_taken : (n : ℕ) (xs : List X) (i : ℕ) (x d : X) → slice_get (take n xs) i ≡ Some x → get_or xs i d ≡ x
  nth_taken n xs i x d e =
      let within = slice_get_within (take n xs) i x e in
      let h : i < n = omega (arith, simp length-take at within) in
      sym (get_or-take n xs i d h) ∙ get_or_from_slice_get (take n xs) i x d e

  pub one_replaced : (xs : List X) (i : ℕ) (x y : X) → slice_get xs i ≡ Some x → set xs i y ≡ replaced i 1 (y ∷ []) xs
  one_replaced xs i x y e = set_split xs i y (slice_get_within xs i x e) ∙ ap (λ k. take i xs ++ y ∷ drop k xs) (sym (add-one i))

  crossed : (xs : List X) (i : ℕ) (a b : X) → slice_get xs i ≡ Some a → slice_get xs (suc i) ≡ Some b
      → set (set xs i b) (suc i) a ≡ take i xs ++ (b ∷ a ∷ drop (suc (suc i)) xs)
  crossed [] i a b p q = absurd (none-some a p)
  crossed (x ∷ []) zero a b p q = absurd (none-some b q)
  crossed (x ∷ y ∷ xs) zero a b p q = refl
  crossed (x ∷ xs) (suc i) a b p q = ap (λ r. x ∷ r) (crossed xs i a b p q)

  pub two_crossed : (xs : List X) (i : ℕ) (a b : X) → slice_get xs i ≡ Some a → slice_get xs (i + 1) ≡ Some b
      → set (set xs i b) (i + 1) a ≡ replaced i 2 (b ∷ a ∷ []) xs
  two_crossed xs i a b p q =
      let s : i + 1 ≡ suc i = add-one i in
      let q2 : slice_get xs (suc i) ≡ Some b = ap (slice_get xs) (sym s) ∙ q in
      let t : suc (suc i) ≡ i + 2 = omega arith in
      ap (λ k. set (set xs i b) k a) s ∙ crossed xs i a b p q2 ∙ ap (λ k. take i xs ++ (b ∷ a ∷ drop k xs)) t
