-- A part of a list taken out, or put in, by copying what stands behind it.
use Rattle.std.proofs.Common.{◌≡◌, ℕ, ◌+◌, ◌-◌, ◌≤◌, List, ◌++◌, length, take, drop, sym, refl, ap, ◌∙◌, arith}
use Rattle.std.specs.List.{copy_within}
use Rattle.std.proofs.Math.Seq.{take-append-add}
use Rattle.std.proofs.lemmas.List.{take_at, take-take, take-append-le, drop_at, append_assoc, length-append, length-take-le, length-drop}
use Rattle.std.proofs.lemmas.List.Edits.{paste_all, take-paste, length-paste}
use Rattle.std.proofs.lemmas.Slice.{between_is, put_mid-paste}
use borrow.Rule.Slice.PartMut.{put_mid}
use Rattle.walks.specs.Walks.{replaced}

module _ {X : Type 0} (xs : List X) (at : ℕ) where
  -- what stands behind k elements is copied over them
  pub closed_up : (n k : ℕ) → at + k ≤ n → n ≤ length xs
      → take (n - k) (copy_within xs (at + k) n at) ≡ take at (take n xs) ++ drop (at + k) (take n xs)
  closed_up n k h g =
      let s : n - k ≡ at + (n - (at + k)) = omega arith in
      let l : length (drop (at + k) xs) ≡ length xs - (at + k) = length-drop (at + k) xs in
      ap (λ m. take m (copy_within xs (at + k) n at)) s
      ∙ take-paste xs at (drop (at + k) xs) (n - (at + k)) (omega arith) (omega arith)
      ∙ ap (λ q. take at xs ++ q) (between_is xs (at + k) n)
      ∙ ap (λ q. q ++ drop (at + k) (take n xs)) (sym (take-take at n xs (omega arith)))

  -- what stands behind the place is copied on, and the new elements stand in the room that this makes
  pub put_between : (n m : ℕ) (new ys written : List X) → at ≤ n → n + length new ≤ length xs → ys ≡ copy_within xs at n (at + length new)
      → written ≡ new → m ≡ length new
      → take (n + length new) (put_mid at m ys written) ≡ take at (take n xs) ++ (new ++ drop at (take n xs))
  put_between n m new ys written h g e w z =
      let k = length new in
      let back = drop at (take n xs) in
      let l : length (drop at xs) ≡ length xs - at = length-drop at xs in
      let s : n + k ≡ at + k + (n - at) = omega arith in
      let front : take (n + k) ys ≡ take (at + k) xs ++ back =
      ap (take (n + k)) e ∙ ap (λ j. take j (copy_within xs at n (at + k))) s
      ∙ take-paste xs (at + k) (drop at xs) (n - at) (omega arith) (omega arith) ∙ ap (λ q. take (at + k) xs ++ q) (between_is xs at n) in
      let lf : length (take (at + k) xs) ≡ at + k = length-take-le (at + k) xs (omega arith) in
      let ly : length ys ≡ length xs = ap length e ∙ length-paste xs (at + k) (drop at xs) (n - at) (omega arith) (omega arith) in
      let la : length (take at ys) ≡ at = length-take-le at ys (omega arith) in
      let a : take at ys ≡ take at (take n xs) =
      sym (take-take at (n + k) ys (omega arith)) ∙ ap (take at) front ∙ take-append-le at (take (at + k) xs) back (omega arith)
      ∙ take-take at (at + k) xs (omega arith) ∙ sym (take-take at n xs h) in
      let d : n - at ≡ n + k - (at + k) = omega arith in
      let b : take (n - at) (drop (at + k) ys) ≡ back =
      ap (λ j. take j (drop (at + k) ys)) d ∙ between_is ys (at + k) (n + k) ∙ ap (drop (at + k)) front ∙ drop_at (take (at + k) xs) back (at + k) lf in
      let t : n + k ≡ length (take at ys ++ new) + (n - at) = simp length-append (omega arith) in
      ap (take (n + k)) (put_mid-paste at m ys written new k w (sym z) refl ∙ paste_all ys at new k refl)
      ∙ ap (take (n + k)) (sym (append_assoc (take at ys) new (drop (at + k) ys)))
      ∙ ap (λ j. take j ((take at ys ++ new) ++ drop (at + k) ys)) t
      ∙ take-append-add (take at ys ++ new) (drop (at + k) ys) (n - at)
      ∙ ap (λ q. (take at ys ++ new) ++ q) b
      ∙ append_assoc (take at ys) new back
      ∙ ap (λ q. q ++ (new ++ back)) a

  -- so many taken out, and others put in there
  pub put_for : (taken : ℕ) (new ys zs : List X) → at ≤ length xs → ys ≡ take at xs ++ drop (at + taken) xs
      → zs ≡ take at ys ++ (new ++ drop at ys) → zs ≡ replaced at taken new xs
  put_for taken new ys zs h e f =
      let l : length (take at xs) ≡ at = length-take-le at xs h in
      let a : take at ys ≡ take at xs = ap (take at) e ∙ take_at (take at xs) _ at l in
      let b : drop at ys ≡ drop (at + taken) xs = ap (drop at) e ∙ drop_at (take at xs) _ at l in
      cc
