-- An array that is made from the numbers of its places.
use Rattle.std.proofs.Common.{◌≡◌, ℕ, zero, suc, ◌+◌, ◌<◌, ◌≤◌, List, get_or, inl, inr, sym, subst, arith}
use Rattle.std.proofs.lemmas.Bool.{cases_lt}
use Rattle.std.specs.Array.{IsFromFnResult, IsFromFnResultFrom}
use denote.Param.Members.{Mut}
use Rattle.std.specs.Fn.{Called}

-- what holds of each place and each item that a call of f gives there holds of each place of the array; calls leave f
module _ {F B : Type 0} (g : Mut F (ℕ × Unit {0}) B) (f : F) (P : ℕ → B → Type 0) (given : (i : ℕ) (q : F) (y : B) → Called g f (i, tt) y q → (q ≡ f) × P i y) where
  from_place : (n i : ℕ) (s : F) (ys : List B) → s ≡ f → IsFromFnResultFrom g s ys i n → (k : ℕ) (d : B) → i ≤ k → k < i + n → P k (get_or ys k d)
  from_place zero i s ys e r k d h l = absurd (omega arith)
  from_place (suc n) i s ys e (q, y, at, called, rest) k d h l =
      let here = given i q y (subst (λ (p : F). Called g p (i, tt) y q) e called) in
      elim (cases_lt i k) [
        | inl m ↦ from_place n (i + 1) q ys here.0 rest k d (omega arith) (omega arith)
        | inr m ↦ (let same : i ≡ k = omega arith in subst (λ j. P j (get_or ys j d)) same (subst (P i) (sym (at.1 d)) here.1))
      ]

  pub made : (ys : List B) (n : ℕ) → IsFromFnResult g f ys n → (k : ℕ) (d : B) → k < n → P k (get_or ys k d)
  made ys n r k d l = from_place n 0 f ys (λ i. f) r.each k d (omega arith) (omega arith)
