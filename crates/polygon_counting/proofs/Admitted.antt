-- Diagonals that pass the tests are admissible.
use Rattle.std.proofs.Common.{◌≡◌, ℕ, ◌+◌, ◌<◌, ◌≤◌, true, false, List, length, arith}
use Rattle.std.proofs.lemmas.Bool.Decides.{nat_tests}
use Rattle.polygon_counting.specs.declared.diagonal.Diagonal.{Diagonal}
use Rattle.polygon_counting.specs.Diagonals.{at, proper, clashes, Uncrossed}
use Rattle.polygon_counting.proofs.Counting.{Admissible}

abbrev pub low_of : List Diagonal → ℕ → ℕ
low_of ds k = (at ds k).low

abbrev pub high_of : List Diagonal → ℕ → ℕ
high_of ds k = (at ds k).high

proper_is : (n i j : ℕ) → proper n (record { low = i; high = j }) ≡ true → (i + 2 ≤ j) × (j < n) × (i ≡ 0 → j + 1 ≡ n → ⊥)
proper_is n i j t = (grind (arith, nat_tests), grind (arith, nat_tests), λ p q. grind (arith, nat_tests))

clashes_not : (i j k l : ℕ) → clashes (record { low = i; high = j }) (record { low = k; high = l }) ≡ false → (i < k → k < j → j < l → ⊥) × (k < i → i < l → l < j → ⊥) × (i ≡ k → j ≡ l → ⊥)
clashes_not i j k l t = (λ p q r. grind (arith, nat_tests), λ p q r. grind (arith, nat_tests), λ p q. grind (arith, nat_tests))

pub admissible : (n : ℕ) (ds : List Diagonal) → Uncrossed n ds → Admissible n (length ds) (low_of ds) (high_of ds)
admissible n ds s = record {
  apart = λ k h. (pr k h).0;
  corner = λ k h. (pr k h).1;
  open_side = λ k h. (pr k h).2;
  distinct = λ k l h h' a b. grind (arith, cl k l h, cl l k h');
  uncrossed = λ k l h h' a b c. grind (arith, cl k l h, cl l k h');
}
  where
    pr : (k : ℕ) → k < length ds → (low_of ds k + 2 ≤ high_of ds k) × (high_of ds k < n) × (low_of ds k ≡ 0 → high_of ds k + 1 ≡ n → ⊥)
    pr k h = proper_is n (low_of ds k) (high_of ds k) (s.diagonals k h)

    cl : (k j : ℕ) → k < length ds → j < k → (low_of ds k < low_of ds j → low_of ds j < high_of ds k → high_of ds k < high_of ds j → ⊥) × (low_of ds j < low_of ds k → low_of ds k < high_of ds j → high_of ds j < high_of ds k → ⊥) × (low_of ds k ≡ low_of ds j → high_of ds k ≡ high_of ds j → ⊥)
    cl k j h x = clashes_not (low_of ds k) (high_of ds k) (low_of ds j) (high_of ds j) (s.apart j k x h)
