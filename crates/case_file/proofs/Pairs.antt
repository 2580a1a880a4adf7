-- The pairs of corners, as `as_chunks` cuts them from the bytes.
use Rattle.std.proofs.Common.{◌≡◌, ℕ, zero, suc, ◌+◌, ◌*◌, ◌<◌, List, [], get_or, take, drop, ap, ◌∙◌, arith}
use Rattle.std.proofs.lemmas.List.{get_or-take, get_or-drop}
use Rattle.std.specs.Simd.{first_chunks}
use Rattle.polygon_counting.specs.declared.diagonal.Diagonal.{Diagonal}
use Rattle.case_file.specs.Sections.{pair_in}

-- byte i of pair k
byte_of_pair : (bytes : List ℕ) (m k i : ℕ) → k < m → i < 2 → get_or (get_or (first_chunks 2 m bytes) k []) i 0 ≡ get_or bytes (2 * k + i) 0
byte_of_pair bytes zero k i h e = absurd (omega arith)
byte_of_pair bytes (suc m) zero i h e =
    let same : i ≡ 2 * 0 + i = omega arith in get_or-take 2 bytes i 0 e ∙ ap (λ j. get_or bytes j 0) same
byte_of_pair bytes (suc m) (suc k) i h e =
    let same : 2 + (2 * k + i) ≡ 2 * suc k + i = omega arith in
    byte_of_pair (drop 2 bytes) m k i (omega arith) e ∙ get_or-drop 2 bytes (2 * k + i) 0 ∙ ap (λ j. get_or bytes j 0) same

-- pair k of the first n
pub pair_read : (bytes : List ℕ) (pairs : List (List ℕ)) (m n k : ℕ) → pairs ≡ first_chunks 2 m bytes → k < n → k < m → let made : Diagonal = record { low = get_or (get_or (take n pairs) k []) 0 0; high = get_or (get_or (take n pairs) k []) 1 0 } in made ≡ pair_in bytes k
pair_read bytes pairs m n k is few whole =
    let kept : get_or (take n pairs) k [] ≡ get_or (first_chunks 2 m bytes) k [] = get_or-take n pairs k [] few ∙ ap (λ xs. get_or xs k []) is in
    let first : 2 * k + 0 ≡ 2 * k = omega arith in
    let low = ap (λ p. get_or p 0 0) kept ∙ byte_of_pair bytes m k 0 whole (omega arith) ∙ ap (λ j. get_or bytes j 0) first in
    let high = ap (λ p. get_or p 1 0) kept ∙ byte_of_pair bytes m k 1 whole (omega arith) in
    (λ i. record { low = low i; high = high i })
