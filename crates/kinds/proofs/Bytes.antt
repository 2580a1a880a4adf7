-- Bytes, high byte first.
use Rattle.std.proofs.Common.{◌≡◌, ℕ, List, [], ◌∷◌, length, w32, arith}
use Rattle.std.specs.Int.{from_be_bytes}
use Rattle.numbers.specs.Layouts.{high_first}

-- four bytes
pub four : (bs : List ℕ) → length bs ≡ 4 → from_be_bytes w32 bs ≡ high_first 0 bs
four [] p = absurd (omega arith)
four (a ∷ []) p = absurd (omega arith)
four (a ∷ b ∷ []) p = absurd (omega arith)
four (a ∷ b ∷ c ∷ []) p = absurd (omega arith)
four (a ∷ b ∷ c ∷ d ∷ []) p = omega arith
four (a ∷ b ∷ c ∷ d ∷ e ∷ bs) p = absurd (omega arith)
