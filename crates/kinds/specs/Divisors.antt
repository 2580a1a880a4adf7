-- Common divisors.
use Rattle.std.specs.Prelude.{◌≡◌, ℕ, zero, suc, ◌%◌, true, false, ◌==◌}
use Rattle.std.specs.Int.{◌∣◌}

-- No common factor but 1.
abbrev pub Coprime : ℕ → ℕ → Type 0
Coprime a b = (d : ℕ) → d ∣ a → d ∣ b → d ≡ 1

-- Euclid's algorithm, in at most k turns.
abbrev pub euclid_in : ℕ → ℕ → ℕ → ℕ
euclid_in zero a b = a
euclid_in (suc k) a b = elim (b == 0) [ true ↦ a | false ↦ euclid_in k b (a % b) ]

-- b falls with each turn, so there are at most b turns before it is 0.
abbrev pub euclid : ℕ → ℕ → ℕ
euclid a b = euclid_in (suc b) a b
