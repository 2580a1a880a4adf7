-- Weights: integers, the larger of two for their sum, and their sum for their product.
use Rattle.std.specs.Prelude.{ℕ, cond, ◌&&◌, ℤ, pos, neg_ℤ, ◌≤ℤ◌, Some, None, Option, int_le}
use Rattle.std.specs.Int.{w64}
use Rattle.std.proofs.Common.{to_z}
use Rattle.std.specs.Fmt.{signed_decimal}
use Rattle.exact.specs.Models.{integers}
use Rattle.numbers.specs.Numbers.{Numbers}
use Rattle.numbers.specs.Layouts.{Layout, high_first}
use Rattle.kinds.specs.declared.weight.Weight.{Weight}

-- 2^40
abbrev pub limit : ℕ
limit = 1099511627776

-- A weight from -2^40 to 2^40.
abbrev pub Weighs : Weight → Type 0
Weighs w = (neg_ℤ (pos limit) ≤ℤ w.value) × (w.value ≤ℤ pos limit)

abbrev pub weight_result : ℤ → Option Weight
weight_result z = cond (int_le (neg_ℤ (pos limit)) z && int_le z (pos limit)) (Some (record { value = z })) None

abbrev pub weights : Numbers Weight
weights = record { exact = integers; stored = Weighs; value = λ w. w.value; result = weight_result }

-- Eight bytes in two's complement. The text is decimal, with a minus sign below zero.
abbrev pub weight_layout : Layout Weight
weight_layout = record {
  mark = 1;
  width = 8;
  row = λ bytes. record { value = to_z w64 (high_first 0 bytes) };
  text = λ w. signed_decimal w.value;
}
