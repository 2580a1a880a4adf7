-- Text written into a slice.
use Rattle.std.specs.Prelude.{◌≡◌, ℕ, ◌<◌, List, ◌++◌, length, drop, Ok, Err, Result}
use Rattle.numbers.specs.declared.kind.ShortSlice.{ShortSlice}

-- A text at the front of a slice: how many bytes it has, and the bytes past it stay; or a refusal of a slice that is too short,
-- with the length needed, and nothing written.
abbrev pub Written : List ℕ → List ℕ → List ℕ → Result ℕ ShortSlice → Type 0
Written text before after (Ok n) = (n ≡ length text) × (after ≡ text ++ drop n before)
Written text before after (Err f) = (f.needed ≡ length text) × (length before < length text) × (after ≡ before)
