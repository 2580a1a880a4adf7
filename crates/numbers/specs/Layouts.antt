-- How numbers are written: in bytes, and as text.
use Rattle.std.specs.Prelude.{◌≡◌, ℕ, ◌+◌, ◌*◌, ◌≤◌, List, [], ◌∷◌, length, Some, None, Option}
use Rattle.numbers.specs.Numbers.{Numbers}

-- The mark of a kind, how many bytes a number has, the row that so many bytes stand for, and a row's text.
pub record Layout (N : Type 0) : Type 0 where
  pub mark : ℕ
  pub width : ℕ
  pub row : List ℕ → N
  pub text : N → List ℕ

-- A number has at least a byte, and the text of a stored number at most 32.
pub record Bounded {N : Type 0} (K : Numbers N) (L : Layout N) : Type 0 where
  pub wide : 1 ≤ L.width
  pub brief : (n : N) → K.stored n → length (L.text n) ≤ 32

-- The bytes are those of the stored number n.
pub record Row {N : Type 0} (K : Numbers N) (L : Layout N) (bytes : List ℕ) (n : N) : Type 0 where
  pub whole : length bytes ≡ L.width
  pub is : n ≡ L.row bytes
  pub stored : K.stored n

-- The stored number that the bytes are those of, or none, where they are those of none.
abbrev pub Reads : {N : Type 0} (K : Numbers N) → Layout N → List ℕ → Option N → Type 0
Reads K L bytes (Some n) = Row K L bytes n
Reads K L bytes None = length bytes ≡ L.width → K.stored (L.row bytes) → ⊥

-- What bytes come to, high byte first, after bytes that came to n.
abbrev pub high_first : ℕ → List ℕ → ℕ
high_first n [] = n
high_first n (x ∷ xs) = high_first (n * 256 + x) xs
