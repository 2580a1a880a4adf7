-- The stored numbers of a kind, and what they stand for.
use Rattle.std.specs.Prelude.{◌≡◌, Some, None, Ok, Err, Option, Result}
use Rattle.exact.specs.Field.{Field, Laws}

-- A kind of numbers, over plain rows N: the field of its exact values, which rows are stored numbers, the exact value that a
-- row stands for, and the stored number of an exact value, if it has one. The stored result of an operation is that of the
-- exact result.
pub record Numbers (N : Type 0) : Type 1 where
  pub exact : Field
  pub stored : N → Type 0
  pub value : N → exact.Exact
  pub result : exact.Exact → Option N

-- The row is a stored number, and its value is the same as x.
pub record Stands {N : Type 0} (K : Numbers N) (x : K.exact.Exact) (n : N) : Type 0 where
  pub stored : K.stored n
  pub same : K.exact.same (K.value n) x

-- Some stored number has the value x.
abbrev pub Held : {N : Type 0} (K : Numbers N) → K.exact.Exact → Type 0
Held {N} K x = (n : N) × Stands K x n

-- What each kind shows: its field keeps the laws, the values of different stored numbers are never the same, a stored result's
-- value is the same as the exact result, and where there is no stored result no stored number has that value.
pub record Lawful {N : Type 0} (K : Numbers N) : Type 0 where
  pub laws : Laws K.exact
  pub apart : (m n : N) → K.stored m → K.stored n → K.exact.same (K.value m) (K.value n) → m ≡ n
  pub found : (x : K.exact.Exact) (n : N) → K.result x ≡ Some n → Stands K x n
  pub missing : (x : K.exact.Exact) → K.result x ≡ None → Held K x → ⊥

-- An answer for the exact value x: the stored number of that value, or a refusal, exactly where there is none.
abbrev pub Answers : {N E : Type 0} (K : Numbers N) → K.exact.Exact → Result N E → Type 0
Answers K x (Ok n) = Stands K x n
Answers K x (Err _) = Held K x → ⊥

-- An answer for the sum of two rows, for their product and for their quotient, where both are stored numbers.
module _ {N E : Type 0} (K : Numbers N) (m n : N) where
  abbrev pub Sums : Result N E → Type 0
  Sums r = K.stored m → K.stored n → Answers K (K.exact.sum (K.value m) (K.value n)) r

  abbrev pub Multiplies : Result N E → Type 0
  Multiplies r = K.stored m → K.stored n → Answers K (K.exact.product (K.value m) (K.value n)) r

  abbrev pub Divides : Result N E → Type 0
  Divides r = K.stored m → K.stored n → Answers K (K.exact.quotient (K.value m) (K.value n)) r

-- At most one stored number has a value.
abbrev pub Single : {N : Type 0} → Numbers N → Type 0
Single {N} K = (x : K.exact.Exact) (m n : N) → Stands K x m → Stands K x n → m ≡ n

-- The stored result is the answer.
abbrev pub Results : {N : Type 0} → Numbers N → Type 0
Results {N} K = (x : K.exact.Exact) (n : N) → Stands K x n → K.result x ≡ Some n
