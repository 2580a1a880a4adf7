-- A value read from the file.
use Rattle.std.specs.Prelude.{◌≡◌, ℕ, ◌<◌, ◌≤◌, ◌⊎◌, length, take, Ok, Err, Result}
use Rattle.numbers.specs.Numbers.{Numbers}
use Rattle.numbers.specs.Layouts.{Layout, Row}
use Rattle.case_file.specs.declared.refusal.Refusal.{Refusal}
use Rattle.case_file.specs.declared.refusal.Refusal.TheVariants.{EndsEarly, NotNumber}
use Rattle.case_file.specs.Reading.{Position, past}

module _ {N : Type 0} (K : Numbers N) (L : Layout N) (index : ℕ) (p q : Position) where
  -- the next bytes are those of the stored number n, and are read
  pub record Read (n : N) : Type 0 where
    pub row : Row K L (take L.width p.rest) n
    pub onward : q ≡ past L.width p

  -- there are enough bytes, but those of no number
  pub record Unread : Type 0 where
    pub enough : L.width ≤ length p.rest
    pub none : K.stored (L.row (take L.width p.rest)) → ⊥

  abbrev pub ReadsValue : Result N Refusal → Type 0
  ReadsValue (Ok n) = Read n
  ReadsValue (Err e) = ((length p.rest < L.width) × (e ≡ EndsEarly p.size)) ⊎ (Unread × (e ≡ NotNumber index))
