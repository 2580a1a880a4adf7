-- What the bytes of a case file read as, from left to right.
use Rattle.std.specs.Prelude.{◌≡◌, ℕ, ◌+◌, ◌-◌, ◌*◌, Bool, if◌then◌else◌, List, length, drop, Ok, Err, Result, nat_lt, slice_index}
use Rattle.case_file.specs.declared.cursor.Cursor.{Cursor}
use Rattle.case_file.specs.declared.refusal.Refusal.{Refusal}
use Rattle.case_file.specs.declared.refusal.Refusal.TheVariants.{EndsEarly}

-- a position in a file of so many bytes, by what is left of it
pub record Position : Type 0 where
  pub size : ℕ
  pub rest : List ℕ

abbrev pub position : Cursor → Position
position c = record { size = c.size; rest = c.rest.now }

-- how many bytes lie before it
abbrev pub offset : Position → ℕ
offset p = p.size - length p.rest

-- w bytes further on
abbrev pub past : ℕ → Position → Position
past w p = record { size = p.size; rest = drop w p.rest }

-- first one reading and then the next, unless the first is refused
abbrev pub and_then : {X Y : Type 0} → Result X Refusal → (X → Result Y Refusal) → Result Y Refusal
and_then (Ok x) f = f x
and_then (Err e) f = Err e

-- refused with e where the test holds
abbrev pub refused_if : {Y : Type 0} → Bool → Refusal → Result Y Refusal → Result Y Refusal
refused_if test e r = if test then Err e else r

-- w bytes, whole, and what they are read as
abbrev pub whole : {X : Type 0} → ℕ → (List ℕ → Result X Refusal) → Position → Result (X × Position) Refusal
whole w read p = refused_if (nat_lt (length p.rest) w) (EndsEarly p.size) (and_then (read p.rest) (λ x. Ok (x, past w p)))

-- the two bytes of a count, the high one first
abbrev pub count_in : List ℕ → Result ℕ Refusal
count_in bytes = Ok (256 * slice_index bytes 0 + slice_index bytes 1)

abbrev pub count_at : Position → Result (ℕ × Position) Refusal
count_at = whole 2 count_in

-- the one byte of a mark
abbrev pub mark_in : List ℕ → Result ℕ Refusal
mark_in bytes = Ok (slice_index bytes 0)

abbrev pub mark_at : Position → Result (ℕ × Position) Refusal
mark_at = whole 1 mark_in

-- the answer r of a call that reads on to `after`, seen by v, is s; a refused call says what s says
abbrev pub Gives : {T X : Type 0} → (T → X) → Result T Refusal → Position → Result (X × Position) Refusal → Type 0
Gives v (Ok t) after s = s ≡ Ok (v t, after)
Gives v (Err e) after s = s ≡ Err e

abbrev pub itself : {X : Type 0} → X → X
itself x = x
