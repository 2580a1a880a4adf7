-- A table filled by asking a surface.
use Rattle.std.proofs.Common.{◌≡◌, ℕ, ◌<◌, List, length, Option, sym, ◌∙◌, arith}
use native.Mathlib.Decide.{dec_lt}
use mathlib.Core.Path.{fun_ext}
use Rattle.triangulations.specs.Triangulations.{Triangulation}
use Rattle.triangulations.specs.Stored.{table_of}
use Rattle.triangulations.proofs.Stored.{beyond, none_past}
use Rattle.surfaces.specs.Surfaces.{Sound}

-- 128 answers are the whole table
pub asked_all : (t : Triangulation) → Sound t → (xs : List (Option ℕ)) → length xs ≡ 128
    → ((d : ℕ) → d < 128 → table_of xs d ≡ t.next d) → table_of xs ≡ t.next
asked_all t sound xs long each = fun_ext (λ d. go d (dec_lt d 128))
  where
    go : (d : ℕ) → Dec (d < 128) → table_of xs d ≡ t.next d
    go d (yes h) = each d h
    go d (no h) = beyond xs d (omega arith) ∙ sym (none_past t sound.lawful d (let few = sound.most in omega arith))
