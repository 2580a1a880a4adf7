-- What a trace says of a case whose surface is refused: that refusal, and nothing else.
use Rattle.std.specs.Prelude.{◌≡◌, ℕ, List, length, Err}
use Rattle.case_file.specs.declared.refusal.Refusal.{Refusal}
use Rattle.case_file.specs.Reading.{Position}
use Rattle.case_file.specs.Sections.{surface_at}
use Rattle.trace_text.specs.Lines.{refused_text}

abbrev pub start_of : List ℕ → Position
start_of file = record { size = length file; rest = file }

abbrev pub SaysSurfaceRefused : (file text : List ℕ) → Type 0
SaysSurfaceRefused file text = (e : Refusal) → surface_at (start_of file) ≡ Err e → text ≡ refused_text e
