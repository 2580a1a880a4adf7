-- Records of rewritings: a rule, a way, a place and three more bytes, code, e and f, which are 0 where they are not used.
use Rattle.std.specs.Prelude.{ℕ, Bool, cond, not, ◌&&◌, [], ◌∷◌, Ok, Err, Result, ◌==◌, nat_le, nat_lt}
use Rattle.triangulations.specs.declared.step.Step.{Step}
use Rattle.triangulations.specs.declared.records.RecordFault.{RecordFault}
use Rattle.triangulations.specs.declared.records.RecordFault.TheVariants.{UnknownCode, EdgeBeyond}
use Rattle.triangulations.specs.Records.{reading}
use Rattle.rewriting_records.specs.declared.record.Record.{Record}
use Rattle.rewriting_records.specs.declared.record.Rewriting.{Rewriting}
use Rattle.rewriting_records.specs.declared.record.Rewriting.TheVariants.{DropPair, InsertPair, JoinDouble, SplitDouble, Exchange, CarryRight, CarryLeft, ClosePentagon, OpenPentagon}

-- whether code, e and f are all 0
abbrev pub bare : Record → Bool
bare ρ = ρ.code == 0 && (ρ.e == 0 && ρ.f == 0)

-- the rules and ways that use none of them: rule 1 is pair, 2 double, 3 apart, 4 carry over
abbrev pub plain : (rule way : ℕ) → Result Rewriting RecordFault
plain rule way =
    cond (rule == 1 && way == 0) (Ok DropPair)
    (cond (rule == 2 && way == 0) (Ok JoinDouble)
    (cond (rule == 2 && way == 1) (Ok SplitDouble)
    (cond (rule == 3 && way == 0) (Ok Exchange)
    (cond (rule == 4 && way == 0) (Ok CarryRight)
    (cond (rule == 4 && way == 1) (Ok CarryLeft)
    (Err UnknownCode))))))

-- rule 5, pentagon, names two edges below the number of edges, and has no code
abbrev pub pentagon : (edges way code e f : ℕ) → Result Rewriting RecordFault
pentagon edges way code e f =
    cond (not (code == 0)) (Err UnknownCode)
    (cond (not (nat_lt e edges && nat_lt f edges)) (Err EdgeBeyond)
    (cond (way == 0) (Ok (ClosePentagon e f)) (Ok (OpenPentagon e f))))

-- pair, way 1, names a step by its record
abbrev pub inserted : Result Step RecordFault → Result Rewriting RecordFault
inserted (Ok s) = Ok (InsertPair s)
inserted (Err f) = Err f

-- the rewriting that a record spells, or its first fault
abbrev pub spelling : (edges : ℕ) → Record → Result Rewriting RecordFault
spelling edges ρ =
    cond (ρ.rule == 1 && ρ.way == 1) (inserted (reading edges (ρ.code ∷ ρ.e ∷ ρ.f ∷ [])))
    (cond (ρ.rule == 5 && nat_le ρ.way 1) (pentagon edges ρ.way ρ.code ρ.e ρ.f)
    (cond (bare ρ) (plain ρ.rule ρ.way)
    (Err UnknownCode)))
