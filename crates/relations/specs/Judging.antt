-- How a record is judged: the walk that it makes, or the first refusal.
use Rattle.std.specs.Prelude.{◌≡◌, ℕ, suc, ◌+◌, ◌≤◌, Bool, true, false, cond, ◌&&◌, List, [], ◌∷◌, ◌++◌, length, take, drop, Some, None, Ok, Err, Option, Result, ◌==◌, nat_le, nat_lt}
use Rattle.std.specs.List.{slice_get}
use Rattle.triangulations.specs.Triangulations.{Triangulation, Table, flippable, shares}
use Rattle.triangulations.specs.Steps.{Step, L, R, T, S, inverse, apply_step, leads}
use Rattle.triangulations.specs.Meaning.{meant}
use Rattle.triangulations.specs.declared.records.RecordFault.{RecordFault}
use Rattle.rewriting_records.specs.declared.record.Record.{Record}
use Rattle.rewriting_records.specs.declared.record.Rewriting.{Rewriting}
use Rattle.rewriting_records.specs.declared.record.Rewriting.TheVariants.{DropPair, InsertPair, JoinDouble, SplitDouble, Exchange, CarryRight, CarryLeft, ClosePentagon, OpenPentagon}
use Rattle.rewriting_records.specs.declared.fault.RewritingFault.{RewritingFault}
use Rattle.rewriting_records.specs.declared.fault.RewritingFault.TheVariants.{BadRecord, PlaceBeyond, NotLegal, NoForm, NoCondition, TooLong}
use Rattle.rewriting_records.specs.Records.{spelling}
use Rattle.relations.specs.Pentagons.{five, swap_and_turns, pentagon_at}
use Rattle.relations.specs.Rewritings.{renamed_step, passed, Rewrites}
use Rattle.relations.specs.Refusals.{Refusal}

-- whether a step is legal
abbrev pub legal : Step → Triangulation → Bool
legal (L e) t = flippable t.next e
legal (R e) t = flippable t.next e
legal (T e) t = nat_lt e t.edges
legal (S e f) t = nat_lt e f && nat_lt f t.edges

abbrev pub one_more : Option ℕ → Option ℕ
one_more None = None
one_more (Some k) = Some (suc k)

-- the first step that is not legal where those before it lead, if there is one
abbrev pub first_illegal : List Step → Triangulation → Option ℕ
first_illegal [] t = None
first_illegal (s ∷ w) t = cond (legal s t) (one_more (first_illegal w (apply_step s t))) (Some 0)

-- the steps that are taken out, and those that are put in for them
pub record Change : Type 0 where
  pub old : List Step
  pub new : List Step

abbrev pub Judged : Type 0
Judged = Result Change RewritingFault

-- the edge that a flip flips
abbrev pub flipped_edge : Step → Option ℕ
flipped_edge (L e) = Some e
flipped_edge (R e) = Some e
flipped_edge (T e) = None
flipped_edge (S e f) = None

-- what each rewriting changes at a place p, where t is the triangulation there
module _ (p : ℕ) where
  abbrev pub dropped : Option Step → Judged
  dropped None = Err (NoForm p)
  dropped (Some s) = Ok (record { old = s ∷ inverse s ∷ []; new = [] })

  abbrev pub joined : Option Step → Judged
  joined None = Err (NoForm p)
  joined (Some (L e)) = Ok (record { old = L e ∷ L e ∷ []; new = T e ∷ [] })
  joined (Some (R e)) = Err (NoForm p)
  joined (Some (T e)) = Err (NoForm p)
  joined (Some (S e f)) = Err (NoForm p)

  abbrev pub split : Table → Option Step → Judged
  split t None = Err (NoForm p)
  split t (Some (L e)) = Err (NoForm p)
  split t (Some (R e)) = Err (NoForm p)
  split t (Some (T e)) = cond (flippable t e) (Ok (record { old = T e ∷ []; new = L e ∷ L e ∷ [] })) (Err (NoCondition p))
  split t (Some (S e f)) = Err (NoForm p)

  abbrev pub parted : Table → Step → Step → Option ℕ → Option ℕ → Judged
  parted t s s' None f = Err (NoForm p)
  parted t s s' (Some e) None = Err (NoForm p)
  parted t s s' (Some e) (Some f) = cond (shares t e f) (Err (NoCondition p)) (Ok (record { old = s ∷ s' ∷ []; new = s' ∷ s ∷ [] }))

  abbrev pub carried_right : Step → Step → Judged
  carried_right (L e) s = Err (NoForm p)
  carried_right (R e) s = Err (NoForm p)
  carried_right (T e) s = cond (passed s) (Ok (record { old = T e ∷ s ∷ []; new = s ∷ T e ∷ [] })) (Err (NoForm p))
  carried_right (S e f) s = Ok (record { old = S e f ∷ s ∷ []; new = renamed_step e f s ∷ S e f ∷ [] })

  abbrev pub carried_left : Step → Step → Judged
  carried_left s (L e) = Err (NoForm p)
  carried_left s (R e) = Err (NoForm p)
  carried_left s (T e) = cond (passed s) (Ok (record { old = s ∷ T e ∷ []; new = T e ∷ s ∷ [] })) (Err (NoForm p))
  carried_left s (S e f) = Ok (record { old = s ∷ S e f ∷ []; new = S e f ∷ renamed_step e f s ∷ [] })

  -- of two steps that are there
  abbrev pub of_two : (Step → Step → Judged) → Option Step → Option Step → Judged
  of_two judged None second = Err (NoForm p)
  of_two judged (Some s) None = Err (NoForm p)
  of_two judged (Some s) (Some s') = judged s s'

  abbrev pub closed : Table → (e f : ℕ) → Option (ℕ × ℕ) → Judged
  closed t e f None = Err (NoCondition p)
  closed t e f (Some d) = Ok (record { old = five e f; new = swap_and_turns e f d.0 d.1 t })

  abbrev pub opened : Table → (e f : ℕ) → Option (ℕ × ℕ) → Judged
  opened t e f None = Err (NoCondition p)
  opened t e f (Some d) = Ok (record { old = swap_and_turns e f d.0 d.1 t; new = five e f })

  -- of the first two steps from the place on
  abbrev pub change : Triangulation → Rewriting → (first second : Option Step) → Judged
  change t DropPair first second = dropped first
  change t (InsertPair s) first second =
      cond (legal (meant s) t) (Ok (record { old = []; new = meant s ∷ inverse (meant s) ∷ [] })) (Err (NoCondition p))
  change t JoinDouble first second = joined first
  change t SplitDouble first second = split t.next first
  change t Exchange first second = of_two (λ s s'. parted t.next s s' (flipped_edge s) (flipped_edge s')) first second
  change t CarryRight first second = of_two carried_right first second
  change t CarryLeft first second = of_two carried_left first second
  change t (ClosePentagon e f) first second = closed t.next e f (pentagon_at t.next e f)
  change t (OpenPentagon e f) first second = opened t.next e f (pentagon_at t.next e f)

-- whether two steps are the same
abbrev pub same_step : Step → Step → Bool
same_step (L e) (L f) = e == f
same_step (R e) (R f) = e == f
same_step (T e) (T f) = e == f
same_step (S e f) (S g h) = e == g && f == h
same_step s s' = false

-- whether w begins with the steps `old`
abbrev pub begins : (old w : List Step) → Bool
begins [] w = true
begins (s ∷ old) [] = false
begins (s ∷ old) (s' ∷ w) = same_step s s' && begins old w

-- the change, if w begins with the steps that it takes out
abbrev pub fitting : (p : ℕ) → List Step → Judged → Judged
fitting p w (Ok c) = cond (begins c.old w) (Ok c) (Err (NoForm p))
fitting p w (Err f) = Err f

-- at most 256 steps
abbrev pub few : List Step → Result (List Step) RewritingFault
few w = cond (nat_le (length w) 256) (Ok w) (Err TooLong)

-- w with a change made at the place p
abbrev pub put : (p : ℕ) → List Step → Judged → Result (List Step) RewritingFault
put p w (Ok c) = few (take p w ++ (c.new ++ drop (length c.old) (drop p w)))
put p w (Err f) = Err f

abbrev pub from_place : Triangulation → List Step → (p : ℕ) → Rewriting → Option ℕ → Result (List Step) RewritingFault
from_place t w p r (Some k) = Err (NotLegal k)
from_place t w p r None = put p w (fitting p (drop p w) (change p (leads (take p w) t) r (slice_get w p) (slice_get w (p + 1))))

abbrev pub judge_spelt : Triangulation → List Step → (p : ℕ) → Result Rewriting RecordFault → Result (List Step) RewritingFault
judge_spelt t w p (Ok r) = cond (nat_le p (length w)) (from_place t w p r (first_illegal (take p w) t)) (Err (PlaceBeyond p))
judge_spelt t w p (Err f) = Err (BadRecord p f)

-- the record's own faults come first, then a place beyond the walk, then steps before it that are no walk, then what the rule says
abbrev pub judge : Triangulation → List Step → Record → Result (List Step) RewritingFault
judge t w ρ = judge_spelt t w ρ.place (spelling t.edges ρ)

-- Where the steps before the place are legal, the walk is granted that the record makes of w, exactly if there is one and it has
-- at most 256 steps; there is one at most; and each refusal is given for its reason, and whenever there is that reason.
pub record Judges (t : Triangulation) (w : List Step) (ρ : Record) : Type 0 where
  pub grants : (w' : List Step) → judge t w ρ ≡ Ok w' → Rewrites t ρ w w' × (length w' ≤ 256)
  pub granting : (w' : List Step) → Rewrites t ρ w w' → length w' ≤ 256 → judge t w ρ ≡ Ok w'
  pub one : (u v : List Step) → Rewrites t ρ w u → Rewrites t ρ w v → u ≡ v
  pub refuses : (f : RewritingFault) → judge t w ρ ≡ Err f → Refusal t w ρ f
  pub refusing : (f : RewritingFault) → Refusal t w ρ f → judge t w ρ ≡ Err f
