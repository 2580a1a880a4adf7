-- How a record is judged, part by part.
use Rattle.std.proofs.Common.{◌≡◌, ℕ, ◌+◌, ◌<◌, ◌≤◌, leb, List, map, length, take, Some, None, Ok, Err, Option, sym, refl, ap, ◌∙◌, arith, le→leb, leb→le}
use lib.Dec.{not_T}
use Rattle.std.specs.List.{slice_get}
use Rattle.triangulations.specs.Triangulations.{Triangulation}
use Rattle.triangulations.specs.Steps.{Step, leads}
use Rattle.std.proofs.lemmas.List.{take-map}
use Rattle.triangulations.specs.Meaning.{meant}
use Rattle.triangulations.specs.declared.step.Step.{Step as Named}
use Rattle.rewriting_records.specs.declared.record.Record.{Record}
use Rattle.rewriting_records.specs.declared.record.Rewriting.{Rewriting}
use Rattle.rewriting_records.specs.declared.fault.RewritingFault.{RewritingFault}
use Rattle.rewriting_records.specs.declared.fault.RewritingFault.TheVariants.{PlaceBeyond, NotLegal}
use Rattle.rewriting_records.specs.Records.{spelling}
use Rattle.relations.specs.Judging.{first_illegal, change, from_place, judge_spelt, judge}
use Rattle.relations.proofs.Beginnings.{when_yes, when_no}
use Rattle.rewriting.specs.Replays.{told, before}
use Rattle.rewriting.specs.Rewritten.{done}

module _ (t : Triangulation) (w : List Step) (ρ : Record) (edges : ℕ) (same : edges ≡ t.edges) where
  spelt : judge t w ρ ≡ judge_spelt t w ρ.place (spelling edges ρ)
  spelt = ap (λ n. judge_spelt t w ρ.place (spelling n ρ)) (sym same)

  module _ (r : Rewriting) (e : Ok r ≡ spelling edges ρ) where
    pub beyond : length w < ρ.place → judge t w ρ ≡ Err (PlaceBeyond ρ.place)
    beyond h = spelt ∙ (ap (judge_spelt t w ρ.place) (sym e) ∙ when_no (leb ρ.place (length w)) _ _ (not_T _ (λ y. let z = leb→le _ _ y in omega arith)))

    module _ (h : ρ.place ≤ length w) where
      placed : judge t w ρ ≡ from_place t w ρ.place r (first_illegal (take ρ.place w) t)
      placed = spelt ∙ (ap (judge_spelt t w ρ.place) (sym e) ∙ when_yes (leb ρ.place (length w)) _ _ (le→leb _ _ h))

      pub illegal : (f : RewritingFault) → Err f ≡ told (first_illegal (take ρ.place w) t) → judge t w ρ ≡ Err f
      illegal f q = placed ∙ by (first_illegal (take ρ.place w) t) q
        where
          by : (o : Option ℕ) → Err f ≡ told o → from_place t w ρ.place r o ≡ Err f
          by None q = absurd cc
          by (Some k) q = let e : f ≡ NotLegal k = cc in ap Err (sym e)

      pub reached : None ≡ first_illegal (take ρ.place w) t
          → judge t w ρ ≡ done ρ.place w (change ρ.place (leads (take ρ.place w) t) r (slice_get w ρ.place) (slice_get w (ρ.place + 1)))
      reached q = placed ∙ ap (from_place t w ρ.place r) (sym q)

-- where nothing is told, all steps are legal
pub all_legal : (o : Option ℕ) {u : Unit {0}} → Ok u ≡ told o → None ≡ o
all_legal None e = refl
all_legal (Some k) e = absurd cc

-- the steps before the place mean the moves before it
pub moves_before : (p : ℕ) (xs held : List Named) → xs ≡ held → map meant (take p xs) ≡ take p (map meant held)
moves_before p xs held e = (λ i. map meant (take p (e i))) ∙ sym (take-map meant p held)

-- the triangulation there, where all steps before the place are legal
pub reached_there : (w : List Step) (t u : Triangulation) → None ≡ first_illegal w t → u ≡ leads (before (first_illegal w t) w) t → u ≡ leads w t
reached_there w t u e q = q ∙ ap (λ r. leads (before r w) t) (sym e)
