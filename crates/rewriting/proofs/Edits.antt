-- Edits of a walk, on what its steps mean.
use Rattle.std.proofs.Common.{◌≡◌, ℕ, ◌+◌, ◌-◌, ◌<◌, ◌≤◌, if◌then◌else◌, is_ok, IsErrAnd, MatchResult, T as Yes, leb, List, ◌++◌, map, length, take, drop, Ok, Err, Result, sym, ap, ◌∙◌, subst, arith, le→leb, leb→le, length-append, length-drop, take-append-drop, length-take}
use lib.Dec.{not_T}
use Rattle.std.proofs.lemmas.Bool.Decides.{nat_tests}
use Rattle.std.proofs.lemmas.List.{take-map, drop-map, drop-drop, length-map, map-append, take_at}
use Rattle.triangulations.specs.Steps.{Step as Move}
use Rattle.triangulations.specs.Meaning.{meant}
use Rattle.triangulations.specs.declared.step.Step.{Step}
use Rattle.rewriting_records.specs.declared.fault.RewritingFault.{RewritingFault}
use Rattle.rewriting_records.specs.declared.fault.RewritingFault.TheVariants.{NoForm, TooLong}
use Rattle.relations.specs.Judging.{begins, few, put}
use Rattle.relations.proofs.Beginnings.{when_yes, when_no, begins_with, begins_front}
use Rattle.walks.specs.declared.fault.EditFault.{EditFault}
use Rattle.walks.specs.Walks.{replaceable, replaced}
use Rattle.walks.proofs.Moves.{map_replaced, moves_injective}
use Rattle.rewriting.specs.Rewritten.{Answers, done}

-- what is judged, and the steps after it, may be put in other words
pub answers_as : {U : Type 0} (held : List Step) (r : Result U RewritingFault) {u v : List Step} {j j' : Result (List Move) RewritingFault} → u ≡ v → j ≡ j' → Answers held r u j → Answers held r v j'
answers_as held (Ok x) a e h = sym e ∙ h ∙ ap (λ w. Ok (map meant w)) a
answers_as held (Err f) a e h = (sym e ∙ h.0, sym a ∙ h.1)

has_room : (at taken put n : ℕ) {u : Unit {0}} → Ok u ≡ replaceable at taken put n → n - taken + put ≤ 256
has_room at taken put n e = grind (arith, nat_tests)

lacks_room : (at taken put n : ℕ) {d : EditFault} → at + taken ≤ n → Err d ≡ replaceable at taken put n → 256 < n - taken + put
lacks_room at taken put n h e = grind (arith, nat_tests)

-- the steps `old` stand at p
abbrev pub Stand : ℕ → List Step → List Step → Type 0
Stand p held old = take (length old) (drop p held) ≡ old

module _ (p : ℕ) (held old new : List Step) where
  begun : Stand p held old → Yes (begins (map meant old) (drop p (map meant held)))
  begun e = subst (λ w. Yes (begins (map meant old) w)) (sym parts) (subst Yes (sym (begins_with (map meant old) (map meant (drop (length old) (drop p held))))) tt)
    where
      parts : drop p (map meant held) ≡ map meant old ++ map meant (drop (length old) (drop p held))
      parts =
          drop-map meant p held
          ∙ (ap (map meant) (sym (take-append-drop (length old) (drop p held)) ∙ ap (λ u. u ++ drop (length old) (drop p held)) e)
          ∙ map-append meant old (drop (length old) (drop p held)))

  begun_back : Yes (begins (map meant old) (drop p (map meant held))) → Stand p held old
  begun_back y = moves_injective (take (length old) (drop p held)) old
      (sym (take-map meant (length old) (drop p held))
      ∙ (ap (take (length old)) (sym (drop-map meant p held) ∙ begins_front (map meant old) (drop p (map meant held)) y)
      ∙ take_at (map meant old) _ (length old) (length-map old meant)))

  pub unfit : (Stand p held old → ⊥) → done p (map meant held) (Ok (record { old = map meant old; new = map meant new })) ≡ Err (NoForm p)
  unfit none = ap (put p (map meant held)) (when_no (begins (map meant old) (drop p (map meant held))) _ _ (not_T _ (λ y. none (begun_back y))))

  -- what the walk becomes
  becomes : Stand p held old → done p (map meant held) (Ok (record { old = map meant old; new = map meant new })) ≡ few (map meant (replaced p (length old) new held))
  becomes e =
      ap (put p (map meant held)) (when_yes (begins (map meant old) (drop p (map meant held))) _ _ (begun e))
      ∙ ap few (ap (λ u. take p (map meant held) ++ (map meant new ++ u)) (ap (λ n. drop n (drop p (map meant held))) (length-map old meant) ∙ drop-drop (length old) p (map meant held))
      ∙ sym (map_replaced meant p (length old) new held))

  long : p + length old ≤ length held → length (map meant (replaced p (length old) new held)) ≡ length held - length old + length new
  long h = length-map (replaced p (length old) new held) meant ∙ simp (length-append, length-take, length-drop) (omega arith)

  within : p ≤ length held → Stand p held old → p + length old ≤ length held
  within h e = let l : length (take (length old) (drop p held)) ≡ length old = ap length e in
      let m : length (take (length old) (drop p held)) ≤ length (drop p held) = simp length-take (omega arith) in
      let k : length (drop p held) ≡ length held - p = length-drop p held in omega arith

  pub edited : p ≤ length held → Stand p held old → length held - length old + length new ≤ 256
      → done p (map meant held) (Ok (record { old = map meant old; new = map meant new })) ≡ Ok (map meant (replaced p (length old) new held))
  edited h e k =
      let n = long (within h e) in
      becomes e ∙ when_yes (leb (length (map meant (replaced p (length old) new held))) 256) _ _ (le→leb _ _ (omega arith))

  pub overlong : p ≤ length held → Stand p held old → 256 < length held - length old + length new
      → done p (map meant held) (Ok (record { old = map meant old; new = map meant new })) ≡ Err TooLong
  overlong h e k =
      let n = long (within h e) in
      becomes e ∙ when_no (leb (length (map meant (replaced p (length old) new held))) 256) _ _ (not_T _ (λ y. let z = leb→le _ _ y in omega arith))

  -- what is told of a walk on which they stand
  pub put_there : p ≤ length held → Stand p held old → (r : Result (Unit {0}) EditFault) (told : Result (Unit {0}) RewritingFault) {after : List Step}
      → MatchResult r (λ u. told ≡ Ok u) (λ _. IsErrAnd told (λ f. f ≡ TooLong))
      → r ≡ replaceable p (length old) (length new) (length held)
      → after ≡ (if is_ok r then replaced p (length old) new held else held)
      → Answers held told after (done p (map meant held) (Ok (record { old = map meant old; new = map meant new })))
  put_there h e (Ok u) (Ok v) t g a = edited h e (has_room p (length old) (length new) (length held) g) ∙ ap (λ w. Ok (map meant w)) (sym a)
  put_there h e (Ok u) (Err f) t g a = absurd cc
  put_there h e (Err d) (Ok v) t g a = absurd t
  put_there h e (Err d) (Err f) t g a = (overlong h e (lacks_room p (length old) (length new) (length held) (within h e) g) ∙ ap Err (sym t), a)
