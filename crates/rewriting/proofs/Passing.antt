-- A label step and its neighbour change places.
use Rattle.std.proofs.Common.{◌≡◌, ℕ, zero, suc, ◌+◌, ◌≤◌, true, T as Yes, List, [], ◌∷◌, ◌++◌, map, length, take, drop, Some, None, Ok, Option, Result, sym, refl, ap, ◌∙◌, subst, arith}
use Rattle.std.specs.Option.{option_map, ok_or}
use Rattle.std.specs.List.{slice_get}
use Rattle.std.proofs.lemmas.List.{length-take}
use Rattle.triangulations.specs.Meaning.{meant}
use Rattle.triangulations.specs.declared.step.Side.{Side}
use Rattle.triangulations.specs.declared.step.Side.TheVariants.{Left, Right}
use Rattle.triangulations.specs.declared.step.Label.{Label}
use Rattle.triangulations.specs.declared.step.Label.TheVariants.{Turn, Swap}
use Rattle.triangulations.specs.declared.step.Step.{Step}
use Rattle.triangulations.specs.declared.step.Step.TheVariants as step
use Rattle.relations.specs.Rewritings.{passed}
use Rattle.relations.specs.Judging.{Judged, carried_right, carried_left, of_two}
use Rattle.relations.proofs.Beginnings.{when_yes}
use Rattle.walks.specs.declared.walk.Walk.{Walk}
use Rattle.walks.specs.Walks.{held, replaced, renamed_named}
use Rattle.walks.proofs.Moves.{meant_renamed}
use Rattle.std.proofs.lemmas.Option.{none-some, slice_get_within}
use Rattle.rewriting.specs.Rewritten.{carried, done}
use Rattle.rewriting.proofs.Edits.{edited}

after_first : (n : ℕ) → suc n + 1 ≡ suc (n + 1)
after_first n = omega arith

module _ {X : Type 0} where
  two_there : (xs : List X) (p : ℕ) (a b : X) → slice_get xs p ≡ Some a → slice_get xs (p + 1) ≡ Some b → take 2 (drop p xs) ≡ a ∷ b ∷ []
  two_there [] p a b h k = absurd (none-some a h)
  two_there (x ∷ []) zero a b h k = absurd (none-some b k)
  two_there (x ∷ y ∷ xs) zero a b h k = let u : x ≡ a = cc in let v : y ≡ b = cc in λ i. u i ∷ v i ∷ []
  two_there (x ∷ xs) (suc p) a b h k = two_there xs p a b h (sym (ap (slice_get (x ∷ xs)) (after_first p)) ∙ k)

  replaced_suc : (p k : ℕ) (new : List X) (x : X) (xs : List X) → replaced (suc p) k new (x ∷ xs) ≡ x ∷ replaced p k new xs
  replaced_suc p k new x xs = let e : suc p + k ≡ suc (p + k) = omega arith in ap (λ n. (x ∷ take p xs) ++ (new ++ drop n (x ∷ xs))) e

  -- one of two steps that were put in is replaced again
  first_again : (xs : List X) (p : ℕ) (a b y : X) → p ≤ length xs → replaced p 1 (y ∷ []) (replaced p 2 (b ∷ a ∷ []) xs) ≡ replaced p 2 (y ∷ a ∷ []) xs
  first_again xs zero a b y h = refl
  first_again [] (suc p) a b y h = absurd (omega arith)
  first_again (x ∷ xs) (suc p) a b y h =
      ap (replaced (suc p) 1 (y ∷ [])) (replaced_suc p 2 (b ∷ a ∷ []) x xs)
      ∙ (replaced_suc p 1 (y ∷ []) x (replaced p 2 (b ∷ a ∷ []) xs)
      ∙ (ap (λ r. x ∷ r) (first_again xs p a b y (omega arith)) ∙ sym (replaced_suc p 2 (y ∷ a ∷ []) x xs)))

  second_again : (xs : List X) (p : ℕ) (a b y : X) → p ≤ length xs → replaced (p + 1) 1 (y ∷ []) (replaced p 2 (b ∷ a ∷ []) xs) ≡ replaced p 2 (b ∷ y ∷ []) xs
  second_again xs zero a b y h = refl
  second_again [] (suc p) a b y h = absurd (omega arith)
  second_again (x ∷ xs) (suc p) a b y h =
      (λ i. replaced (after_first p i) 1 (y ∷ []) (replaced_suc p 2 (b ∷ a ∷ []) x xs i))
      ∙ (replaced_suc (p + 1) 1 (y ∷ []) x (replaced p 2 (b ∷ a ∷ []) xs)
      ∙ (ap (λ r. x ∷ r) (second_again xs p a b y (omega arith)) ∙ sym (replaced_suc p 2 (b ∷ y ∷ []) x xs)))

  first_put : (xs : List X) (p : ℕ) (a b : X) → p ≤ length xs → slice_get (replaced p 2 (b ∷ a ∷ []) xs) p ≡ Some b
  first_put xs zero a b h = refl
  first_put [] (suc p) a b h = absurd (omega arith)
  first_put (x ∷ xs) (suc p) a b h = ap (λ u. slice_get u (suc p)) (replaced_suc p 2 (b ∷ a ∷ []) x xs) ∙ first_put xs p a b (omega arith)

  second_put : (xs : List X) (p : ℕ) (a b : X) → p ≤ length xs → slice_get (replaced p 2 (b ∷ a ∷ []) xs) (p + 1) ≡ Some a
  second_put xs zero a b h = refl
  second_put [] (suc p) a b h = absurd (omega arith)
  second_put (x ∷ xs) (suc p) a b h = (λ i. slice_get (replaced_suc p 2 (b ∷ a ∷ []) x xs i) (after_first p i)) ∙ second_put xs p a b (omega arith)

-- a walk holds at most 256 steps
pub held_few : (w : Walk) → length (held w) ≤ 256
held_few w = let few = w.few in let full = w.full in let l = length-take w.len w.steps in omega arith

-- the place of the label step, that step, and the one that it passes
abbrev pub Placed : Type 0
Placed = ℕ × Step × Step

abbrev pub placed : ℕ → (a b : Step) → Side → Placed
placed p a b Right = (p, a, b)
placed p a b Left = (p + 1, b, a)

-- a step that was not refused
pub stands : {E : Type 0} (o : Option Step) (s : Step) (e : E) {r : Result Step E} → r ≡ ok_or o e → r ≡ Ok s → Some s ≡ o
stands None s e p q = absurd cc
stands (Some x) s e p q = cc

-- two steps a and b stand at the place
module _ (w : Walk) (p : ℕ) (inside : p ≤ length (held w)) (a b : Step) (ha : Some a ≡ slice_get (held w) p) (hb : Some b ≡ slice_get (held w) (p + 1)) where
  -- others stand there in their place
  crossed : (x y : Step) → done p (map meant (held w)) (Ok (record { old = meant a ∷ meant b ∷ []; new = meant x ∷ meant y ∷ [] })) ≡ Ok (map meant (replaced p 2 (x ∷ y ∷ []) (held w)))
  crossed x y =
      let few = held_few w in
      let l = slice_get_within (held w) (p + 1) b (sym hb) in
      edited p (held w) (a ∷ b ∷ []) (x ∷ y ∷ []) inside (two_there (held w) p a b (sym ha) (sym hb)) (omega arith)

  settled : (j : Judged) (x y : Step) (v : List Step) → j ≡ Ok (record { old = meant a ∷ meant b ∷ []; new = meant x ∷ meant y ∷ [] })
      → v ≡ replaced p 2 (x ∷ y ∷ []) (held w) → done p (map meant (held w)) j ≡ Ok (map meant v)
  settled j x y v e f = ap (done p (map meant (held w))) e ∙ (crossed x y ∙ ap (λ r. Ok (map meant r)) (sym f))

  abbrev pub judged : Side → Judged
  judged to = of_two p (carried p to) (option_map meant (slice_get (held w) p)) (option_map meant (slice_get (held w) (p + 1)))

  -- where each stands once they have changed places
  pub first_crossed : (u : List Step) → u ≡ replaced p 2 (b ∷ a ∷ []) (held w) → slice_get u p ≡ Some b
  first_crossed u e = ap (λ v. slice_get v p) e ∙ first_put (held w) p a b inside

  pub second_crossed : (u : List Step) → u ≡ replaced p 2 (b ∷ a ∷ []) (held w) → slice_get u (p + 1) ≡ Some a
  second_crossed u e = ap (λ v. slice_get v (p + 1)) e ∙ second_put (held w) p a b inside

  -- a swap moves to the right or to the left, and the step that it passed is renamed
  pub swap_right : (l : Label) (e f : ℕ) → a ≡ step.Label l → l ≡ Swap e f → (u v : List Step) → u ≡ replaced p 2 (b ∷ a ∷ []) (held w)
      → v ≡ replaced p 1 (renamed_named e f b ∷ []) u → done p (map meant (held w)) (judged Right) ≡ Ok (map meant v)
  swap_right l e f is_label is_swap u v one two =
      let is : a ≡ step.Label (Swap e f) = is_label ∙ ap step.Label is_swap in
      settled (judged Right) (renamed_named e f b) a v
      ((λ i. of_two p (carried_right p) (option_map meant ((sym ha ∙ ap Some is) i)) (option_map meant (sym hb i)))
      ∙ (λ i. Ok (record { old = meant (sym is i) ∷ meant b ∷ []; new = sym (meant_renamed e f b) i ∷ meant (sym is i) ∷ [] })))
      (two ∙ (ap (replaced p 1 (renamed_named e f b ∷ [])) one ∙ first_again (held w) p a b (renamed_named e f b) inside))

  pub swap_left : (l : Label) (e f : ℕ) → b ≡ step.Label l → l ≡ Swap e f → (u v : List Step) → u ≡ replaced p 2 (b ∷ a ∷ []) (held w)
      → v ≡ replaced (p + 1) 1 (renamed_named e f a ∷ []) u → done p (map meant (held w)) (judged Left) ≡ Ok (map meant v)
  swap_left l e f is_label is_swap u v one two =
      let is : b ≡ step.Label (Swap e f) = is_label ∙ ap step.Label is_swap in
      settled (judged Left) b (renamed_named e f a) v
      ((λ i. of_two p (carried_left p) (option_map meant (sym ha i)) (option_map meant ((sym hb ∙ ap Some is) i)))
      ∙ (λ i. Ok (record { old = meant a ∷ meant (sym is i) ∷ []; new = meant (sym is i) ∷ sym (meant_renamed e f a) i ∷ [] })))
      (two ∙ (ap (replaced (p + 1) 1 (renamed_named e f a ∷ [])) one ∙ second_again (held w) p a b (renamed_named e f a) inside))

  -- a turn moves past a flip or a turn
  pub turn_right : (l : Label) (e : ℕ) → a ≡ step.Label l → l ≡ Turn e → true ≡ passed (meant b) → (u : List Step) → u ≡ replaced p 2 (b ∷ a ∷ []) (held w)
      → done p (map meant (held w)) (judged Right) ≡ Ok (map meant u)
  turn_right l e is_label is_turn pass u one =
      let is : a ≡ step.Label (Turn e) = is_label ∙ ap step.Label is_turn in
      settled (judged Right) b a u
      ((λ i. of_two p (carried_right p) (option_map meant ((sym ha ∙ ap Some is) i)) (option_map meant (sym hb i)))
      ∙ (when_yes (passed (meant b)) _ _ (subst Yes pass tt)
      ∙ (λ i. Ok (record { old = meant (sym is i) ∷ meant b ∷ []; new = meant b ∷ meant (sym is i) ∷ [] })))) one

  pub turn_left : (l : Label) (e : ℕ) → b ≡ step.Label l → l ≡ Turn e → true ≡ passed (meant a) → (u : List Step) → u ≡ replaced p 2 (b ∷ a ∷ []) (held w)
      → done p (map meant (held w)) (judged Left) ≡ Ok (map meant u)
  turn_left l e is_label is_turn pass u one =
      let is : b ≡ step.Label (Turn e) = is_label ∙ ap step.Label is_turn in
      settled (judged Left) b a u
      ((λ i. of_two p (carried_left p) (option_map meant (sym ha i)) (option_map meant ((sym hb ∙ ap Some is) i)))
      ∙ (when_yes (passed (meant a)) _ _ (subst Yes pass tt)
      ∙ (λ i. Ok (record { old = meant a ∷ meant (sym is i) ∷ []; new = meant (sym is i) ∷ meant a ∷ [] })))) one

  -- a swap moves past the other step, which is renamed
  abbrev pub SwapCarried : Side → Placed → Type 0
  SwapCarried to m =
      (l : Label) (e f : ℕ) → m.1 ≡ step.Label l → l ≡ Swap e f → (u v : List Step) → u ≡ replaced p 2 (b ∷ a ∷ []) (held w)
      → ((s : Step) → slice_get u m.0 ≡ Some s → v ≡ replaced m.0 1 (renamed_named e f s ∷ []) u) → done p (map meant (held w)) (judged to) ≡ Ok (map meant v)

  pub swap_carried : (to : Side) (m : Placed) → m ≡ placed p a b to → SwapCarried to m
  swap_carried to m is = subst (SwapCarried to) (sym is) (by to)
    where
      by : (to : Side) → SwapCarried to (placed p a b to)
      by Right l e f q r u v one two = swap_right l e f q r u v one (two b (first_crossed u one))
      by Left l e f q r u v one two = swap_left l e f q r u v one (two a (second_crossed u one))

  -- a turn moves past a flip or a turn
  abbrev pub TurnCarried : Side → Placed → Type 0
  TurnCarried to m =
      (l : Label) (e : ℕ) → m.1 ≡ step.Label l → l ≡ Turn e → true ≡ passed (meant m.2) → (u : List Step) → u ≡ replaced p 2 (b ∷ a ∷ []) (held w)
      → done p (map meant (held w)) (judged to) ≡ Ok (map meant u)

  pub turn_carried : (to : Side) (m : Placed) → m ≡ placed p a b to → TurnCarried to m
  turn_carried to m is = subst (TurnCarried to) (sym is) (by to)
    where
      by : (to : Side) → TurnCarried to (placed p a b to)
      by Right l e q r t u one = turn_right l e q r t u one
      by Left l e q r t u one = turn_left l e q r t u one
