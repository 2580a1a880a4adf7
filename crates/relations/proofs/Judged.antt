-- Judging grants exactly what the list allows, and refuses for the reason that holds.
use Rattle.std.proofs.Common.{◌≡◌, ℕ, zero, suc, ◌+◌, ◌<◌, ◌≤◌, Bool, true, false, cond, not, T as Yes, leb, List, [], ◌∷◌, ◌++◌, length, take, drop, Some, None, Ok, Err, Option, Result, sym, refl, ap, ◌∙◌, subst, inl, inr, arith, le→leb, leb→le, length-append, take-append-drop, length-take}
use lib.Dec.{not_T, nleb→lt}
use Rattle.std.proofs.lemmas.List.{drop_at, take_at}
use Rattle.std.specs.List.{slice_get}
use Rattle.triangulations.specs.Triangulations.{Triangulation, Lawful}
use Rattle.triangulations.specs.Steps.{Step, inverse, leads, Legal}
use Rattle.triangulations.specs.Meaning.{meant}
use Rattle.triangulations.specs.declared.step.Step.{Step as Named}
use Rattle.triangulations.specs.declared.records.RecordFault.{RecordFault}
use Rattle.rewriting_records.specs.declared.record.Record.{Record}
use Rattle.rewriting_records.specs.declared.record.Rewriting.{Rewriting}
use Rattle.rewriting_records.specs.declared.record.Rewriting.TheVariants.{DropPair, InsertPair, JoinDouble, SplitDouble, Exchange, CarryRight, CarryLeft, ClosePentagon, OpenPentagon}
use Rattle.rewriting_records.specs.declared.fault.RewritingFault.{RewritingFault}
use Rattle.rewriting_records.specs.declared.fault.RewritingFault.TheVariants.{PlaceBeyond, NoForm, NoCondition, TooLong}
use Rattle.rewriting_records.specs.Records.{spelling}
use Rattle.relations.specs.Pentagons.{Pentagon, pentagon_at}
use Rattle.relations.specs.Rewritings.{Rewrites}
use Rattle.relations.specs.Refusals.{Formed, Shaped, Pentagonal, Placed, Unlisted, Refusal, misspelt, beyond, no_form, no_condition, not_legal_there, no_pentagon, pentagon_form, too_long}
use Rattle.relations.specs.Judging.{legal, first_illegal, Change, Judged, closed, opened, change, begins, fitting, few, put, from_place, judge_spelt, judge, Judges}
use Rattle.relations.proofs.Corners.{Found, found, found_it}
use Rattle.relations.proofs.Walking.{leads_lawful}
use Rattle.relations.proofs.Beginnings.{clash, same_ok, same_err, when_yes, when_no, ok_if, err_if, legal_yes, yes_legal, none_illegal}
use Rattle.relations.proofs.Here.{here, Here, here_listed, here_made, Reason, here_reason, has_form}

nth_drop : (w : List Step) (p k : ℕ) → slice_get w (p + k) ≡ slice_get (drop p w) k
nth_drop w zero k = ap (slice_get w) (omega arith)
nth_drop [] (suc p) k = refl
nth_drop (s ∷ w) (suc p) k = let e : suc p + k ≡ suc (p + k) = omega arith in ap (slice_get (s ∷ w)) e ∙ nth_drop w p k

few_ok : (w w' : List Step) → few w ≡ Ok w' → (w ≡ w') × (length w' ≤ 256)
few_ok w w' q = let g = ok_if (leb (length w) 256) w w' _ q in (g.1, subst (λ u. length u ≤ 256) g.1 (leb→le _ _ g.0))

few_err : (w : List Step) (f : RewritingFault) → few w ≡ Err f → (f ≡ TooLong) × (256 < length w)
few_err w f q = let g = err_if (leb (length w) 256) w TooLong f q in (g.1, nleb→lt (length w) 256 g.0)

module _ (t : Triangulation) (law : Lawful t) (w : List Step) (ρ : Record) (h : Legal (take ρ.place w) t) where
  abbrev there : Triangulation
  there = leads (take ρ.place w) t

  abbrev rest : List Step
  rest = drop ρ.place w

  there_lawful : Lawful there
  there_lawful = leads_lawful (take ρ.place w) t law h

  -- a record that spells r, with its place in the walk
  placed : (r : Rewriting) → Placed t w ρ r → judge t w ρ ≡ put ρ.place w (here ρ.place there r rest)
  placed r a =
      ap (judge_spelt t w ρ.place) a.spells
      ∙ (when_yes (leb ρ.place (length w)) _ _ (le→leb _ _ a.inside)
      ∙ (ap (from_place t w ρ.place r) (none_illegal (take ρ.place w) t h)
      ∙ (λ i. put ρ.place w (fitting ρ.place rest (change ρ.place there r (first i) (nth_drop w ρ.place 1 i))))))
    where
      first : slice_get w ρ.place ≡ slice_get rest 0
      first = (let e : ρ.place ≡ ρ.place + 0 = omega arith in ap (slice_get w) e) ∙ nth_drop w ρ.place 0

  -- what a change at the place makes
  whole : (r : Rewriting) → Placed t w ρ r → (c : Change) → Here ρ.place there r rest c
      → Rewrites t ρ w (take ρ.place w ++ (c.new ++ drop (length c.old) rest))
  whole r a c d = record {
    rewriting = r;
    before = take ρ.place w;
    old = c.old;
    new = c.new;
    after = drop (length c.old) rest;
    spells = a.spells;
    place = length-take ρ.place w ∙ (let l = a.inside in omega arith);
    change = d.listed;
    from = sym (take-append-drop ρ.place w) ∙ ap (λ u. take ρ.place w ++ u) d.front;
    to = refl;
  }

  -- where a walk is related, the record is placed, and this is the change at its place
  pub record Put (w' : List Step) : Type 0 where
    pub rewriting : Rewriting
    pub change : Change
    pub placed : Placed t w ρ rewriting
    pub found_here : here ρ.place there rewriting rest ≡ Ok change
    pub whole : w' ≡ take ρ.place w ++ (change.new ++ drop (length change.old) rest)

  related : (w' : List Step) → Rewrites t ρ w w' → Put w'
  related w' r = record {
    rewriting = r.rewriting;
    change = record { old = r.old; new = r.new };
    placed = record {
      spells = r.spells;
      inside = subst (λ n. n ≤ length w) r.place (subst (λ u. length r.before ≤ length u) (sym r.from) (simp length-append (omega arith)));
    };
    found_here =
        (λ i. here ρ.place (leads (front i) t) r.rewriting (back i))
        ∙ here_made ρ.place (leads r.before t) (subst (λ u. Lawful (leads u t)) front there_lawful) r.after r.change;
    whole =
        r.to
        ∙ (ap (λ u. r.before ++ (r.new ++ u)) (sym (drop_at r.old r.after (length r.old) refl))
        ∙ sym (λ i. front i ++ (r.new ++ drop (length r.old) (back i))));
  }
    where
      front : take ρ.place w ≡ r.before
      front = (λ i. take (sym r.place i) (r.from i)) ∙ take_at r.before (r.old ++ r.after) (length r.before) refl

      back : drop ρ.place w ≡ r.old ++ r.after
      back = (λ i. drop (sym r.place i) (r.from i)) ∙ drop_at r.before (r.old ++ r.after) (length r.before) refl

  judged : (w' : List Step) → Rewrites t ρ w w' → judge t w ρ ≡ few w'
  judged w' r = let a = related w' r in placed a.rewriting a.placed ∙ (ap (put ρ.place w) a.found_here ∙ ap few (sym a.whole))

  -- granted
  grants : (w' : List Step) → judge t w ρ ≡ Ok w' → Rewrites t ρ w w' × (length w' ≤ 256)
  grants w' q = go (spelling t.edges ρ) refl q
    where
      put_ok : (r : Rewriting) → Placed t w ρ r → (j : Judged) → here ρ.place there r rest ≡ j → put ρ.place w j ≡ Ok w' → Rewrites t ρ w w' × (length w' ≤ 256)
      put_ok r a (Err f) e q = clash w' f (sym q)
      put_ok r a (Ok c) e q =
          let g = few_ok _ w' q in
          (subst (Rewrites t ρ w) g.0 (whole r a c (here_listed ρ.place there r rest c e)), g.1)

      inside : (r : Rewriting) → spelling t.edges ρ ≡ Ok r → (b : Bool) → leb ρ.place (length w) ≡ b → judge t w ρ ≡ Ok w'
          → cond b (from_place t w ρ.place r (first_illegal (take ρ.place w) t)) (Err (PlaceBeyond ρ.place)) ≡ Ok w' → Rewrites t ρ w w' × (length w' ≤ 256)
      inside r e false l j q = clash w' _ (sym q)
      inside r e true l j q =
          let a : Placed t w ρ r = record { spells = e; inside = leb→le _ _ (subst Yes (sym l) tt) } in
          put_ok r a _ refl (sym (placed r a) ∙ j)

      go : (s : Result Rewriting RecordFault) → spelling t.edges ρ ≡ s → judge_spelt t w ρ.place s ≡ Ok w' → Rewrites t ρ w w' × (length w' ≤ 256)
      go (Err f) e q = clash w' _ (sym q)
      go (Ok r) e q = inside r e _ refl (ap (judge_spelt t w ρ.place) e ∙ q) q

  one : (u v : List Step) → Rewrites t ρ w u → Rewrites t ρ w v → u ≡ v
  one u v r s =
      let a = related u r in
      let b = related v s in
      let same : a.rewriting ≡ b.rewriting = same_ok _ _ (sym a.placed.spells ∙ b.placed.spells) in
      let so : a.change ≡ b.change = same_ok _ _ (sym a.found_here ∙ (ap (λ z. here ρ.place there z rest) same ∙ b.found_here)) in
      a.whole ∙ (ap (λ (c : Change). take ρ.place w ++ (c.new ++ drop (length c.old) rest)) so ∙ sym b.whole)

  -- no walk is related where the change is refused
  unlisted : (r : Rewriting) → Placed t w ρ r → (f : RewritingFault) → here ρ.place there r rest ≡ Err f → Unlisted t w ρ
  unlisted r a f q w' s =
      let b = related w' s in
      let same : b.rewriting ≡ r = same_ok _ _ (sym b.placed.spells ∙ a.spells) in
      clash b.change f (sym b.found_here ∙ (ap (λ z. here ρ.place there z rest) same ∙ q))

  formed_refusal : (r : Rewriting) → Placed t w ρ r → Formed r → (f : RewritingFault) → here ρ.place there r rest ≡ Err f → Refusal t w ρ f
  formed_refusal r a k f q = go (here_reason ρ.place there r k rest f q)
    where
      go : Reason ρ.place r rest f → Refusal t w ρ f
      go (inl e) = subst (Refusal t w ρ) (sym e) (no_form r a k (λ s. has_form ρ.place there s.where_so s.after s.change k
          (ap (here ρ.place there r) (sym s.from) ∙ (q ∙ ap Err e))))
      go (inr (e, s)) = subst (Refusal t w ρ) (sym e) (no_condition r a k s (unlisted r a f q))

  insert_refusal : (s : Named) → Placed t w ρ (InsertPair s) → (f : RewritingFault) → here ρ.place there (InsertPair s) rest ≡ Err f → Refusal t w ρ f
  insert_refusal s a f q = go (legal (meant s) there) refl q
    where
      go : (b : Bool) → legal (meant s) there ≡ b
          → fitting ρ.place rest (cond b (Ok (record { old = []; new = meant s ∷ inverse (meant s) ∷ [] })) (Err (NoCondition ρ.place))) ≡ Err f → Refusal t w ρ f
      go true e q = clash _ f q
      go false e q =
          subst (Refusal t w ρ) (same_err _ f q) (not_legal_there s a (λ k. subst Yes e (legal_yes (meant s) there k)))

  -- the change of a pentagon whose darts are found or not
  pentagon_refusal : (r : Rewriting) (e k : ℕ) → Placed t w ρ r → Pentagonal r e k → (make : Option (ℕ × ℕ) → Judged)
      → (make None ≡ Err (NoCondition ρ.place)) → ((d : ℕ × ℕ) → (c : Change) × (make (Some d) ≡ Ok c))
      → (d : Option (ℕ × ℕ)) → Found there.next e k d → (f : RewritingFault)
      → here ρ.place there r rest ≡ fitting ρ.place rest (make d) → here ρ.place there r rest ≡ Err f → Refusal t w ρ f
  pentagon_refusal r e k a shape make none so None h f u q =
      subst (Refusal t w ρ) (same_err _ f (sym (ap (fitting ρ.place rest) none) ∙ (sym u ∙ q))) (no_pentagon r e k a shape h)
  pentagon_refusal r e k a shape make none so (Some d) h f u q =
      let c = so d in
      let g = err_if (begins c.0.old rest) c.0 (NoForm ρ.place) f (sym (ap (fitting ρ.place rest) c.1) ∙ (sym u ∙ q)) in
      subst (Refusal t w ρ) (sym g.1) (pentagon_form r e k d.0 d.1 a shape h (unlisted r a f q))

  here_refusal : (r : Rewriting) → Placed t w ρ r → (f : RewritingFault) → here ρ.place there r rest ≡ Err f → Refusal t w ρ f
  here_refusal DropPair a f q = formed_refusal DropPair a tt f q
  here_refusal (InsertPair s) a f q = insert_refusal s a f q
  here_refusal JoinDouble a f q = formed_refusal JoinDouble a tt f q
  here_refusal SplitDouble a f q = formed_refusal SplitDouble a tt f q
  here_refusal Exchange a f q = formed_refusal Exchange a tt f q
  here_refusal CarryRight a f q = formed_refusal CarryRight a tt f q
  here_refusal CarryLeft a f q = formed_refusal CarryLeft a tt f q
  here_refusal (ClosePentagon e k) a f q =
      pentagon_refusal (ClosePentagon e k) e k a (inl refl) (closed ρ.place there.next e k) refl (λ d. (_, refl)) _ (found there.next e k) f refl q
  here_refusal (OpenPentagon e k) a f q =
      pentagon_refusal (OpenPentagon e k) e k a (inr refl) (opened ρ.place there.next e k) refl (λ d. (_, refl)) _ (found there.next e k) f refl q

  refuses : (f : RewritingFault) → judge t w ρ ≡ Err f → Refusal t w ρ f
  refuses f q = go (spelling t.edges ρ) refl q
    where
      put_err : (r : Rewriting) → Placed t w ρ r → (j : Judged) → here ρ.place there r rest ≡ j → put ρ.place w j ≡ Err f → Refusal t w ρ f
      put_err r a (Err g) e q = here_refusal r a f (e ∙ ap Err (same_err g f q))
      put_err r a (Ok c) e q =
          let g = few_err _ f q in
          subst (Refusal t w ρ) (sym g.0) (too_long _ (whole r a c (here_listed ρ.place there r rest c e)) g.1)

      inside : (r : Rewriting) → spelling t.edges ρ ≡ Ok r → (b : Bool) → leb ρ.place (length w) ≡ b → judge t w ρ ≡ Err f
          → cond b (from_place t w ρ.place r (first_illegal (take ρ.place w) t)) (Err (PlaceBeyond ρ.place)) ≡ Err f → Refusal t w ρ f
      inside r e false l j q = subst (Refusal t w ρ) (same_err _ f q) (beyond r e (nleb→lt _ _ (subst (λ b. Yes (not b)) (sym l) tt)))
      inside r e true l j q =
          let a : Placed t w ρ r = record { spells = e; inside = leb→le _ _ (subst Yes (sym l) tt) } in
          put_err r a _ refl (sym (placed r a) ∙ j)

      go : (s : Result Rewriting RecordFault) → spelling t.edges ρ ≡ s → judge_spelt t w ρ.place s ≡ Err f → Refusal t w ρ f
      go (Err g) e q = subst (Refusal t w ρ) (same_err _ f q) (misspelt g e)
      go (Ok r) e q = inside r e _ refl (ap (judge_spelt t w ρ.place) e ∙ q) q

  -- what is refused here is refused
  settled : (r : Rewriting) → Placed t w ρ r → (f : RewritingFault) → here ρ.place there r rest ≡ Err f → judge t w ρ ≡ Err f
  settled r a f q = placed r a ∙ ap (put ρ.place w) q

  -- a change here makes a walk
  not_here : (r : Rewriting) → Placed t w ρ r → Unlisted t w ρ → (c : Change) {X : Type 0} → here ρ.place there r rest ≡ Ok c → X
  not_here r a k c q = absurd (k _ (whole r a c (here_listed ρ.place there r rest c q)))

  formless : (r : Rewriting) → Placed t w ρ r → Formed r → (Shaped r rest → ⊥) → (j : Judged) → here ρ.place there r rest ≡ j → here ρ.place there r rest ≡ Err (NoForm ρ.place)
  formless r a k s (Ok c) q =
      let d = here_listed ρ.place there r rest c q in
      absurd (s (record { where_so = there; old = c.old; new = c.new; after = drop (length c.old) rest; change = d.listed; from = d.front }))
  formless r a k s (Err f) q = go (here_reason ρ.place there r k rest f q)
    where
      go : Reason ρ.place r rest f → here ρ.place there r rest ≡ Err (NoForm ρ.place)
      go (inl e) = q ∙ ap Err e
      go (inr (e, x)) = absurd (s x)

  conditionless : (r : Rewriting) → Placed t w ρ r → Formed r → Shaped r rest → Unlisted t w ρ → (j : Judged) → here ρ.place there r rest ≡ j
      → here ρ.place there r rest ≡ Err (NoCondition ρ.place)
  conditionless r a k s none (Ok c) q = not_here r a none c q
  conditionless r a k s none (Err f) q = go (here_reason ρ.place there r k rest f q)
    where
      go : Reason ρ.place r rest f → here ρ.place there r rest ≡ Err (NoCondition ρ.place)
      go (inl e) = absurd (has_form ρ.place there s.where_so s.after s.change k (ap (here ρ.place there r) (sym s.from) ∙ (q ∙ ap Err e)))
      go (inr (e, x)) = q ∙ ap Err e

  pentagon_here : (r : Rewriting) (e k : ℕ) → Pentagonal r e k
      → (make : Option (ℕ × ℕ) → Judged) × (make None ≡ Err (NoCondition ρ.place)) × ((d : ℕ × ℕ) → (c : Change) × (make (Some d) ≡ Ok c))
      × (here ρ.place there r rest ≡ fitting ρ.place rest (make (pentagon_at there.next e k)))
  pentagon_here r e k (inl s) = (closed ρ.place there.next e k, refl, (λ d. (_, refl)), ap (λ z. here ρ.place there z rest) s)
  pentagon_here r e k (inr s) = (opened ρ.place there.next e k, refl, (λ d. (_, refl)), ap (λ z. here ρ.place there z rest) s)

  placeless : (e k : ℕ) → ((x y : ℕ) → Pentagon there.next e k x y → ⊥) → (d : Option (ℕ × ℕ)) → Found there.next e k d → d ≡ None
  placeless e k none None h = refl
  placeless e k none (Some d) h = absurd (none d.0 d.1 h)

  misfit : (r : Rewriting) → Placed t w ρ r → Unlisted t w ρ → (c : Change) → here ρ.place there r rest ≡ fitting ρ.place rest (Ok c)
      → (b : Bool) → begins c.old rest ≡ b → here ρ.place there r rest ≡ Err (NoForm ρ.place)
  misfit r a none c q true e = not_here r a none c (q ∙ ap (λ z. cond z (Ok c) (Err (NoForm ρ.place))) e)
  misfit r a none c q false e = q ∙ ap (λ z. cond z (Ok c) (Err (NoForm ρ.place))) e

  refusing : (f : RewritingFault) → Refusal t w ρ f → judge t w ρ ≡ Err f
  refusing f (misspelt g e) = ap (judge_spelt t w ρ.place) e
  refusing f (beyond r e l) =
      ap (judge_spelt t w ρ.place) e ∙ when_no (leb ρ.place (length w)) _ _ (not_T _ (λ y. let z = leb→le _ _ y in omega arith))
  refusing f (no_form r a k s) = settled r a _ (formless r a k s _ refl)
  refusing f (no_condition r a k s none) = settled r a _ (conditionless r a k s none _ refl)
  refusing f (not_legal_there s a k) =
      settled (InsertPair s) a _ (ap (fitting ρ.place rest) (when_no (legal (meant s) there) _ _ (not_T _ (λ y. k (yes_legal (meant s) there y)))))
  refusing f (no_pentagon r e k a s none) =
      let m = pentagon_here r e k s in
      settled r a _ (m.3 ∙ (ap (λ d. fitting ρ.place rest (m.0 d)) (placeless e k none _ (found there.next e k)) ∙ ap (fitting ρ.place rest) m.1))
  refusing f (pentagon_form r e k x y a s at none) =
      let m = pentagon_here r e k s in
      let c = m.2 (x, y) in
      settled r a _ (misfit r a none c.0
      (m.3 ∙ (ap (λ d. fitting ρ.place rest (m.0 d)) (found_it there there_lawful e k x y at) ∙ ap (fitting ρ.place rest) c.1)) _ refl)
  refusing f (too_long w' r l) = judged w' r ∙ when_no (leb (length w') 256) _ _ (not_T _ (λ y. let z = leb→le _ _ y in omega arith))

  pub judges : Judges t w ρ
  judges = record {
    grants = grants;
    granting = λ w' r k. judged w' r ∙ when_yes (leb (length w') 256) _ _ (le→leb _ _ k);
    one = one;
    refuses = refuses;
    refusing = refusing;
  }
