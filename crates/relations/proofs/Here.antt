-- What a rewriting changes at the beginning of a walk is what the list says, and why it changes nothing.
use Rattle.std.proofs.Common.{◌≡◌, ℕ, ◌+◌, ◌*◌, Bool, true, false, cond, not, ◌||◌, T as Yes, ◌≢◌, ◌⊎◌, List, [], ◌∷◌, ◌++◌, length, drop, Some, None, Ok, Err, Option, sym, refl, ap, ◌∙◌, subst, inl, inr, arith, ne_eqb}
use Rattle.std.specs.List.{slice_get}
use Rattle.triangulations.specs.Triangulations.{Triangulation, Lawful, together, flippable, shares}
use Rattle.triangulations.specs.Steps.{Step, L, R, T, S, Direction, left, right, flip_step, inverse}
use Rattle.triangulations.specs.Meaning.{meant}
use Rattle.rewriting_records.specs.declared.record.Rewriting.{Rewriting}
use Rattle.rewriting_records.specs.declared.record.Rewriting.TheVariants.{DropPair, InsertPair, JoinDouble, SplitDouble, Exchange, CarryRight, CarryLeft, ClosePentagon, OpenPentagon}
use Rattle.rewriting_records.specs.declared.fault.RewritingFault.{RewritingFault}
use Rattle.rewriting_records.specs.declared.fault.RewritingFault.TheVariants.{NoForm, NoCondition}
use Rattle.relations.specs.Rewritings.{passed, Changes, pair_dropped, pair_put_in, double_joined, double_split, apart, swap_right, turn_right, swap_left, turn_left, pentagon_closed, pentagon_opened}
use Rattle.relations.specs.Refusals.{Formed, Shaped}
use Rattle.relations.specs.Judging.{legal, Change, Judged, dropped, joined, split, flipped_edge, parted, carried_right, carried_left, of_two, closed, opened, change, begins, fitting}
use Rattle.relations.proofs.Beginnings.{clash, same_ok, same_err, when_yes, when_no, ok_if, ok_unless, err_if, err_unless, legal_yes, yes_legal, begins_with, begins_front}
use Rattle.relations.proofs.Corners.{Found, found, found_it}

-- the change at the beginning of w, in t
abbrev pub here : (p : ℕ) → Triangulation → Rewriting → List Step → Judged
here p t r w = fitting p w (change p t r (slice_get w 0) (slice_get w 1))

flip_view : (s : Step) (e : ℕ) → flipped_edge s ≡ Some e → (w : Direction) × (s ≡ flip_step w e)
flip_view (L k) e p = (left, cc)
flip_view (R k) e p = (right, cc)
flip_view (T k) e p = absurd (let z : ◌≡◌ {A = ℕ} 0 1 = cc in omega arith)
flip_view (S k l) e p = absurd (let z : ◌≡◌ {A = ℕ} 0 1 = cc in omega arith)

-- a change of the list
abbrev Listed : Triangulation → Rewriting → Change → Type 0
Listed t r c = Changes t r c.old c.new

module _ (p : ℕ) (t : Triangulation) where
  listed_as : (r : Rewriting) (old new : List Step) (c : Change) → Changes t r old new → record { old = old; new = new } ≡ c → Listed t r c
  listed_as r old new c h e = subst (Listed t r) e h

  listed_ok : (r : Rewriting) (old new : List Step) (c : Change) → Changes t r old new → ◌≡◌ {A = Judged} (Ok (record { old = old; new = new })) (Ok c) → Listed t r c
  listed_ok r old new c h e = listed_as r old new c h (same_ok _ c e)

  parted_listed : (s s' : Step) (c : Change) (a b : Option ℕ) → flipped_edge s ≡ a → flipped_edge s' ≡ b → parted p t.next s s' a b ≡ Ok c → Listed t Exchange c
  parted_listed s s' c None b u v q = clash c _ (sym q)
  parted_listed s s' c (Some e) None u v q = clash c _ (sym q)
  parted_listed s s' c (Some e) (Some f) u v q =
      let g = ok_unless (shares t.next e f) _ c _ q in
      let m = flip_view s e u in
      let n = flip_view s' f v in
      listed_as Exchange _ _ c
      (subst (λ z. Changes t Exchange (s ∷ z ∷ []) (z ∷ s ∷ [])) (sym n.1)
      (subst (λ z. Changes t Exchange (z ∷ flip_step n.0 f ∷ []) (flip_step n.0 f ∷ z ∷ [])) (sym m.1) (apart m.0 n.0 e f g.0)))
      g.1

  right_listed : (s s' : Step) (c : Change) → carried_right p s s' ≡ Ok c → Listed t CarryRight c
  right_listed (L e) s' c q = clash c _ (sym q)
  right_listed (R e) s' c q = clash c _ (sym q)
  right_listed (T e) s' c q = let g = ok_if (passed s') _ c _ q in listed_as CarryRight _ _ c (turn_right e s' g.0) g.1
  right_listed (S e f) s' c q = listed_ok CarryRight _ _ c (swap_right e f s') q

  left_listed : (s s' : Step) (c : Change) → carried_left p s s' ≡ Ok c → Listed t CarryLeft c
  left_listed s (L e) c q = clash c _ (sym q)
  left_listed s (R e) c q = clash c _ (sym q)
  left_listed s (T e) c q = let g = ok_if (passed s) _ c _ q in listed_as CarryLeft _ _ c (turn_left e s g.0) g.1
  left_listed s (S e f) c q = listed_ok CarryLeft _ _ c (swap_left e f s) q

  joined_listed : (first : Option Step) (c : Change) → joined p first ≡ Ok c → Listed t JoinDouble c
  joined_listed None c q = clash c _ (sym q)
  joined_listed (Some (L e)) c q = listed_ok JoinDouble _ _ c (double_joined e) q
  joined_listed (Some (R e)) c q = clash c _ (sym q)
  joined_listed (Some (T e)) c q = clash c _ (sym q)
  joined_listed (Some (S e f)) c q = clash c _ (sym q)

  split_listed : (first : Option Step) (c : Change) → split p t.next first ≡ Ok c → Listed t SplitDouble c
  split_listed None c q = clash c _ (sym q)
  split_listed (Some (L e)) c q = clash c _ (sym q)
  split_listed (Some (R e)) c q = clash c _ (sym q)
  split_listed (Some (T e)) c q = let g = ok_if (flippable t.next e) _ c _ q in listed_as SplitDouble _ _ c (double_split e g.0) g.1
  split_listed (Some (S e f)) c q = clash c _ (sym q)

  dropped_listed : (first : Option Step) (c : Change) → dropped p first ≡ Ok c → Listed t DropPair c
  dropped_listed None c q = clash c _ (sym q)
  dropped_listed (Some s) c q = listed_ok DropPair _ _ c (pair_dropped s) q

  closed_listed : (e f : ℕ) (c : Change) (d : Option (ℕ × ℕ)) → Found t.next e f d → closed p t.next e f d ≡ Ok c → Listed t (ClosePentagon e f) c
  closed_listed e f c None h q = clash c _ (sym q)
  closed_listed e f c (Some d) h q = listed_ok (ClosePentagon e f) _ _ c (pentagon_closed e f d.0 d.1 h) q

  opened_listed : (e f : ℕ) (c : Change) (d : Option (ℕ × ℕ)) → Found t.next e f d → opened p t.next e f d ≡ Ok c → Listed t (OpenPentagon e f) c
  opened_listed e f c None h q = clash c _ (sym q)
  opened_listed e f c (Some d) h q = listed_ok (OpenPentagon e f) _ _ c (pentagon_opened e f d.0 d.1 h) q

  two_listed : (r : Rewriting) (judged : Step → Step → Judged) → ((s s' : Step) (c : Change) → judged s s' ≡ Ok c → Listed t r c)
      → (first second : Option Step) (c : Change) → of_two p judged first second ≡ Ok c → Listed t r c
  two_listed r judged h None second c q = clash c _ (sym q)
  two_listed r judged h (Some s) None c q = clash c _ (sym q)
  two_listed r judged h (Some s) (Some s') c q = h s s' c q

  pub change_listed : (r : Rewriting) (first second : Option Step) (c : Change) → change p t r first second ≡ Ok c → Listed t r c
  change_listed DropPair first second c q = dropped_listed first c q
  change_listed (InsertPair s) first second c q =
      let g = ok_if (legal (meant s) t) _ c _ q in listed_as (InsertPair s) _ _ c (pair_put_in s (yes_legal (meant s) t g.0)) g.1
  change_listed JoinDouble first second c q = joined_listed first c q
  change_listed SplitDouble first second c q = split_listed first c q
  change_listed Exchange first second c q = two_listed Exchange _ (λ s s' c q. parted_listed s s' c _ _ refl refl q) first second c q
  change_listed CarryRight first second c q = two_listed CarryRight _ right_listed first second c q
  change_listed CarryLeft first second c q = two_listed CarryLeft _ left_listed first second c q
  change_listed (ClosePentagon e f) first second c q = closed_listed e f c _ (found t.next e f) q
  change_listed (OpenPentagon e f) first second c q = opened_listed e f c _ (found t.next e f) q

  -- and all of them
  pub change_made : Lawful t → {r : Rewriting} {old new : List Step} (after : List Step) → Changes t r old new
      → change p t r (slice_get (old ++ after) 0) (slice_get (old ++ after) 1) ≡ Ok (record { old = old; new = new })
  change_made law after (pair_dropped s) = refl
  change_made law after (pair_put_in s h) = when_yes (legal (meant s) t) _ _ (legal_yes (meant s) t h)
  change_made law after (double_joined e) = refl
  change_made law after (double_split e h) = when_yes (flippable t.next e) _ _ h
  change_made law after (apart left left e f h) = when_no (shares t.next e f) _ _ h
  change_made law after (apart left right e f h) = when_no (shares t.next e f) _ _ h
  change_made law after (apart right left e f h) = when_no (shares t.next e f) _ _ h
  change_made law after (apart right right e f h) = when_no (shares t.next e f) _ _ h
  change_made law after (swap_right e f s) = refl
  change_made law after (turn_right e s h) = when_yes (passed s) _ _ h
  change_made law after (swap_left e f s) = refl
  change_made law after (turn_left e s h) = when_yes (passed s) _ _ h
  change_made law after (pentagon_closed e f x y at) = ap (closed p t.next e f) (found_it t law e f x y at)
  change_made law after (pentagon_opened e f x y at) = ap (opened p t.next e f) (found_it t law e f x y at)

  -- the change here is one of the list, and the steps are there
  pub record Here (r : Rewriting) (w : List Step) (c : Change) : Type 0 where
    pub listed : Changes t r c.old c.new
    pub front : w ≡ c.old ++ drop (length c.old) w

  pub here_listed : (r : Rewriting) (w : List Step) (c : Change) → here p t r w ≡ Ok c → Here r w c
  here_listed r w c q = go (change p t r (slice_get w 0) (slice_get w 1)) refl q
    where
      go : (j : Judged) → change p t r (slice_get w 0) (slice_get w 1) ≡ j → fitting p w j ≡ Ok c → Here r w c
      go (Err f) e q = clash c f (sym q)
      go (Ok d) e q =
          let g = ok_if (begins d.old w) d c _ q in
          let C : Change → Type 0 = Here r w in
          subst C g.1 (record { listed = change_listed r (slice_get w 0) (slice_get w 1) d e; front = begins_front d.old w g.0 })

  pub here_made : Lawful t → {r : Rewriting} {old new : List Step} (after : List Step) → Changes t r old new
      → here p t r (old ++ after) ≡ Ok (record { old = old; new = new })
  here_made law {old = old} after h =
      ap (fitting p (old ++ after)) (change_made law after h)
      ∙ when_yes (begins old (old ++ after)) _ _ (subst Yes (sym (begins_with old after)) tt)

-- Why a rewriting changes nothing here: the steps lack its form, or they have it and the condition fails.
abbrev pub Reason : (p : ℕ) → Rewriting → List Step → RewritingFault → Type 0
Reason p r w f = (f ≡ NoForm p) ⊎ ((f ≡ NoCondition p) × Shaped r w)

-- triangulations that show a form: one in which every edge can be flipped, and one in which no two share a triangle
loops : Triangulation
loops = record { edges = 0; next = λ d. Some d }

loops_flippable : (e : ℕ) → Yes (flippable loops.next e)
unfolding loops together
loops_flippable e = subst (λ b. Yes (not (b || (b || b)))) (sym (ne_eqb (2 * e + 1) (2 * e) (λ p. omega arith))) tt

blank : Triangulation
blank = record { edges = 0; next = λ d. None }

blank_apart : (e f : ℕ) → Yes (not (shares blank.next e f))
unfolding blank
blank_apart e f = tt

module _ (p : ℕ) (t : Triangulation) where
  lacking : (r : Rewriting) (w : List Step) (f : RewritingFault) → ◌≡◌ {A = Judged} (Err (NoForm p)) (Err f) → Reason p r w f
  lacking r w f q = inl (sym (same_err (NoForm p) f q))

  lacking_if : (r : Rewriting) (w : List Step) (b : Bool) (c : Change) (f : RewritingFault) → cond b (Ok c) (Err (NoForm p)) ≡ Err f → Reason p r w f
  lacking_if r w b c f q = inl (err_if b c (NoForm p) f q).1

  joined_reason : (w : List Step) (f : RewritingFault) → joined p (slice_get w 0) ≡ Err f → Reason p JoinDouble w f
  joined_reason [] f q = lacking JoinDouble _ f q
  joined_reason (L e ∷ w) f q = clash _ f q
  joined_reason (R e ∷ w) f q = lacking JoinDouble _ f q
  joined_reason (T e ∷ w) f q = lacking JoinDouble _ f q
  joined_reason (S e k ∷ w) f q = lacking JoinDouble _ f q

  split_reason : (w : List Step) (f : RewritingFault) → split p t.next (slice_get w 0) ≡ Err f → Reason p SplitDouble w f
  split_reason [] f q = lacking SplitDouble _ f q
  split_reason (L e ∷ w) f q = lacking SplitDouble _ f q
  split_reason (R e ∷ w) f q = lacking SplitDouble _ f q
  split_reason (T e ∷ w) f q = inr (
    (err_if (flippable t.next e) _ (NoCondition p) f q).1,
    record { where_so = loops; old = T e ∷ []; new = L e ∷ L e ∷ []; after = w; change = double_split e (loops_flippable e); from = refl },
  )
  split_reason (S e k ∷ w) f q = lacking SplitDouble _ f q

  parted_reason : (s s' : Step) (w : List Step) (f : RewritingFault) (a b : Option ℕ) → flipped_edge s ≡ a → flipped_edge s' ≡ b
      → parted p t.next s s' a b ≡ Err f → Reason p Exchange (s ∷ s' ∷ w) f
  parted_reason s s' w f None b u v q = lacking Exchange _ f q
  parted_reason s s' w f (Some e) None u v q = lacking Exchange _ f q
  parted_reason s s' w f (Some e) (Some k) u v q =
      let m = flip_view s e u in
      let n = flip_view s' k v in
      inr (
        err_unless (shares t.next e k) _ (NoCondition p) f q,
        record {
          where_so = blank;
          old = flip_step m.0 e ∷ flip_step n.0 k ∷ [];
          new = flip_step n.0 k ∷ flip_step m.0 e ∷ [];
          after = w;
          change = apart m.0 n.0 e k (blank_apart e k);
          from = λ i. m.1 i ∷ n.1 i ∷ w;
        },
      )

  right_reason : (s s' : Step) (w : List Step) (f : RewritingFault) → carried_right p s s' ≡ Err f → Reason p CarryRight w f
  right_reason (L e) s' w f q = lacking CarryRight w f q
  right_reason (R e) s' w f q = lacking CarryRight w f q
  right_reason (T e) s' w f q = lacking_if CarryRight w (passed s') _ f q
  right_reason (S e k) s' w f q = clash _ f q

  left_reason : (s s' : Step) (w : List Step) (f : RewritingFault) → carried_left p s s' ≡ Err f → Reason p CarryLeft w f
  left_reason s (L e) w f q = lacking CarryLeft w f q
  left_reason s (R e) w f q = lacking CarryLeft w f q
  left_reason s (T e) w f q = lacking_if CarryLeft w (passed s) _ f q
  left_reason s (S e k) w f q = clash _ f q

  two_reason : (r : Rewriting) (judged : Step → Step → Judged)
      → ((s s' : Step) (w : List Step) (f : RewritingFault) → judged s s' ≡ Err f → Reason p r (s ∷ s' ∷ w) f)
      → (w : List Step) (f : RewritingFault) → of_two p judged (slice_get w 0) (slice_get w 1) ≡ Err f → Reason p r w f
  two_reason r judged h [] f q = lacking r [] f q
  two_reason r judged h (s ∷ []) f q = lacking r _ f q
  two_reason r judged h (s ∷ s' ∷ w) f q = h s s' w f q

  dropped_reason : (w : List Step) (f : RewritingFault) → dropped p (slice_get w 0) ≡ Err f → Reason p DropPair w f
  dropped_reason [] f q = lacking DropPair [] f q
  dropped_reason (s ∷ w) f q = clash _ f q

  change_reason : (r : Rewriting) → Formed r → (w : List Step) (f : RewritingFault) → change p t r (slice_get w 0) (slice_get w 1) ≡ Err f → Reason p r w f
  change_reason DropPair h w f q = dropped_reason w f q
  change_reason (InsertPair s) h w f q = absurd h
  change_reason JoinDouble h w f q = joined_reason w f q
  change_reason SplitDouble h w f q = split_reason w f q
  change_reason Exchange h w f q = two_reason Exchange _ (λ s s' w f q. parted_reason s s' w f _ _ refl refl q) w f q
  change_reason CarryRight h w f q = two_reason CarryRight _ (λ s s' w f q. right_reason s s' _ f q) w f q
  change_reason CarryLeft h w f q = two_reason CarryLeft _ (λ s s' w f q. left_reason s s' _ f q) w f q
  change_reason (ClosePentagon e k) h w f q = absurd h
  change_reason (OpenPentagon e k) h w f q = absurd h

  pub here_reason : (r : Rewriting) → Formed r → (w : List Step) (f : RewritingFault) → here p t r w ≡ Err f → Reason p r w f
  here_reason r h w f q = go (change p t r (slice_get w 0) (slice_get w 1)) refl q
    where
      go : (j : Judged) → change p t r (slice_get w 0) (slice_get w 1) ≡ j → fitting p w j ≡ Err f → Reason p r w f
      go (Err g) e q = change_reason r h w f (e ∙ q)
      go (Ok c) e q = inl (err_if (begins c.old w) c (NoForm p) f q).1

  -- steps that have the form are never said to lack it
  unlike : NoCondition p ≢ NoForm p
  unlike e = let z : ◌≡◌ {A = ℕ} 0 1 = cc in omega arith

  fits : (old after : List Step) (c : Change) (f : RewritingFault) {X : Type 0} → c.old ≡ old → fitting p (old ++ after) (Ok c) ≡ Err f → X
  fits old after c f e q =
      clash c f (sym (when_yes (begins c.old (old ++ after)) _ _ (subst (λ u. Yes (begins u (old ++ after))) (sym e) (subst Yes (sym (begins_with old after)) tt))) ∙ q)

  fits_if : (b : Bool) (old after : List Step) (c : Change) → c.old ≡ old → fitting p (old ++ after) (cond b (Ok c) (Err (NoCondition p))) ≡ Err (NoForm p) → ⊥
  fits_if true old after c e q = fits old after c _ e q
  fits_if false old after c e q = unlike (same_err _ _ q)

  fits_unless : (b : Bool) (old after : List Step) (c : Change) → c.old ≡ old → fitting p (old ++ after) (cond b (Err (NoCondition p)) (Ok c)) ≡ Err (NoForm p) → ⊥
  fits_unless true old after c e q = unlike (same_err _ _ q)
  fits_unless false old after c e q = fits old after c _ e q

  fits_when : (b : Bool) (old after : List Step) (c : Change) (f : RewritingFault) → Yes b → c.old ≡ old → fitting p (old ++ after) (cond b (Ok c) (Err f)) ≡ Err f → ⊥
  fits_when true old after c f h e q = fits old after c _ e q
  fits_when false old after c f h e q = h

  pub has_form : (t' : Triangulation) {r : Rewriting} {old new : List Step} (after : List Step) → Changes t' r old new → Formed r → here p t r (old ++ after) ≡ Err (NoForm p) → ⊥
  has_form t' after (pair_dropped s) h q = fits (s ∷ inverse s ∷ []) after _ _ refl q
  has_form t' after (pair_put_in s k) h q = h
  has_form t' after (double_joined e) h q = fits (L e ∷ L e ∷ []) after _ _ refl q
  has_form t' after (double_split e k) h q = fits_if (flippable t.next e) (T e ∷ []) after _ refl q
  has_form t' after (apart left left e f k) h q = fits_unless (shares t.next e f) (L e ∷ L f ∷ []) after _ refl q
  has_form t' after (apart left right e f k) h q = fits_unless (shares t.next e f) (L e ∷ R f ∷ []) after _ refl q
  has_form t' after (apart right left e f k) h q = fits_unless (shares t.next e f) (R e ∷ L f ∷ []) after _ refl q
  has_form t' after (apart right right e f k) h q = fits_unless (shares t.next e f) (R e ∷ R f ∷ []) after _ refl q
  has_form t' after (swap_right e f s) h q = fits (S e f ∷ s ∷ []) after _ _ refl q
  has_form t' after (turn_right e s k) h q = fits_when (passed s) (T e ∷ s ∷ []) after _ _ k refl q
  has_form t' after (swap_left e f s) h q = fits (s ∷ S e f ∷ []) after _ _ refl q
  has_form t' after (turn_left e s k) h q = fits_when (passed s) (s ∷ T e ∷ []) after _ _ k refl q
  has_form t' after (pentagon_closed e f x y at) h q = h
  has_form t' after (pentagon_opened e f x y at) h q = h
