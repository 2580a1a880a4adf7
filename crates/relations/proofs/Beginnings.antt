-- Answers and tests, legal steps, and steps at the beginning of a walk.
use Rattle.std.proofs.Math.Facts.{and_yes, yes_and}
use Rattle.std.proofs.Common.{◌≡◌, ℕ, Bool, true, false, cond, not, ◌&&◌, T as Yes, ltb, eqb, List, [], ◌∷◌, ◌++◌, length, drop, None, Ok, Err, Result, sym, refl, ap, ◌∙◌, arith, ltb→lt, lt→ltb, eqb→eq, eq-eqb}
use Rattle.triangulations.specs.Triangulations.{Triangulation}
use Rattle.triangulations.specs.Steps.{Step, L, R, T, S, apply_step, LegalStep, Legal}
use Rattle.relations.specs.Judging.{legal, first_illegal, one_more, same_step, begins}

-- answers that differ
pub clash : {A E X : Type 0} (a : A) (f : E) → Ok a ≡ Err f → X
clash a f p = absurd (let z : ◌≡◌ {A = ℕ} 0 1 = cc in omega arith)

pub same_ok : {A E : Type 0} (a b : A) → ◌≡◌ {A = Result A E} (Ok a) (Ok b) → a ≡ b
same_ok a b p = cc

pub same_err : {A E : Type 0} (f g : E) → ◌≡◌ {A = Result A E} (Err f) (Err g) → f ≡ g
same_err f g p = cc

-- tests
pub when_yes : {B : Type 0} (b : Bool) (x y : B) → Yes b → cond b x y ≡ x
when_yes true x y h = refl
when_yes false x y h = absurd h

pub when_no : {B : Type 0} (b : Bool) (x y : B) → Yes (not b) → cond b x y ≡ y
when_no true x y h = absurd h
when_no false x y h = refl

pub ok_if : {A E : Type 0} (b : Bool) (a c : A) (f : E) → cond b (Ok a) (Err f) ≡ Ok c → Yes b × (a ≡ c)
ok_if true a c f p = (tt, same_ok a c p)
ok_if false a c f p = clash c f (sym p)

pub ok_unless : {A E : Type 0} (b : Bool) (a c : A) (f : E) → cond b (Err f) (Ok a) ≡ Ok c → Yes (not b) × (a ≡ c)
ok_unless true a c f p = clash c f (sym p)
ok_unless false a c f p = (tt, same_ok a c p)

pub err_if : {A E : Type 0} (b : Bool) (a : A) (f g : E) → cond b (Ok a) (Err f) ≡ Err g → Yes (not b) × (g ≡ f)
err_if true a f g p = clash a g p
err_if false a f g p = (tt, sym (same_err f g p))

pub err_unless : {A E : Type 0} (b : Bool) (a : A) (f g : E) → cond b (Err f) (Ok a) ≡ Err g → g ≡ f
err_unless true a f g p = sym (same_err f g p)
err_unless false a f g p = clash a g p

-- legal steps
pub legal_yes : (s : Step) (t : Triangulation) → LegalStep s t → Yes (legal s t)
legal_yes (L e) t h = h
legal_yes (R e) t h = h
legal_yes (T e) t h = lt→ltb e t.edges h
legal_yes (S e f) t h = yes_and (ltb e f) (ltb f t.edges) (lt→ltb e f h.0) (lt→ltb f t.edges h.1)

pub yes_legal : (s : Step) (t : Triangulation) → Yes (legal s t) → LegalStep s t
yes_legal (L e) t h = h
yes_legal (R e) t h = h
yes_legal (T e) t h = ltb→lt e t.edges h
yes_legal (S e f) t h = let k = and_yes (ltb e f) (ltb f t.edges) h in (ltb→lt e f k.0, ltb→lt f t.edges k.1)

pub none_illegal : (w : List Step) (t : Triangulation) → Legal w t → first_illegal w t ≡ None
none_illegal [] t h = refl
none_illegal (s ∷ w) t h = when_yes (legal s t) _ _ (legal_yes s t h.0) ∙ ap one_more (none_illegal w (apply_step s t) h.1)

-- steps at the beginning of a walk
same_self : (s : Step) → same_step s s ≡ true
same_self (L e) = eq-eqb e e refl
same_self (R e) = eq-eqb e e refl
same_self (T e) = eq-eqb e e refl
same_self (S e f) = λ i. eq-eqb e e refl i && eq-eqb f f refl i

pub same_is : (s s' : Step) → Yes (same_step s s') → s ≡ s'
same_is (L e) (L f) h = ap L (eqb→eq e f h)
same_is (R e) (R f) h = ap R (eqb→eq e f h)
same_is (T e) (T f) h = ap T (eqb→eq e f h)
same_is (S e f) (S g k) h = let p = and_yes (eqb e g) (eqb f k) h in λ i. S (eqb→eq e g p.0 i) (eqb→eq f k p.1 i)
same_is (L e) s' h = absurd h
same_is (R e) s' h = absurd h
same_is (T e) s' h = absurd h
same_is (S e f) s' h = absurd h

pub begins_with : (old after : List Step) → begins old (old ++ after) ≡ true
begins_with [] after = refl
begins_with (s ∷ old) after = λ i. same_self s i && begins_with old after i

pub begins_front : (old w : List Step) → Yes (begins old w) → w ≡ old ++ drop (length old) w
begins_front [] w h = refl
begins_front (s ∷ old) [] h = absurd h
begins_front (s ∷ old) (s' ∷ w) h =
    let k = and_yes (same_step s s') (begins old w) h in
    λ i. sym (same_is s s' k.0) i ∷ begins_front old w k.1 i
