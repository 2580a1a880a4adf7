-- What `find_map` finds over a range.
use Rattle.std.proofs.Common.{◌≡◌, ℕ, ◌+◌, ◌<◌, Some, None, Option, sym, ◌∙◌, subst, arith}
use Rattle.std.specs.Bool.{IsTrue}
use Rattle.std.specs.Option.{MatchOption, IfSome, IsSomeAnd, option_map}
use Rattle.std.specs.Iterator.Runs.{Run, SomeRun, AllItemsGive, IsFirstToGive, CallKeepsClosure, ItemsCountUp}
use Rattle.std.proofs.lemmas.Option.{same_Some}
use Rattle.std.proofs.iter.Yields.{nat_range_steps}
use Rattle.std.proofs.iter.runs.Sources.{range_runs}
use Rattle.polygon_counting.proofs.Searching.{Tells}
use Rattle.std.specs.Fn.{Called}
use denote.Param.Members.{Mut}

-- the item that came at place k is k
if_item : (P : ℕ → Type 0) (o : Option ℕ) (k : ℕ) → option_map (λ y. y) o ≡ Some (0 + k) → IfSome o P → P k
if_item P None k e w = absurd (cc)
if_item P (Some x) k e w = subst P (same_Some x (0 + k) e ∙ omega arith) w

is_item : (P : ℕ → Type 0) (o : Option ℕ) (k : ℕ) → option_map (λ y. y) o ≡ Some (0 + k) → IsSomeAnd o P → P k
is_item P None k e w = absurd w
is_item P (Some x) k e w = subst P (same_Some x (0 + k) e ∙ omega arith) w

-- what it says of the calls of f along a run: all answered `None`, or the last was the first to answer another
abbrev GivesFirst : {F B : Type 0} → Mut F (ℕ × Unit {0}) (Option B) → F → Option B → Run nat_range_steps → Type 0
GivesFirst g f r p = MatchOption r (IsTrue p.whole × AllItemsGive p g f None) (λ y. (i : ℕ) × (i < p.len) × (p.len ≡ i + 1) × IsFirstToGive p g f (Some y) None i)

-- where f answers h of each number below n, it finds the first of h 0, h 1, .., h (n - 1) that there is
pub first_mapped : {F B : Type 0} {g : Mut F (ℕ × Unit {0}) (Option B)} (h : ℕ → Option B) (n : ℕ) {s : _} (f : F) (r : Option B) → SomeRun nat_range_steps s (GivesFirst g f r)
    → s ≡ record { start = 0; end = n } → ((x : ℕ) (b : Option B) (q : F) → Called g f (x, tt) b q → (q ≡ f) × (b ≡ h x))
    → Tells n h r
first_mapped {B = B} {g = g} h n f r w e c = ends r w.2
  where
    p : Run nat_range_steps
    p = w.0

    counts : ItemsCountUp p 0 n
    counts = subst (λ s. ItemsCountUp p s.start s.end) (w.1 ∙ e) (range_runs p p.seen)

    keeps : CallKeepsClosure g f
    keeps a b q k = (c a.0 b q k).0

    ends : (r : Option B) → GivesFirst g f r p → Tells n h r
    ends None v = λ k l. sym (c k None f (if_item (λ x. Called g f (x, tt) None f) (p.at k) k (counts.3 k (omega (arith, counts.1 v.0))) (v.1 keeps k))).1
    ends (Some y) v = (
      v.0,
      omega (arith, counts.0, v.1),
      sym (c v.0 (Some y) f (is_item (λ x. Called g f (x, tt) (Some y) f) (p.at v.0) v.0 (counts.3 v.0 v.1) (v.3 keeps).0)).1,
      λ k l. sym (c k None f (is_item (λ x. Called g f (x, tt) None f) (p.at k) k (counts.3 k (omega (arith, v.1))) ((v.3 keeps).1 k l))).1,
    )
