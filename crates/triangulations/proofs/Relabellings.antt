-- New names for the darts: turns and swaps are their own inverse.
use Rattle.std.proofs.Common.{◌≡◌, ℕ, ◌+◌, ◌*◌, ◌/◌, ◌%◌, ◌<◌, Bool, true, false, cond, eqb, ◌≢◌, Some, None, Option, sym, refl, ap, ◌∙◌, arith, lit<, eq-eqb, ne_eqb}
use native.Mathlib.Decide.{ℕ_discrete}
use mathlib.Core.Path.{fun_ext}
use Rattle.triangulations.specs.Triangulations.{Table, partner, edge_of}
use Rattle.triangulations.specs.Steps.{renamed, turn, exchanged, swap, relabelled}

abbrev pub Own : (ℕ → ℕ) → Type 0
Own π = (x : ℕ) → π (π x) ≡ x

renamed_twice : (π : ℕ → ℕ) → Own π → (r : Option ℕ) → renamed π (renamed π r) ≡ r
renamed_twice π own None = refl
renamed_twice π own (Some x) = ap Some (own x)

pub relabelled_twice : (π : ℕ → ℕ) → Own π → (t : Table) → relabelled π (relabelled π t) ≡ t
unfolding relabelled
relabelled_twice π own t = fun_ext (λ d. ap (λ x. renamed π (renamed π (t x))) (own d) ∙ renamed_twice π own (t d))

-- exchanging two edges
pub exchanged_first : (e f k : ℕ) → k ≡ e → exchanged e f k ≡ f
exchanged_first e f k h = ap (λ b. cond b f (cond (eqb k f) e k)) (eq-eqb k e h)

pub exchanged_second : (e f k : ℕ) → k ≡ f → exchanged e f k ≡ e
exchanged_second e f k h = go (ℕ_discrete k e)
  where
    go : Dec (k ≡ e) → exchanged e f k ≡ e
    go (yes q) = exchanged_first e f k q ∙ (sym h ∙ q)
    go (no q) = λ i. cond (ne_eqb k e q i) f (cond (eq-eqb k f h i) e k)

pub exchanged_else : (e f k : ℕ) → k ≢ e → k ≢ f → exchanged e f k ≡ k
exchanged_else e f k h q = λ i. cond (ne_eqb k e h i) f (cond (ne_eqb k f q i) e k)

pub exchanged_own : (e f : ℕ) → Own (exchanged e f)
exchanged_own e f k = go (ℕ_discrete k e) (ℕ_discrete k f)
  where
    go : Dec (k ≡ e) → Dec (k ≡ f) → exchanged e f (exchanged e f k) ≡ k
    go (yes p) q = exchanged_second e f _ (exchanged_first e f k p) ∙ sym p
    go (no p) (yes q) = exchanged_first e f _ (exchanged_second e f k q) ∙ sym q
    go (no p) (no q) = ap (exchanged e f) (exchanged_else e f k p q) ∙ exchanged_else e f k p q

pub exchanged_below : (e f k n : ℕ) → e < n → f < n → k < n → exchanged e f k < n
exchanged_below e f k n he hf hk = go (eqb k e) (eqb k f)
  where
    go : (b c : Bool) → cond b f (cond c e k) < n
    go true c = hf
    go false true = he
    go false false = hk

-- a dart by its edge and its side
side_edge : (k s : ℕ) → s < 2 → (2 * k + s) / 2 ≡ k
side_edge k s h = omega arith

pub side_side : (k s : ℕ) → s < 2 → (2 * k + s) % 2 ≡ s
side_side k s h = omega arith

pub side_below : (d : ℕ) → d % 2 < 2
side_below d = omega arith

pub swap_at : (e f k s : ℕ) → s < 2 → swap e f (2 * k + s) ≡ 2 * exchanged e f k + s
swap_at e f k s h = λ i. 2 * exchanged e f (side_edge k s h i) + side_side k s h i

pub swap_own : (e f : ℕ) → Own (swap e f)
swap_own e f d = swap_at e f (exchanged e f (edge_of d)) (d % 2) (side_below d) ∙ (ap (λ k. 2 * k + d % 2) (exchanged_own e f (edge_of d)) ∙ omega arith)

pub swap_even : (e f k : ℕ) → swap e f (2 * k) ≡ 2 * exchanged e f k
swap_even e f k = (λ i. 2 * exchanged e f (p i) + q i) ∙ omega arith
  where
    p : edge_of (2 * k) ≡ k
    p = omega arith

    q : (2 * k) % 2 ≡ 0
    q = omega arith

pub swap_odd : (e f k : ℕ) → swap e f (2 * k + 1) ≡ 2 * exchanged e f k + 1
swap_odd e f k = swap_at e f k 1 (lit< tt)

pub turn_first : (e d : ℕ) → edge_of d ≡ e → turn e d ≡ partner d
turn_first e d h = ap (λ b. cond b (partner d) d) (eq-eqb (edge_of d) e h)

pub turn_other : (e d : ℕ) → edge_of d ≢ e → turn e d ≡ d
turn_other e d h = ap (λ b. cond b (partner d) d) (ne_eqb (edge_of d) e h)

pub partner_edge : (d : ℕ) → edge_of (partner d) ≡ edge_of d
partner_edge d = omega arith

partner_own : Own partner
partner_own d = omega arith

pub turn_edge : (e d : ℕ) → edge_of (turn e d) ≡ edge_of d
turn_edge e d = go (eqb (edge_of d) e)
  where
    go : (b : Bool) → edge_of (cond b (partner d) d) ≡ edge_of d
    go true = partner_edge d
    go false = refl

pub turn_own : (e : ℕ) → Own (turn e)
turn_own e d = go (ℕ_discrete (edge_of d) e)
  where
    go : Dec (edge_of d ≡ e) → turn e (turn e d) ≡ d
    go (yes p) = turn_first e (turn e d) (turn_edge e d ∙ p) ∙ (ap partner (turn_first e d p) ∙ partner_own d)
    go (no p) = ap (turn e) (turn_other e d p) ∙ turn_other e d p

pub swap_edge : (e f d : ℕ) → edge_of (swap e f d) ≡ exchanged e f (edge_of d)
swap_edge e f d = side_edge (exchanged e f (edge_of d)) (d % 2) (side_below d)
