-- What a step does to the table on a board.
use Rattle.std.proofs.Common.{◌≡◌, ℕ, ◌+◌, ◌*◌, ◌<◌, ◌≤◌, Bool, true, false, cond, not, ◌&&◌, ◌||◌, T as Yes, eqb, List, length, get_or, Decides, Option, Some, None, sym, refl, ap, ◌∙◌, subst, arith, ne_eqb}
use native.Mathlib.Decide.{dec_lt}
use mathlib.Core.Path.{fun_ext}
use Rattle.triangulations.specs.Triangulations.{is_some, Table, Triangulation, Lawful, after, inside, together, flippable, meets, shares}
use Rattle.triangulations.specs.Steps.{left, right, opposite, triangle_in, with_d, with_p, flipped_by, flipped, relabelled, renamed, stepped, apply_step, LegalStep, flip_step, Direction}
use Rattle.triangulations.specs.Steps.{Step as Move}
use Rattle.triangulations.specs.Stored.{table_of, stored, Within, written, lawful_list}
use Rattle.triangulations.proofs.Stored.{table_triangle, beyond, lawful_from_list, list_from_lawful, yes_is}
use Rattle.triangulations.proofs.Frames.{flipped_as}
use Rattle.triangulations.proofs.Flips.{flip_parts, inside_tri}
use Rattle.triangulations.proofs.Labels.{step_lawful}
use Rattle.triangulations.proofs.Triangles.{turn_else}
use Rattle.triangulations.proofs.Pairs.{swap_other}
use Rattle.triangulations.specs.declared.board.Board.{Board}
use Rattle.triangulations.specs.declared.quadrilateral.Quadrilateral.{Quadrilateral}
use Rattle.triangulations.specs.declared.step.Label.{Label}
use Rattle.triangulations.specs.declared.step.Label.TheVariants.{Turn, Swap}
use Rattle.triangulations.specs.Meaning.{naming, meant_label, NamesLabel}
use Rattle.triangulations.specs.Boards.{table, on, around}

pub law : (b : Board) → Lawful (on b)
law b = lawful_from_list b.table.edges b.table.next b.lawful

-- what a board needs and means after the step s
pub record Kept (x : Board) (s : Move) (ys : List (Option ℕ)) : Type 0 where
  pub few : x.table.edges ≤ 64
  pub full : length ys ≡ 128
  pub lawful : Yes (lawful_list x.table.edges ys)
  pub moved : stored x.table.edges ys ≡ apply_step s (on x)

-- a legal step keeps the board lawful
pub keeps : (x : Board) (s : Move) (ys : List (Option ℕ)) → LegalStep s (on x) → length ys ≡ length x.table.next → table_of ys ≡ stepped s (table x) → Kept x s ys
keeps x s ys legal long is = record {
  few = x.table.few;
  full = long ∙ x.table.full;
  lawful = list_from_lawful x.table.edges ys (let P : Table → Type 0 = λ u. Lawful (record { edges = x.table.edges; next = u }) in subst P (sym is) (step_lawful s (on x) (law x) legal));
  moved = λ i. record { edges = x.table.edges; next = is i };
}

flip_stepped : (w : Direction) (e : ℕ) (t : Table) → flipped w (2 * e) (2 * e + 1) t ≡ stepped (flip_step w e) t
flip_stepped left e t = refl
flip_stepped right e t = refl

pub flip_legal : (w : Direction) (e : ℕ) (t : Triangulation) → Yes (flippable t.next e) → LegalStep (flip_step w e) t
flip_legal left e t h = h
flip_legal right e t h = h

-- three listed darts of six are below n
with_p_within : (w : Direction) (n p a b c g : ℕ) → p < n → a < n → b < n → c < n → g < n → Within n (with_p w p a b c g)
with_p_within left n p a b c g hp ha hb hc hg = (hp, hg, ha)
with_p_within right n p a b c g hp ha hb hc hg = (hp, hb, hc)

with_d_within : (w : Direction) (n d a b c g : ℕ) → d < n → a < n → b < n → c < n → g < n → Within n (with_d w d a b c g)
with_d_within left n d a b c g hd ha hb hc hg = (hd, hb, hc)
with_d_within right n d a b c g hd ha hb hc hg = (hd, hg, ha)

-- the triangle that a flip makes with p is that of a flip to the other side, begun by p
pub by_other : (w u : Direction) (p a b c g : ℕ) (one : List ℕ) → one ≡ with_d u p a b c g → u ≡ opposite w → one ≡ with_p w p a b c g
by_other left u p a b c g one e o = e ∙ ap (λ v. with_d v p a b c g) o
by_other right u p a b c g one e o = e ∙ ap (λ v. with_d v p a b c g) o

pub granted : (b : Bool) (r q : Quadrilateral) → cond b (Some r) None ≡ Some q → (true ≡ b) × (q ≡ r)
granted true r q e = (refl, cc)
granted false r q e = let z : ◌≡◌ {A = ℕ} 0 1 = cc in absurd (omega arith)

-- the two triangles at an edge that can be flipped, and those that a flip writes over them
module _ (x : Board) (w : Direction) (e : ℕ) (q : Quadrilateral) (given : cond (flippable (table x) e) (Some (around (table x) e)) None ≡ Some q)
    (one other : List ℕ) (is_one : one ≡ with_p w q.p q.a q.b q.c q.g) (is_other : other ≡ with_d w q.d q.a q.b q.c q.g) where
  can : true ≡ flippable (table x) e
  can = (granted _ _ q given).0

  place : q ≡ around (table x) e
  place = (granted _ _ q given).1

  one_is : one ≡ with_p w (2 * e + 1) q.a q.b q.c q.g
  one_is = is_one ∙ ap (λ (r : Quadrilateral). with_p w r.p q.a q.b q.c q.g) place

  other_is : other ≡ with_d w (2 * e) q.a q.b q.c q.g
  other_is = is_other ∙ ap (λ (r : Quadrilateral). with_d w r.d q.a q.b q.c q.g) place

  ha : q.a ≡ after (table x) (2 * e)
  ha = ap (λ (r : Quadrilateral). r.a) place

  hb : q.b ≡ after (table x) q.a
  hb = ap (λ (r : Quadrilateral). r.b) place ∙ ap (after (table x)) (sym ha)

  hc : q.c ≡ after (table x) (2 * e + 1)
  hc = ap (λ (r : Quadrilateral). r.c) place

  hg : q.g ≡ after (table x) q.c
  hg = ap (λ (r : Quadrilateral). r.g) place ∙ ap (after (table x)) (sym hc)

  -- a dart that follows an inside dart lies on the board, and is inside
  on_board : (d f : ℕ) → Yes (inside (table x) d) → f ≡ after (table x) d → (d < length x.table.next) × (f < length x.table.next) × Yes (inside (table x) f)
  on_board d f i is =
      let tri = inside_tri (on x) (law x) d i in
      let bd = (law x).bounded _ _ tri.one in
      let bf = (law x).bounded _ _ tri.two in
      let few = x.table.few in
      let full = x.table.full in
      let P : ℕ → Type 0 = λ k. k < length x.table.next in
      let I : ℕ → Type 0 = λ k. Yes (inside (table x) k) in
      (omega arith, subst P (sym is) (omega arith), subst I (sym is) (subst (λ r. Yes (is_some r)) (sym tri.two) tt))

  parts : Yes (inside (table x) (2 * e)) × Yes (inside (table x) (2 * e + 1)) × Yes (not (together (table x) (2 * e) (2 * e + 1)))
  parts = flip_parts (on x) (law x) e (subst Yes can tt)

  a_on : (2 * e < length x.table.next) × (q.a < length x.table.next) × Yes (inside (table x) q.a)
  a_on = on_board (2 * e) q.a parts.0 ha

  c_on : (2 * e + 1 < length x.table.next) × (q.c < length x.table.next) × Yes (inside (table x) q.c)
  c_on = on_board (2 * e + 1) q.c parts.1 hc

  pub one_within : Within (length x.table.next) one
  one_within = let P : List ℕ → Type 0 = Within (length x.table.next) in subst P (sym one_is)
      (with_p_within w _ (2 * e + 1) q.a q.b q.c q.g c_on.0 a_on.1 (on_board q.a q.b a_on.2 hb).1 c_on.1 (on_board q.c q.g c_on.2 hg).1)

  pub other_within : Within (length x.table.next) other
  other_within = let P : List ℕ → Type 0 = Within (length x.table.next) in subst P (sym other_is)
      (with_d_within w _ (2 * e) q.a q.b q.c q.g a_on.0 a_on.1 (on_board q.a q.b a_on.2 hb).1 c_on.1 (on_board q.c q.g c_on.2 hg).1)

  pub flip_kept : (ys zs : List (Option ℕ)) → ys ≡ written (get_or one 0 0) (get_or one 1 0) (get_or one 2 0) x.table.next → zs ≡ written (get_or other 0 0) (get_or other 1 0) (get_or other 2 0) ys
      → length ys ≡ length x.table.next → length zs ≡ length ys → Kept x (flip_step w e) zs
  unfolding flipped_by
  flip_kept ys zs hy hz ly lz = keeps x (flip_step w e) zs (flip_legal w e (on x) (subst Yes can tt)) (lz ∙ ly) (
      ap table_of hz ∙ (table_triangle ys _ _ _ (wide other_within.0) (wide other_within.1) (wide other_within.2)
      ∙ ((λ i. triangle_in (other_is i) (first i))
      ∙ (sym (flipped_as w (table x) (2 * e) (2 * e + 1) q.a q.b q.c q.g (sym ha) (sym hb) (sym hc) (sym hg)) ∙ flip_stepped w e (table x)))))
    where
      wide : {k : ℕ} → k < length x.table.next → k < length ys
      wide {k} h = subst (λ n. k < n) (sym ly) h

      first : table_of ys ≡ triangle_in (with_p w (2 * e + 1) q.a q.b q.c q.g) (table x)
      first = ap table_of hy ∙ (table_triangle x.table.next _ _ _ one_within.0 one_within.1 one_within.2 ∙ ap (λ l. triangle_in l (table x)) one_is)

naming_past : (l : Label) → NamesLabel l 64 → (d : ℕ) → 128 ≤ d → naming l d ≡ d
naming_past (Turn e) h d k = turn_else e d (λ q. absurd (omega arith)) (λ q. absurd (omega arith))
naming_past (Swap e f) h d k = let h0 = h.0 in let h1 = h.1 in swap_other e f d (λ q. absurd (omega arith)) (λ q. absurd (omega arith)) (λ q. absurd (omega arith)) (λ q. absurd (omega arith))

pub names_few : (l : Label) (m n : ℕ) → m ≤ n → NamesLabel l m → NamesLabel l n
names_few (Turn e) m n h k = omega arith
names_few (Swap e f) m n h k = let k1 = k.1 in (k.0, omega arith)

pub relabelled_board : (x : Board) (l : Label) → NamesLabel l x.table.edges → (ys : List (Option ℕ)) → length ys ≡ 128
    → ((k : ℕ) → k < 128 → table_of ys k ≡ renamed (naming l) (table x (naming l k))) → table_of ys ≡ relabelled (naming l) (table x)
unfolding relabelled
relabelled_board x l h ys long each = fun_ext (λ d. go d (dec_lt d 128))
  where
    go : (d : ℕ) → Dec (d < 128) → table_of ys d ≡ renamed (naming l) (table x (naming l d))
    go d (yes k) = each d k
    go d (no k) =
        let full = x.table.full in
        beyond ys d (omega arith) ∙ sym (ap (renamed (naming l)) (ap (table x) (naming_past l (names_few l x.table.edges 64 x.table.few h) d (omega arith)) ∙ beyond x.table.next d (omega arith)))

pub label_stepped : (l : Label) (t : Table) → stepped (meant_label l) t ≡ relabelled (naming l) t
label_stepped (Turn e) t = refl
label_stepped (Swap e f) t = refl

pub label_legal : (l : Label) (t : Triangulation) → NamesLabel l t.edges → LegalStep (meant_label l) t
label_legal (Turn e) t h = h
label_legal (Swap e f) t h = h

-- a label step, once each place of the new table is that of the old one with the names exchanged
pub label_kept : (x : Board) (l : Label) → NamesLabel l x.table.edges → (ys : List (Option ℕ)) → length ys ≡ 128
    → ((k : ℕ) → k < 128 → table_of ys k ≡ renamed (naming l) (table x (naming l k))) → Kept x (meant_label l) ys
label_kept x l h ys long each =
    keeps x (meant_label l) ys (label_legal l (on x) h) (long ∙ sym x.table.full) (relabelled_board x l h ys long each ∙ sym (label_stepped l (table x)))

-- edges past the last share nothing
meets_past : (t : Triangulation) → Lawful t → (d f : ℕ) → t.edges ≤ f → meets t.next d f ≡ false
unfolding together
meets_past t law d f h = go (inside t.next d) refl
  where
    go : (b : Bool) → inside t.next d ≡ b → (b && (together t.next d (2 * f) || together t.next d (2 * f + 1))) ≡ false
    go false e = refl
    go true e =
        let tri = inside_tri t law d (subst Yes (sym e) tt) in
        let bd = law.bounded _ _ tri.one in
        let ba = law.bounded _ _ tri.two in
        let bb = law.bounded _ _ tri.three in
        let no : (x y : ℕ) → x < 2 * t.edges → 2 * f ≤ y → eqb y x ≡ false = λ x y p q. ne_eqb y x (λ r. absurd (omega arith)) in
        λ i. (no d (2 * f) bd (omega arith) i || (no _ (2 * f) ba (omega arith) i || no _ (2 * f) bb (omega arith) i)) || (no d (2 * f + 1) bd (omega arith) i || (no _ (2 * f + 1) ba (omega arith) i || no _ (2 * f + 1) bb (omega arith) i))

meets_none : (xs : List (Option ℕ)) (d f : ℕ) → length xs ≤ d → meets (table_of xs) d f ≡ false
meets_none xs d f h = ap (λ r. is_some r && (together (table_of xs) d (2 * f) || together (table_of xs) d (2 * f + 1))) (beyond xs d h)

pub shares_past : (x : Board) (e f : ℕ) → 64 ≤ f → shares (table x) e f ≡ false
shares_past x e f h = let few = x.table.few in λ i. meets_past (on x) (law x) (2 * e) f (omega arith) i || meets_past (on x) (law x) (2 * e + 1) f (omega arith) i

pub shares_none : (x : Board) (e f : ℕ) → 64 ≤ e → shares (table x) e f ≡ false
shares_none x e f h = let full = x.table.full in λ i. meets_none x.table.next (2 * e) f (omega arith) i || meets_none x.table.next (2 * e + 1) f (omega arith) i

-- a test for the condition of a step decides whether the step is legal
pub flip_decides : (w : Direction) (e : ℕ) (t : Triangulation) (r : Bool) → r ≡ flippable t.next e → Decides r (LegalStep (flip_step w e) t)
flip_decides left e t r h = (λ q. subst Yes (sym (sym h ∙ q)) tt, λ y. h ∙ sym (yes_is _ y))
flip_decides right e t r h = (λ q. subst Yes (sym (sym h ∙ q)) tt, λ y. h ∙ sym (yes_is _ y))

pub label_decides : (l : Label) (t : Triangulation) (r : Bool) → Decides r (NamesLabel l t.edges) → Decides r (LegalStep (meant_label l) t)
label_decides (Turn e) t r h = h
label_decides (Swap e f) t r h = h

-- an edge past the stored darts cannot be flipped
pub flippable_past : (xs : List (Option ℕ)) (e : ℕ) → length xs ≤ 2 * e → flippable (table_of xs) e ≡ false
flippable_past xs e h = ap (λ r. is_some r && (inside (table_of xs) (2 * e + 1) && not (together (table_of xs) (2 * e) (2 * e + 1)))) (beyond xs (2 * e) h)
