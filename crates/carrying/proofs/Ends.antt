-- The rows around an edge that can be flipped.
use Rattle.std.proofs.Common.{◌≡◌, ℕ, ◌<◌, cond, T as Yes, List, Some, None, sym, ap, subst, arith}
use Rattle.triangulations.specs.Triangulations.{edge_of, flippable}
use Rattle.triangulations.specs.Boards.{table, on, around}
use Rattle.triangulations.specs.declared.board.Board.{Board}
use Rattle.triangulations.specs.declared.quadrilateral.Quadrilateral.{Quadrilateral}
use Rattle.triangulations.proofs.Flips.{flip_parts, inside_tri}
use Rattle.triangulations.proofs.Moved.{law, granted}
use Rattle.numbers.specs.Numbers.{Numbers, Lawful}
use Rattle.numbers.specs.declared.ptolemy.Sides.{Sides}
use Rattle.relations.specs.Values.{Values}
use Rattle.carrying.specs.Rows.{Standing, Within, IsSides}
use Rattle.carrying.proofs.Rowwise.{stands_read}
use Rattle.carrying.proofs.Flipping.{Around}

-- the quadrilateral that a board answered for the edge e
module _ (x : Board) (e : ℕ) (q : Quadrilateral) (given : cond (flippable (table x) e) (Some (around (table x) e)) None ≡ Some q) where
  pub can : Yes (flippable (on x).next e)
  can = subst Yes (granted _ _ q given).0 tt

  place : q ≡ around (table x) e
  place = (granted _ _ q given).1

  -- its edges are edges of the board
  here : Within (around (table x) e) (on x).edges
  here =
      let parts = flip_parts (on x) (law x) e can in
      let one = inside_tri (on x) (law x) _ parts.0 in
      let two = inside_tri (on x) (law x) _ parts.1 in
      let bd = (law x).bounded _ _ one.one in
      let ba = (law x).bounded _ _ one.two in
      let bb = (law x).bounded _ _ one.three in
      let bc = (law x).bounded _ _ two.two in
      let bg = (law x).bounded _ _ two.three in
      record { a_below = omega arith; b_below = omega arith; c_below = omega arith; g_below = omega arith; d_below = omega arith }

  pub edge_below : e < (on x).edges
  edge_below = let h = here.d_below in omega arith

  pub within : (n : ℕ) → n ≡ (on x).edges → Within q n
  within n p = let P : Quadrilateral → Type 0 = λ r. Within r n in let Q : ℕ → Type 0 = Within (around (table x) e) in subst P (sym place) (subst Q (sym p) here)

  pub sides_stand : {N : Type 0} {K : Numbers N} (lawful : Lawful K) (rows : List N) (sides : Sides N) → IsSides q rows sides → (v : Values K.exact) → Standing K (on x).edges v rows → Around lawful sides (on x) e v
  sides_stand lawful rows sides is v h = record {
    a_stands = stands_read h _ _ _ here.a_below (ap (λ (r : Quadrilateral). edge_of r.a) place) is.a_row;
    b_stands = stands_read h _ _ _ here.b_below (ap (λ (r : Quadrilateral). edge_of r.b) place) is.b_row;
    c_stands = stands_read h _ _ _ here.c_below (ap (λ (r : Quadrilateral). edge_of r.c) place) is.c_row;
    g_stands = stands_read h _ _ _ here.g_below (ap (λ (r : Quadrilateral). edge_of r.g) place) is.g_row;
    e_stands = stands_read h _ _ _ edge_below (let p = ap (λ (r : Quadrilateral). r.d) place in omega arith) is.e_row;
  }
