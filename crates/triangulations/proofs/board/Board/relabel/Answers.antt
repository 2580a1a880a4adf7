use Rattle.std.proofs.Common.{◌≡◌, ℕ, List, None, Option, rules}
use Rattle.std.specs.Array.{IsFromFnResult}
use Rattle.std.specs.Fn.{Called}
use denote.Param.Members.{Mut}
use Rattle.triangulations.specs.declared.board.Board.{Board}
use Rattle.triangulations.specs.declared.step.Label.{Label}
use Rattle.triangulations.specs.Steps.{renamed}
use Rattle.triangulations.specs.Boards.{table}
use Rattle.triangulations.specs.Meaning.{naming, meant_label, NamesLabel}
use Rattle.triangulations.proofs.Made.{made}
use Rattle.triangulations.proofs.Moved.{Kept, label_kept}
use Rattle.triangulations.proofs.board.Board.relabel.Goals as goal

kept : (x : Board) (l : Label) (ys : List (Option ℕ)) {F : Type 0} (g : Mut F (ℕ × Unit {0}) (Option ℕ)) (f : F) → NamesLabel l x.table.edges → IsFromFnResult g f ys 128
    → ((i : ℕ) (q : F) (y : Option ℕ) → Called g f (i, tt) y q → (q ≡ f) × (y ≡ renamed (naming l) (table x (naming l i)))) → Kept x (meant_label l) ys
kept x l ys g f h items given = label_kept x l h ys items.long (λ k below. made g f (λ i y. y ≡ renamed (naming l) (table x (naming l i))) given ys 128 items k None below)

pub invariant_of-self : goal.invariant_of-self
invariant_of-self c =
    let k = kept c.args.self.now c.args.label _ _ _ (c.names.ensures.0 (search rules)) c.from_fn-self.ensures.items (λ i q y called. search rules) in
    ((k.few, (k.full, tt)), (k.lawful, tt))

pub returns-clause-moved : goal.returns-clause-moved
returns-clause-moved c = (kept c.args.self.now c.args.label _ _ _ (c.names.ensures.0 (search rules)) c.from_fn-self.ensures.items (λ i q y called. search rules)).moved
