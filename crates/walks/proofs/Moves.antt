-- What edits of a walk are of what its steps mean.
use Rattle.std.proofs.Common.{◌≡◌, ℕ, ◌+◌, List, [], ◌∷◌, ◌++◌, map, take, drop, Some, sym, refl, ap, ◌∙◌, rules}
use Rattle.std.specs.Option.{option_map}
use Rattle.std.specs.List.{slice_get}
use Rattle.std.proofs.lemmas.Option.{slice_get-map}
use Rattle.std.proofs.lemmas.List.{map-append, take-map, drop-map}
use Rattle.triangulations.specs.Steps.{flip_step, exchanged}
use Rattle.triangulations.specs.Meaning.{meant, meant_label, direction}
use Rattle.triangulations.specs.declared.step.Label.{Label}
use Rattle.triangulations.specs.declared.step.Side.{Side}
use Rattle.triangulations.specs.declared.step.Side.TheVariants.{Left, Right}
use Rattle.triangulations.specs.declared.step.Label.TheVariants.{Turn, Swap}
use Rattle.triangulations.specs.declared.step.Step.{Step}
use Rattle.triangulations.specs.declared.step.Step.TheVariants as step
use Rattle.relations.specs.Rewritings.{renamed_step}
use Rattle.walks.specs.Walks.{replaced, renamed_named}

module _ {X Y : Type 0} (f : X → Y) where
  pub map_replaced : (at taken : ℕ) (new xs : List X) → map f (replaced at taken new xs) ≡ replaced at taken (map f new) (map f xs)
  map_replaced at taken new xs =
      map-append f (take at xs) (new ++ drop (at + taken) xs)
      ∙ ap (λ r. map f (take at xs) ++ r) (map-append f new (drop (at + taken) xs))
      ∙ ap (λ r. r ++ (map f new ++ map f (drop (at + taken) xs))) (sym (take-map f at xs))
      ∙ ap (λ r. take at (map f xs) ++ (map f new ++ r)) (sym (drop-map f (at + taken) xs))

-- what stands in the moves for a step
pub nth_meant : (xs : List Step) (i : ℕ) (s : Step) → slice_get xs i ≡ Some s → slice_get (map meant xs) i ≡ Some (meant s)
nth_meant xs i s e = slice_get-map meant xs i ∙ ap (option_map meant) e

same_flips : (s t : Side) (e f : ℕ) → flip_step (direction s) e ≡ flip_step (direction t) f → (s ≡ t) × (e ≡ f)
same_flips Left Left e f p = (refl, cc)
same_flips Left Right e f p = absurd cc
same_flips Right Left e f p = absurd cc
same_flips Right Right e f p = (refl, cc)

flip_no_label : (s : Side) (e : ℕ) (l : Label) → flip_step (direction s) e ≡ meant_label l → ⊥
flip_no_label Left e (Turn k) p = cc
flip_no_label Left e (Swap k l) p = cc
flip_no_label Right e (Turn k) p = cc
flip_no_label Right e (Swap k l) p = cc

same_labels : (k l : Label) → meant_label k ≡ meant_label l → k ≡ l
same_labels (Turn a) (Turn b) p = cc
same_labels (Turn a) (Swap b c) p = cc
same_labels (Swap a d) (Turn b) p = cc
same_labels (Swap a d) (Swap b c) p = cc

pub meant_injective : (a b : Step) → meant a ≡ meant b → a ≡ b
meant_injective (step.Flip a) (step.Flip b) p = let h = same_flips a.side b.side a.edge b.edge p in search rules
meant_injective (step.Flip a) (step.Label l) p = absurd (flip_no_label a.side a.edge l p)
meant_injective (step.Label l) (step.Flip b) p = absurd (flip_no_label b.side b.edge l (sym p))
meant_injective (step.Label k) (step.Label l) p = ap step.Label (same_labels k l p)

pub moves_injective : (u v : List Step) → map meant u ≡ map meant v → u ≡ v
moves_injective [] [] p = refl
moves_injective [] (b ∷ v) p = cc
moves_injective (a ∷ u) [] p = cc
moves_injective (a ∷ u) (b ∷ v) p =
    let h : meant a ≡ meant b = cc in
    let t : map meant u ≡ map meant v = cc in
    let x = meant_injective a b h in
    let y = moves_injective u v t in
    cc

flip_renamed : (e f : ℕ) (s : Side) (k : ℕ) → flip_step (direction s) (exchanged e f k) ≡ renamed_step e f (flip_step (direction s) k)
flip_renamed e f Left k = refl
flip_renamed e f Right k = refl

pub meant_renamed : (e f : ℕ) (s : Step) → meant (renamed_named e f s) ≡ renamed_step e f (meant s)
meant_renamed e f (step.Flip x) = flip_renamed e f x.side x.edge
meant_renamed e f (step.Label (Turn k)) = refl
meant_renamed e f (step.Label (Swap k l)) = refl
