-- What `==` tells of steps and of slices of them.
use Rattle.std.proofs.Common.{◌≡◌, Bool, List, length, take, Decides, refl, rules}
use Rattle.std.specs.Cmp.Lexicographic.{pointwise_decides}
use Rattle.std.specs.List.{starts_with}
use Rattle.std.proofs.lemmas.Bool.Decides.{Decides-at}
use Rattle.triangulations.specs.declared.step.Step.{Step}
use Rattle.triangulations.specs.declared.step.Step.TheVariants as step
use Rattle.triangulations.specs.declared.step.Label.TheVariants.{Turn, Swap}
use Rattle.triangulations.specs.contracts.step.StepPartialEq.TheImpl as impl

decides : (a b : Step) (t : Bool) → (t ≡ (impl.ghosts).eq a b) → Decides t (a ≡ b)
decides (step.Flip a) (step.Flip b) t h = search rules
decides (step.Flip a) (step.Label b) t h = search rules
decides (step.Label a) (step.Flip b) t h = search rules
decides (step.Label (Turn a)) (step.Label (Turn b)) t h = search rules
decides (step.Label (Turn a)) (step.Label (Swap b c)) t h = search rules
decides (step.Label (Swap a d)) (step.Label (Turn b)) t h = search rules
decides (step.Label (Swap a d)) (step.Label (Swap b c)) t h = search rules

pub steps_decide : (xs ys : List Step) (r : Bool) → (r ≡ starts_with (impl.ghosts).eq xs ys) → Decides r (ys ≡ take (length ys) xs)
steps_decide xs ys r h =
    Decides-at r (starts_with (impl.ghosts).eq xs ys) h (pointwise_decides {E = (impl.ghosts).eq} (λ a b. decides a b ((impl.ghosts).eq a b) refl) ys (take (length ys) xs))
