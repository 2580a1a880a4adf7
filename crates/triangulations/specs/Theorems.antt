-- What holds of the steps on every lawful triangulation.
use Rattle.std.specs.Prelude.{◌≡◌, [], ◌∷◌}
use Rattle.triangulations.specs.Triangulations.{Triangulation, Lawful}
use Rattle.triangulations.specs.Steps.{Step, apply_step, LegalStep, Legal, leads}

-- after s, where it is legal, s' is legal too, and leads back
abbrev pub Undoes : Step → Step → Type 0
Undoes s s' = (t : Triangulation) → Lawful t → LegalStep s t → Legal (s ∷ s' ∷ []) t × (leads (s ∷ s' ∷ []) t ≡ t)

-- s twice, where s is legal, is legal, and so is s' there, and both lead to one triangulation
abbrev pub TwiceIs : Step → Step → Type 0
TwiceIs s s' = (t : Triangulation) → Lawful t → LegalStep s t → Legal (s ∷ s ∷ []) t × LegalStep s' t × (leads (s ∷ s ∷ []) t ≡ apply_step s' t)
