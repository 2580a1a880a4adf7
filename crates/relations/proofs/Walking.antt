-- Walks of two parts, and what legal walks keep.
use Rattle.std.proofs.Common.{◌≡◌, List, [], ◌∷◌, ◌++◌, refl}
use Rattle.triangulations.specs.Triangulations.{Triangulation, Lawful}
use Rattle.triangulations.specs.Steps.{Step, apply_step, leads, Legal}
use Rattle.triangulations.proofs.Labels.{step_lawful}

pub leads-++ : (p q : List Step) (t : Triangulation) → leads (p ++ q) t ≡ leads q (leads p t)
leads-++ [] q t = refl
leads-++ (s ∷ p) q t = leads-++ p q (apply_step s t)

pub legal-++ : (p q : List Step) (t : Triangulation) → Legal (p ++ q) t → Legal p t × Legal q (leads p t)
legal-++ [] q t h = (tt, h)
legal-++ (s ∷ p) q t h = let r = legal-++ p q (apply_step s t) h.1 in ((h.0, r.0), r.1)

pub ++-legal : (p q : List Step) (t : Triangulation) → Legal p t → Legal q (leads p t) → Legal (p ++ q) t
++-legal [] q t a b = b
++-legal (s ∷ p) q t a b = (a.0, ++-legal p q (apply_step s t) a.1 b)

pub leads_lawful : (w : List Step) (t : Triangulation) → Lawful t → Legal w t → Lawful (leads w t)
leads_lawful [] t law h = law
leads_lawful (s ∷ w) t law h = leads_lawful w (apply_step s t) (step_lawful s t law h.0) h.1
