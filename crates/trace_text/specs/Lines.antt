-- The text of refusals, steps and triangles.
use Rattle.std.specs.Prelude.{ℕ, ◌+◌, ◌*◌, List, ◌++◌, codes, decimal}
use Rattle.triangulations.specs.Steps.{Step, L, R, T, S}
use Rattle.triangulations.specs.declared.step.Label.{Label}
use Rattle.triangulations.specs.declared.step.Label.TheVariants.{Turn, Swap}
use Rattle.case_file.specs.declared.refusal.Refusal.{Refusal}
use Rattle.case_file.specs.Refusals.{refusal_number, refusal_layer, refusal_place}
use Rattle.case_file.specs.declared.surface_section.CaseSurface.{CaseSurface}
use Rattle.case_file.specs.declared.surface_section.CaseSurface.TheVariants as surface
use Rattle.trace_text.specs.declared.lines.SurfaceName.{SurfaceName}
use Rattle.trace_text.specs.declared.lines.SurfaceName.TheVariants as name
use Rattle.trace_text.specs.declared.triangles.Triangle.{Triangle}

-- REFUSED, number, layer and place, parted by single spaces
abbrev pub refused_with : (number layer place : ℕ) → List ℕ
refused_with number layer place =
    codes "REFUSED " ++ (decimal number ++ (codes " " ++ (decimal layer ++ (codes " " ++ (decimal place ++ codes "\n")))))

abbrev pub refused_text : Refusal → List ℕ
refused_text r = refused_with (refusal_number r) (refusal_layer r) (refusal_place r)

-- the names of surfaces
abbrev pub punctures_text : ℕ → List ℕ
punctures_text m = codes "torus, m = " ++ decimal m

abbrev pub corners_text : ℕ → List ℕ
corners_text n = codes "polygon, n = " ++ decimal n

abbrev pub surface_text : SurfaceName → List ℕ
surface_text (name.Torus m) = punctures_text m
surface_text (name.Polygon n) = corners_text n

-- the name that the surface of a case has
abbrev pub name_of : CaseSurface → SurfaceName
name_of (surface.Torus t) = name.Torus t.punctures
name_of (surface.Polygon p) = name.Polygon p.corners

abbrev pub triangle_text : Triangle → List ℕ
triangle_text t = decimal t.first ++ (codes " " ++ (decimal t.second ++ (codes " " ++ decimal t.third)))

-- what a flip made
abbrev pub made_text : Triangle × Triangle → List ℕ
made_text ts = codes " makes " ++ (triangle_text ts.0 ++ (codes " and " ++ triangle_text ts.1))

-- the darts that a label step exchanged
abbrev pub exchange_text : Label → List ℕ
exchange_text (Turn e) = codes " exchanges " ++ (decimal (2 * e) ++ (codes " and " ++ decimal (2 * e + 1)))
exchange_text (Swap e f) =
    codes " exchanges " ++ (decimal (2 * e) ++ (codes " and " ++ (decimal (2 * f) ++ (codes ", " ++ (decimal (2 * e + 1) ++ (codes " and " ++ decimal (2 * f + 1)))))))

-- its letter and its names
abbrev pub step_text : Step → List ℕ
step_text (L e) = codes "L " ++ decimal e
step_text (R e) = codes "R " ++ decimal e
step_text (T e) = codes "T " ++ decimal e
step_text (S e f) = codes "S " ++ (decimal e ++ (codes " " ++ decimal f))
