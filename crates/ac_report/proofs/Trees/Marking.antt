-- Marks of roots.
use Rattle.std.proofs.Common.{◌≡◌, List, ◌∷◌, sym, ap, ◌∙◌, Bool, ◌||◌}
use Rattle.std.specs.List.{list_any}
use Rattle.ac_base.proofs.Small.{or_grouped}

-- the roots of one list more
pub marks_step : {X : Type 0} (test : X → Bool) (ls rest : List X) (x : X) (whole m new : Bool) → ls ≡ x ∷ rest → whole ≡ (m || list_any test ls) → new ≡ (m || test x) → whole ≡ (new || list_any test rest)
marks_step test ls rest x whole m new e h k = h ∙ ap (λ l. m || list_any test l) e ∙ or_grouped m (test x) (list_any test rest) ∙ ap (λ b. b || list_any test rest) (sym k)
