use Rattle.std.proofs.Common.{arith}
use Rattle.std.proofs.lemmas.Grind.{common_steps}
use Rattle.std.proofs.Common.{◌≡◌, List, [], ◌∷◌, map, refl, ap, append-nil}
use Rattle.std.specs.Map.{keys_of}
use Rattle.ac_base.specs.Names.{class_bytes}
use Rattle.ac_base.specs.declared.name.ClassName.{ClassName}
use Rattle.ac_query.specs.declared.reading.amount.Amount.{Amount}
use Rattle.ac_query.specs.Shown.{need_shown}
use Rattle.ac_query.proofs.Values.NameSets.{rising_shown}
use Rattle.ac_query.proofs.Values.NeedSteps.{classes_kept}
use Rattle.ac_query.proofs.query.read.needs_in_order.Goals as goal

-- the classes of a map's entries
classes_shown : (es : List (ClassName × Amount)) → map (λ n. n.0) (map need_shown es) ≡ map class_bytes (keys_of es)
classes_shown [] = refl
classes_shown (e ∷ es) = ap (λ l. class_bytes e.0 ∷ l) (classes_shown es)

pub returns-clause-rising : goal.returns-clause-rising
returns-clause-rising c = grind (arith, common_steps, append-nil, classes_shown, classes_kept, rising_shown)
