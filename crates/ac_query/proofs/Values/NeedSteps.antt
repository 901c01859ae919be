-- The classes of needs.
use Rattle.std.proofs.Common.{◌≡◌, List, [], ◌∷◌, map, refl, ap}
use Rattle.ac_query.specs.declared.group.Need.{Need}
use Rattle.ac_query.specs.Shown.Groups.{need_class, need_entry}

pub classes_kept : (needs : List Need) → map (λ n. n.0) (map need_entry needs) ≡ map need_class needs
classes_kept [] = refl
classes_kept (n ∷ needs) = ap (λ l. need_class n ∷ l) (classes_kept needs)
