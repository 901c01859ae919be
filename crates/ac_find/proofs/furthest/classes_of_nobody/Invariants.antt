use Rattle.std.proofs.Common.{◌≡◌, [], find, get_or, length, map, not}
use Rattle.std.specs.List.{range_with_len}
use Rattle.ac_cloud.specs.Cloud.CloudWorld.{providers_of}
use Rattle.ac_query.specs.Shown.Groups.{need_entry}
use Rattle.ac_find.specs.Missing.{somebody_there_has_class}
use Rattle.ac_find.proofs.furthest.classes_of_nobody.Given as goal

abbrev pub invariant-loop-class : goal.invariant-loop-class
invariant-loop-class l =
    let all = providers_of l.cloud in
    l.classes.items ≡ map (λ r. find (λ k. not (somebody_there_has_class all r (get_or (map need_entry l.needs) k ([], 0)).0)) (range_with_len 0 l.class)) (range_with_len 0 (length all))
