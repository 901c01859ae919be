use Rattle.std.proofs.Common.{◌≡◌, ◌∙◌, ℕ, Bool, List, ap, arith, codes, false, get_or, length, map}
use Rattle.std.specs.List.{range_with_len}
use Rattle.std.proofs.lemmas.List.FromFn.{get_or-map-range_with_len, length-map-range_with_len}
use Rattle.ac_cloud.specs.Cloud.CloudWorld.{providers_of}
use Rattle.ac_find.specs.Missing.{somebody_there_has_class}
use Rattle.ac_find.proofs.audit.trees.roots_with_storage.Goals as goal

pub returns : goal.returns
returns c =
    let all = providers_of c.args.cloud.now in
    let has = λ (r : ℕ). somebody_there_has_class all r (codes "DISK_GB") in
    let marks : c.in_ok-marks.marks.items ≡ map has (range_with_len 0 (length all)) =
    c.in_ok-marks.ensures ∙ ap (λ (class : List ℕ). map (λ (r : ℕ). somebody_there_has_class all r class) (range_with_len 0 (length all))) c.in_ok-class.ensures in
    record {
      long = ap length marks ∙ length-map-range_with_len has 0 (length all);
      marked = λ r low. ap (λ (l : List Bool). get_or l r false) marks ∙ get_or-map-range_with_len has 0 (length all) r r false low (omega arith);
    }
