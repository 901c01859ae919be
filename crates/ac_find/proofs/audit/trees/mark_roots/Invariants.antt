use Rattle.std.proofs.Common.{◌≡◌, ℕ, ◌<◌, ◌-◌, ◌||◌, false, length, get_or, option_map}
use Rattle.std.specs.List.{list_any, range_with_len}
use Rattle.ac_base.specs.Names.{class_bytes}
use Rattle.ac_cloud.specs.Cloud.CloudWorld.{providers_of}
use Rattle.ac_find.specs.Audit.{is_in_tree, somebody_in_tree}
use Rattle.ac_find.specs.Shown.Audit.{has_one}
use Rattle.ac_find.proofs.audit.trees.mark_roots.Given as goal

abbrev pub invariant-loop-ix : goal.invariant-loop-ix
invariant-loop-ix l =
    let all = providers_of l.cloud in
    let test = has_one (option_map (λ c. class_bytes c.now) l.class) in
    record {
      long : length l.marks ≡ length l.fn.marks;
      marked : (r : ℕ) → r < length l.fn.marks
          → (get_or l.fn.marks r false || somebody_in_tree all test r)
          ≡ (get_or l.marks r false || list_any (is_in_tree all test r) (range_with_len l.ix (length all - l.ix)));
    }
