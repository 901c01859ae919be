use Rattle.std.proofs.Common.{◌∙◌, ℕ, List, length, slice_index, ap, ap₂, arith, option_map}
use Rattle.std.specs.List.{range_with_len, sum_by}
use Rattle.std.proofs.lemmas.List.{length-map}
use Rattle.std.proofs.lemmas.List.FromFn.{length-range_with_len}
use Rattle.ac_cloud.specs.Cloud.CloudWorld.{providers_of}
use Rattle.ac_prune.specs.Loads.{load_at}
use Rattle.ac_query.specs.Shown.Groups.{need_entry}
use Rattle.ac_query.specs.Shown.Queries.{asked_of}
use Rattle.ac_rules.specs.Placed.{slot_at}
use Rattle.ac_fill.specs.Bounds.{Want, times_at}
use Rattle.ac_fill.specs.Found.{found_in, rarer, root_in}
use Rattle.ac_fill.proofs.AtRoots.{load_times, sum_map}
use Rattle.ac_fill.proofs.found.Rarest.find.Goals as goal

pub sums_by_root-requires : goal.sums_by_root-requires
sums_by_root-requires c =
    let all = providers_of c.args.cloud.now in
    ap length (c.deref.ensures.value ∙ c.in_ok-times.ensures) ∙ (length-map (range_with_len 0 (length all)) _ ∙ length-range_with_len 0 (length all))

pub returns : goal.returns
returns c =
    let all = providers_of c.args.cloud.now in
    let want : Want = record { slot = slot_at (asked_of c.args.query.now) c.args.s; need = need_entry c.args.need.now } in
    let total = c.total.ensures ∙ (ap (sum_by (λ n. n)) (c.deref-2.ensures.value ∙ c.in_ok-times.ensures) ∙ sum_map (times_at all want) (range_with_len 0 (length all))) in
    record {
      count = c.keep_rarer.ensures.count;
      together = c.rarer.ensures ∙ ap₂ (λ (class : List ℕ) (n : ℕ). rarer (option_map found_in c.args.self.now.together) (class, n)) c.class.ensures total;
      roots = λ r h.
          let sums =
          ap (λ (l : List ℕ). slice_index l r) c.deref-3.ensures.value
          ∙ (c.in_ok-sums.ensures.sums r h ∙ (ap (λ (l : List ℕ). load_at all l r) (c.deref.ensures.value ∙ c.in_ok-times.ensures) ∙ load_times all (times_at all want) r)) in
          c.keep_rarer.ensures.rarer r (omega (arith, h, c.requires.roots))
          ∙ ap₂ (λ (class : List ℕ) (n : ℕ). rarer (root_in c.args.self.now.roots.items r) (class, n)) c.class-2.ensures sums;
    }
