use Rattle.std.proofs.Common.{◌∙◌, ◌++◌, ◌+◌, ◌-◌, List, ap, append_assoc, arith, length, map, sym}
use Rattle.std.specs.List.{flat_map, range_with_len}
use Rattle.ac_cloud.specs.Cloud.CloudWorld.{providers_of}
use Rattle.ac_cloud.proofs.Ranges.{range_more}
use Rattle.ac_find.specs.Audit.{Finding, provider_found}
use Rattle.ac_find.specs.Shown.Audit.{finding_shown, zone_id}
use Rattle.ac_find.proofs.audit.Audit.add_kind.Goals as goal

pub loop-ix-preserved : goal.loop-ix-preserved
loop-ix-preserved c =
    let all = providers_of c.args.self.now.cloud.now in
    let ix = c.loop-ix.ix in
    let of_one = provider_found all (zone_id c.args.self.now.zone) c.args.kind in
    let before = map finding_shown c.loop-ix.found.items in
    let behind = flat_map of_one (range_with_len (ix + 1) (length all - (ix + 1))) in
    ap (λ (found : List Finding). found ++ behind) c.in_ok-add_provider.ensures ∙ append_assoc before (of_one ix) behind
    ∙ ap (λ places. before ++ flat_map of_one places) (sym (range_more (length all) ix (omega (arith, c.len-ix-end.ensures)))) ∙ c.loop-ix.invariant
