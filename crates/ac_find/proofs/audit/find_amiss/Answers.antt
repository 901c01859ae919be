use Rattle.std.proofs.Common.{◌∙◌, ◌++◌, ◌+◌, List, Option, ap, ap₂, append_assoc, drop, get_or, map, sym, ℕ}
use Rattle.std.proofs.lemmas.List.{drop_more}
use Rattle.std.specs.List.{flat_map}
use Rattle.ac_cloud.specs.Cloud.CloudWorld.{world_of}
use Rattle.ac_cloud.specs.declared.cloud.Cloud.{Cloud}
use Rattle.ac_find.specs.Audit.{Finding, kind_found, kinds}
use Rattle.ac_find.specs.Shown.Audit.{finding_shown}
use Rattle.ac_find.specs.declared.audit.Kind.{Kind}
use Rattle.ac_find.specs.declared.audit.Kind.TheVariants as kind
use Rattle.ac_find.proofs.audit.find_amiss.Goals as goal

pub loop-kind-preserved : goal.loop-kind-preserved
loop-kind-preserved c =
    let ix = c.loop-kind.kind-index in
    let this = get_or kinds ix kind.OverCapacity in
    let of_one = kind_found (world_of c.args.cloud.now) c.args.zone in
    let before = map finding_shown c.loop-kind.found.items in
    let behind = flat_map of_one (drop (ix + 1) kinds) in
    ap (λ (found : List Finding). found ++ behind)
    (c.in_ok-add_kind.ensures ∙ ap₂ (λ (cloud : Cloud) (zone : Option ℕ). before ++ kind_found (world_of cloud) zone this) c.in_ok-audit.ensures.cloud c.in_ok-audit.ensures.zone)
    ∙ append_assoc before (of_one this) behind
    ∙ ap (λ (rest : List Kind). before ++ flat_map of_one rest) (sym (drop_more kinds ix kind.OverCapacity c.loop-kind-test.true)) ∙ c.loop-kind.invariant
