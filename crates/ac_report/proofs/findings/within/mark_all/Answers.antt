use Rattle.std.proofs.Common.{◌∙◌, None, true, false, ap, length, arith}
use Rattle.std.proofs.lemmas.List.{get_or-replicate, length-replicate}
use Rattle.std.proofs.lemmas.List.FromFn.{fill_by_all}
use Rattle.ac_cloud.specs.Cloud.CloudWorld.{providers_of}
use Rattle.ac_report.specs.Findings.HostRows.{is_within}
use Rattle.ac_report.proofs.findings.within.mark_all.Goals as goal

pub returns : goal.returns
returns c =
    let all = providers_of c.args.cloud.now in
    let trues = c.in_ok-vec.ensures.items_if_clones_equal (λ _ e. e) in
    fill_by_all (is_within all None) c.in_ok-vec.field-0.items (length all) false (ap length trues ∙ (length-replicate c.len.result true ∙ c.len.ensures))
    (λ r low. rw trues (get_or-replicate c.len.result r true false (omega (arith, low, c.len.ensures))))
