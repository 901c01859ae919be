use Rattle.std.proofs.Common.{◌≡◌, ◌∙◌, ◌&&◌, false, slice_index_or, ap, sym}
use Rattle.ac_cloud.proofs.Roots.{available_itself}
use Rattle.ac_cloud.specs.Cloud.CloudWorld.{providers_of}
use Rattle.ac_cloud.specs.World.{id_at, is_root}
use Rattle.ac_report.proofs.findings.within.is_marked_root.Goals as goal

pub returns-else-available : goal.returns-else-available
returns-else-available c =
    let all = providers_of c.args.cloud.now in
    let away : is_root all (id_at all c.args.ix) ≡ false = sym (available_itself all c.args.ix) ∙ (sym c.available.ensures ∙ c.if-available.false) in
    c.if-available.false ∙ sym (ap (λ b. b && slice_index_or c.args.marks.now c.args.ix false) away)
