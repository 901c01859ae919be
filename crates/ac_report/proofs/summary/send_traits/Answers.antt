use Rattle.std.proofs.Common.{map, sym, ◌∙◌}
use Rattle.std.proofs.lemmas.List.{length-map}
use Rattle.serde_json.specs.Data.{string}
use Rattle.ac_base.specs.Names.{trait_bytes}
use Rattle.ac_report.specs.Trees.{texts}
use Rattle.ac_report.proofs.Trees.Sending.{begin_items}
use Rattle.ac_report.proofs.summary.send_traits.Goals as goal

pub loop-name-init : goal.loop-name-init
unfolding texts
loop-name-init g c =
    let names = map trait_bytes c.args.traits.now in
    begin_items (map string names) _ _ _ (sym (length-map names string ∙ length-map c.args.traits.now trait_bytes)) c.in_ok-begin_seq.ensures
