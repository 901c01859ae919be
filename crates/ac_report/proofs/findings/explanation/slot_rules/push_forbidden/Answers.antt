use Rattle.std.proofs.Common.{◌∙◌, ℕ, List, ap, codes, map, sym}
use Rattle.std.proofs.lemmas.List.{length-map, take-map}
use Rattle.std.specs.List.{flat_map}
use Rattle.ac_base.specs.Names.{trait_bytes}
use Rattle.ac_base.specs.Writing.Pieces.{marked}
use Rattle.ac_find.specs.Details.{more_text}
use Rattle.ac_report.proofs.FoundTexts.Begun.{pushed_behind}
use Rattle.ac_report.proofs.findings.explanation.slot_rules.push_forbidden.Goals as goal

pub returns : goal.returns
returns g c =
    pushed_behind (ap (flat_map (λ (name : List ℕ). marked (codes " required=!") name)) (ap (map trait_bytes) c.told.ensures ∙ sym (take-map trait_bytes 8 c.args.names.now)))
    (ap more_text (sym (length-map c.args.names.now trait_bytes))) c.in_ok-push_each.ensures c.push_more.ensures
