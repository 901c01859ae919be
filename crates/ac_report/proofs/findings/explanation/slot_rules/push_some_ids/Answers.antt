use Rattle.std.proofs.Common.{◌∙◌, ap, map, sym}
use Rattle.std.proofs.lemmas.List.{length-map, take-map}
use Rattle.ac_base.specs.Texts.{id_text}
use Rattle.ac_base.specs.Writing.Pieces.{listed}
use Rattle.ac_find.specs.Details.{more_text}
use Rattle.ac_report.proofs.FoundTexts.Begun.{pushed_behind}
use Rattle.ac_report.proofs.findings.explanation.slot_rules.push_some_ids.Goals as goal

pub returns : goal.returns
returns g c =
    pushed_behind (ap (listed c.args.mark.now) (ap (map id_text) c.told.ensures ∙ sym (take-map id_text 8 c.args.ids.now))) (ap more_text (sym (length-map c.args.ids.now id_text)))
    c.in_ok-push_ids.ensures c.push_more.ensures
