use Rattle.std.proofs.Common.{◌∙◌, ◌==◌, rules}
use Rattle.std.proofs.lemmas.Iterator.{YieldsList-from_slice}
use Rattle.std.proofs.lemmas.Iterator.Search.{position_from_yields_List}
use Rattle.ac_find.specs.declared.counts.classes.SlotTold.{SlotTold}
use Rattle.ac_report.proofs.FoundTexts.SlotsWritten.{empty_told}
use Rattle.ac_report.proofs.findings.explanation.because.first_empty.Goals as goal

pub returns-clause-first : goal.returns-clause-first
returns-clause-first c =
    position_from_yields_List (λ (told : SlotTold). told.counts.room == 0) _ _ c.position.result c.position.ensures.ran (YieldsList-from_slice c.args.slots.now c.iter.ensures.rest) (λ x b q k. search rules)
    ∙ empty_told c.args.slots.now
