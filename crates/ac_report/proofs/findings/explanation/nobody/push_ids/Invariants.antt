use Rattle.std.proofs.Common.{drop, map}
use Rattle.ac_base.specs.Texts.{id_text}
use Rattle.ac_base.specs.Writing.Pieces.{listed}
use Rattle.ac_report.proofs.FoundTexts.Begun.{IsBegun}
use Rattle.ac_report.proofs.findings.explanation.nobody.push_ids.Given as goal

abbrev pub invariant-loop-id : goal.invariant-loop-id
invariant-loop-id g l = IsBegun g.W.Sink.taken g.W.Sink.failures l.fn.out l.out
    (listed l.fn.mark (map id_text l.ids)) (listed l.mark (map id_text (drop l.id-index l.ids)))
