use Rattle.std.proofs.Common.{drop, map}
use Rattle.ac_base.specs.Names.{trait_bytes}
use Rattle.ac_base.specs.Writing.Pieces.{listed}
use Rattle.ac_report.proofs.FoundTexts.Begun.{IsBegun}
use Rattle.ac_report.proofs.findings.explanation.nobody.push_names.Given as goal

abbrev pub invariant-loop-name : goal.invariant-loop-name
invariant-loop-name g l = IsBegun g.W.Sink.taken g.W.Sink.failures l.fn.out l.out
    (listed l.fn.mark (map trait_bytes l.names)) (listed l.mark (map trait_bytes (drop l.name-index l.names)))
