use Rattle.std.proofs.Common.{map}
use Rattle.ac_base.specs.Names.{suffix_bytes}
use Rattle.ac_query.specs.Shown.{suffixes_shown}
use Rattle.ac_base.specs.Writing.Pieces.{listed}
use Rattle.ac_report.proofs.FoundTexts.Begun.{IsBegun}
use Rattle.ac_report.proofs.findings.explanation.without.push_suffixes.Given as goal

abbrev pub invariant-loop-suffix : goal.invariant-loop-suffix
invariant-loop-suffix g l = IsBegun g.W.Sink.taken g.W.Sink.failures l.fn.out l.out
    (listed l.fn.mark (suffixes_shown l.suffixes)) (listed l.mark (map suffix_bytes l.suffix-iterator))
