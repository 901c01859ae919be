use Rattle.std.proofs.Common.{ℕ, List, codes, drop, map}
use Rattle.std.specs.List.{flat_map}
use Rattle.ac_base.specs.Names.{trait_bytes}
use Rattle.ac_base.specs.Writing.Pieces.{marked}
use Rattle.ac_report.proofs.FoundTexts.Begun.{IsBegun}
use Rattle.ac_report.proofs.findings.explanation.slot_rules.push_each.Given as goal

abbrev pub invariant-loop-name : goal.invariant-loop-name
invariant-loop-name g l =
    let told = λ (name : List ℕ). marked (codes " required=!") name in
    IsBegun g.W.Sink.taken g.W.Sink.failures l.fn.out l.out
    (flat_map told (map trait_bytes l.names)) (flat_map told (map trait_bytes (drop l.name-index l.names)))
