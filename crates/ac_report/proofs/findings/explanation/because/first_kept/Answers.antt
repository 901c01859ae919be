use Rattle.std.proofs.Common.{Bool, rules}
use Rattle.std.proofs.lemmas.Iterator.{YieldsList-from_slice}
use Rattle.std.proofs.lemmas.Iterator.Search.{position_from_yields_List}
use Rattle.ac_report.proofs.findings.explanation.because.first_kept.Goals as goal

pub returns-clause-first : goal.returns-clause-first
returns-clause-first c =
    position_from_yields_List (λ (some : Bool). some) _ _ c.position.result c.position.ensures.ran (YieldsList-from_slice c.args.found.now c.iter.ensures.rest) (λ x b q k. search rules)
