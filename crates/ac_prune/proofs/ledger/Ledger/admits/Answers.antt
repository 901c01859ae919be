use Rattle.std.proofs.Common.{length, ap, ◌∙◌}
use Rattle.std.specs.List.{range_with_len}
use Rattle.std.proofs.lemmas.List.{length-map}
use Rattle.std.proofs.lemmas.List.FromFn.{length-range_with_len}
use Rattle.ac_prune.specs.Left.Accounts.{providers_in, asked_in}
use Rattle.ac_rules.specs.Together.{takes_root}
use Rattle.ac_prune.proofs.ledger.Ledger.admits.Goals as goal

pub stands_at-requires-clause-marks : goal.stands_at-requires-clause-marks
stands_at-requires-clause-marks c =
    let l = c.args.self.now in
    let count = length (providers_in l) in
    ap length (c.deref.ensures.value ∙ l.rooted) ∙ (length-map (range_with_len 0 count) (takes_root (providers_in l) (asked_in l)) ∙ length-range_with_len 0 count)
