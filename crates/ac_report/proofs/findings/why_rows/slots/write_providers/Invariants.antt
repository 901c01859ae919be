use Rattle.std.proofs.Common.{ℕ, ◌+◌, ◌&&◌, ◌++◌, List, map}
use Rattle.std.specs.List.{filter, range_with_len}
use Rattle.ac_cloud.specs.World.{is_available_at, provider_at}
use Rattle.ac_cloud.specs.Cloud.CloudWorld.{providers_of}
use Rattle.ac_query.specs.Shown.Queries.{asked_of}
use Rattle.ac_rules.specs.Placed.{placed_at, slot_at}
use Rattle.ac_report.specs.Findings.WhyRows.{has_a_class, placed_row}
use Rattle.ac_base.specs.Writing.Rows.{HasRows}
use Rattle.ac_report.proofs.findings.why_rows.slots.write_providers.Given as goal

abbrev pub invariant-loop-ix : goal.invariant-loop-ix
invariant-loop-ix l =
    let all = providers_of l.cloud in
    let asked = asked_of l.query in
    let looked_at = λ (p : ℕ). is_available_at all p l.root && has_a_class (provider_at all p) (slot_at asked l.s).needs in
    (before : List (List (List ℕ))) → HasRows l.fn.rows before
    → HasRows l.rows (before ++ map (λ p. placed_row all (l.s + 1) (placed_at asked l.s p)) (filter looked_at (range_with_len 0 l.ix)))
