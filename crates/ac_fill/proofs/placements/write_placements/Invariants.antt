use Rattle.std.proofs.Common.{is_some, ◌≡◌, ◌≤◌, Some, Result, length}
use Rattle.std.specs.List.{All}
use Rattle.ac_cloud.specs.Cloud.CloudWorld.{providers_of}
use Rattle.ac_query.specs.Shown.Queries.{asked_of}
use Rattle.ac_report.specs.declared.fault.PageFault.{PageFault}
use Rattle.ac_rules.proofs.Lists.RestLemmas.{IsChosen}
use Rattle.ac_fill.specs.Ends.{AreAhead, Ends, count_at, stand_of, start_of, takings_of, world_at}
use Rattle.ac_fill.specs.Shown.{asked_in, IsTakenOf}
use Rattle.ac_fill.specs.declared.placements.Filled.{Filled}
use Rattle.ac_fill.proofs.placements.write_placements.Given as goal

-- what ends well from here ends well
abbrev pub invariant-lists : goal.invariant-lists
invariant-lists g l =
    let all = providers_of l.cloud in
    let asked = asked_of l.query in
    let left = g.S.Source.left l.source in
    record {
      query : asked_in (takings_of l.filling) ≡ asked;
      fits : IsTakenOf all (takings_of l.filling);
      chosen : All (IsChosen all asked) left;
      ahead : (l.filling.wanted ≡ Some 0 → ⊥) → AreAhead (world_at all l.filling) asked left;
      small : count_at l.filling ≤ 4294967295;
      stops : g.S.Source.may_stop l.source → g.S.Source.may_stop l.fn.source;
      goes : (r : Result Filled PageFault) (end : g.row.W.Denot) → Ends g.W.Sink.taken g.W.Sink.failures (is_some l.names) all asked (stand_of all l.filling) l.out end r
          → Ends g.W.Sink.taken g.W.Sink.failures (is_some l.names) all asked (start_of asked.limit all) l.fn.out end r;
    }

abbrev pub decreases-lists : goal.decreases-lists
decreases-lists g l = length (g.S.Source.left l.source)
