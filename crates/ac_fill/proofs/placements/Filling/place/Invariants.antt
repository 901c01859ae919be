use Rattle.std.proofs.Common.{is_some, ◌≡◌, ◌≤◌, ◌∷◌, ℕ, List, Result}
use Rattle.ac_cloud.specs.Cloud.CloudWorld.{providers_of}
use Rattle.ac_report.specs.declared.fault.PageFault.{PageFault}
use Rattle.ac_fill.specs.Ends.{AreAhead, Ends, count_at, stand_of, takings_of, world_at}
use Rattle.ac_fill.specs.Filled.{units_left}
use Rattle.ac_fill.specs.Shown.{asked_in, IsTakenOf}
use Rattle.ac_fill.specs.declared.placements.Filled.{Filled}
use Rattle.ac_fill.proofs.placements.Filling.place.Given as goal

-- what ends well from here ends well
abbrev pub invariant-room : goal.invariant-room
invariant-room g l =
    let all = providers_of l.assignment.cloud.now in
    let asked = asked_in (takings_of l.fn.self) in
    record {
      query : asked_in (takings_of l.self) ≡ asked;
      fits : IsTakenOf all (takings_of l.self);
      small : count_at l.self ≤ 4294967295;
      ahead : (rest : List (List ℕ)) → AreAhead (world_at all l.fn.self) asked (l.assignment.list.now ∷ rest) → AreAhead (world_at all l.self) asked (l.assignment.list.now ∷ rest);
      goes : (rest : List (List ℕ)) → AreAhead (world_at all l.fn.self) asked (l.assignment.list.now ∷ rest) → (r : Result Filled PageFault) (end : g.row.W.Denot)
          → Ends g.W.Sink.taken g.W.Sink.failures (is_some l.names) all asked (stand_of all l.self) l.out end r
          → Ends g.W.Sink.taken g.W.Sink.failures (is_some l.names) all asked (stand_of all l.fn.self) l.fn.out end r;
    }

abbrev pub decreases-room : goal.decreases-room
decreases-room g l = units_left (world_at (providers_of l.assignment.cloud.now) l.self)
