use Rattle.std.proofs.Common.{◌≡◌, ◌≤◌, ◌∷◌, ℕ, List}
use Rattle.ac_cloud.specs.Cloud.CloudWorld.{providers_of}
use Rattle.ac_fill.specs.Ends.{AreAhead, LeadsTo, count_at, stand_of, takings_of, world_at}
use Rattle.ac_fill.specs.Filled.{units_left}
use Rattle.ac_fill.specs.Shown.{asked_in, IsTakenOf}
use Rattle.ac_fill.proofs.placements.Filling.count_list.Given as goal

-- from here all placements together are as many as from the start
abbrev pub invariant-room : goal.invariant-room
invariant-room l =
    let all = providers_of l.assignment.cloud.now in
    let asked = asked_in (takings_of l.fn.self) in
    let list = l.assignment.list.now in
    record {
      query : asked_in (takings_of l.self) ≡ asked;
      fits : IsTakenOf all (takings_of l.self);
      small : count_at l.self ≤ 4294967295;
      ahead : (rest : List (List ℕ)) → AreAhead (world_at all l.fn.self) asked (list ∷ rest) → AreAhead (world_at all l.self) asked (list ∷ rest);
      leads : (rest : List (List ℕ)) → AreAhead (world_at all l.fn.self) asked (list ∷ rest) → LeadsTo asked (stand_of all l.fn.self) (stand_of all l.self);
    }

abbrev pub decreases-room : goal.decreases-room
decreases-room l = units_left (world_at (providers_of l.assignment.cloud.now) l.self)
