use Rattle.std.proofs.Common.{◌≡◌, ◌++◌, drop, map}
use Rattle.ac_cloud.specs.Cloud.CloudWorld.{providers_of}
use Rattle.ac_run.specs.Capacity.{room_of}
use Rattle.ac_run.specs.Flavors.{plan_shown}
use Rattle.ac_run.specs.Rooms.{room_shown}
use Rattle.ac_run.proofs.capacity.find_rooms.Given as goal

abbrev pub invariant-loop-plan : goal.invariant-loop-plan
invariant-loop-plan l =
    map room_shown l.rooms.items ++ map (room_of (providers_of l.cloud)) (map plan_shown (drop l.plan-index l.plans))
    ≡ map (room_of (providers_of l.cloud)) (map plan_shown l.plans)
