use Rattle.std.proofs.Common.{◌≡◌, ◌≤◌, ℕ, [], length, drop, get_or}
use Rattle.std.specs.List.{list_all}
use Rattle.ac_query.specs.Asked.{slots_of}
use Rattle.ac_query.specs.Shown.Queries.{asked_of}
use Rattle.ac_cloud.specs.World.{id_at, is_above}
use Rattle.ac_cloud.specs.Cloud.CloudWorld.{providers_of}
use Rattle.ac_rules.specs.Placed.{placed}
use Rattle.ac_rules.specs.Together.{listed}
use Rattle.ac_rules.proofs.assignment.Assignment.is_top.Given as goal

abbrev pub invariant-loop-s : goal.invariant-loop-s
invariant-loop-s l =
    let all = providers_of l.self.cloud.now in
    let slots = slots_of (asked_of l.self.query.now) in
    let names = get_or (asked_of l.self.query.now).subtrees l.k [] in
    let above = λ (b : ℕ). is_above all (id_at all l.top) (id_at all b) in
    record {
      within : l.s ≤ length l.self.list.now;
      rest : list_all above (listed names (placed (drop l.s slots) (drop l.s l.self.list.now))) ≡ list_all above (listed names (placed slots l.self.list.now));
    }
