use Rattle.std.proofs.Common.{◌≡◌, ◌≤◌, ℕ, [], length, drop, get_or}
use Rattle.std.specs.List.{list_any}
use Rattle.ac_query.specs.Asked.{slots_of}
use Rattle.ac_query.specs.Shown.Queries.{asked_of}
use Rattle.ac_cloud.specs.Cloud.CloudWorld.{providers_of}
use Rattle.ac_rules.specs.Placed.{placed}
use Rattle.ac_rules.specs.Together.{listed, is_top}
use Rattle.ac_rules.proofs.assignment.Assignment.has_top.Given as goal

abbrev pub invariant-loop-s : goal.invariant-loop-s
invariant-loop-s l =
    let slots = slots_of (asked_of l.self.query.now) in
    let names = get_or (asked_of l.self.query.now).subtrees l.k [] in
    let top = λ (a : ℕ). is_top (providers_of l.self.cloud.now) (listed names (placed slots l.self.list.now)) a in
    record {
      within : l.s ≤ length l.self.list.now;
      rest : list_any top (listed names (placed (drop l.s slots) (drop l.s l.self.list.now))) ≡ list_any top (listed names (placed slots l.self.list.now));
    }
