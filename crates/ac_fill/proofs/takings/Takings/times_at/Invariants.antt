use Rattle.std.proofs.Common.{◌≡◌, ◌<◌, ◌≤◌, ◌&&◌, ℕ, List, map, drop, nat_lt}
use Rattle.std.specs.List.{list_all, AllByRecursion as Each}
use Rattle.ac_cloud.specs.World.{provider_at}
use Rattle.ac_cloud.specs.Cloud.CloudWorld.{providers_of}
use Rattle.ac_query.specs.Shown.Groups.{need_entry}
use Rattle.ac_rules.specs.Room.{IsKnown}
use Rattle.ac_rules.specs.Shown.Assignments.{assigned_of}
use Rattle.ac_rules.specs.Together.{holds, sum_on}
use Rattle.ac_fill.specs.Shown.{texts_in, with_more, NeedTimesFit}
use Rattle.ac_fill.proofs.takings.Takings.times_at.Given as goal

abbrev pub invariant-loop-need : goal.invariant-loop-need
invariant-loop-need l =
    let all = providers_of l.assignment.cloud.now in
    let xs = assigned_of l.assignment in
    let fits = λ (k : ℕ) (need : List ℕ × ℕ). holds (provider_at (with_more l.self xs k all) l.ix) need.0 (sum_on xs l.ix need.0) in
    let left = map need_entry (drop l.need-index l.need-items) in
    record {
      room : (k : ℕ) → k < 4294967295 → (nat_lt k l.times && list_all (fits k) left) ≡ list_all (fits k) (map need_entry l.need-items);
      small : (n : ℕ) → 0 < n → n ≤ l.times → Each (NeedTimesFit all l.self xs n l.ix) left → Each (NeedTimesFit all l.self xs n l.ix) (map need_entry l.need-items);
      known : Each (λ need. IsKnown (texts_in l.self) need.0) left;
    }
