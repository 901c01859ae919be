use Rattle.ac_cloud.proofs.Common.{◌≡◌, ◌<◌, ℕ, length, list_of, asked_at, lists_of}
use Rattle.ac_cloud.proofs.cloud.roots_by_aggregate.Groups.ask.Given as goal

abbrev pub invariant-loop-place : goal.invariant-loop-place
invariant-loop-place l =
    record {
      sized : length l.asked.items ≡ l.place;
      each : (j : ℕ) → j < l.place → list_of l.asked.items j ≡ asked_at l.self.map l.sharing (lists_of l.aggregates) j;
    }
