use Rattle.std.proofs.Common.{◌≡◌, ℕ, ◌-◌, not}
use Rattle.std.specs.Prelude.{find}
use Rattle.std.specs.List.{range_with_len}
use Rattle.ac_query.specs.Shown.Queries.{asked_of}
use Rattle.ac_cloud.specs.Cloud.CloudWorld.{providers_of}
use Rattle.ac_find.specs.Apart.{meet}
use Rattle.ac_find.proofs.counts.apart.Served.apart_from.Given as goal

abbrev pub invariant-loop-s : goal.invariant-loop-s
invariant-loop-s l =
    let apart = λ (s : ℕ). not (meet (providers_of l.self.cloud.now) (asked_of l.self.query.now) s l.t) in
    find apart (range_with_len l.s (l.t - l.s)) ≡ find apart (range_with_len 0 l.t)
