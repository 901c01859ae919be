use Rattle.std.proofs.Common.{◌≡◌, ◌+◌, ℕ, List, drop}
use Rattle.ac_cloud.specs.Cloud.CloudWorld.{providers_of}
use Rattle.ac_find.specs.Audit.{count_named}
use Rattle.ac_find.specs.Shown.Audit.{count_in}
use Rattle.ac_find.proofs.audit.names.Names.count.Given as goal

abbrev pub invariant-loop-ix : goal.invariant-loop-ix
invariant-loop-ix l = (q : List ℕ) → count_in l.counts q + count_named (drop l.ix (providers_of l.cloud)) q ≡ count_named (providers_of l.cloud) q
