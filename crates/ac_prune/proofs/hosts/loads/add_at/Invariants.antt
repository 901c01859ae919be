use Rattle.std.proofs.Common.{◌≡◌, ◌<◌, ◌-◌, ◌^◌, ℕ, ◌+◌, drop, length, slice_index}
use Rattle.std.specs.Prelude.{min}
use Rattle.ac_prune.specs.Ahead.{load_in}
use Rattle.ac_prune.proofs.hosts.loads.add_at.Given as goal

abbrev pub invariant-loop-root : goal.invariant-loop-root
invariant-loop-root l = (r : ℕ) → r < length l.fn.loads → min (slice_index l.loads r + load_in (λ x. x) (λ _. l.amount) (drop l.root-index l.roots) r) (2 ^ 64 - 1) ≡ min (slice_index l.fn.loads r + load_in (λ x. x) (λ _. l.amount) l.roots r) (2 ^ 64 - 1)
