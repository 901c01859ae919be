use Rattle.std.proofs.Common.{◌≡◌, ◌<◌, ◌-◌, ◌^◌, ℕ, ◌+◌, drop, length, slice_index}
use Rattle.std.specs.Prelude.{min}
use Rattle.ac_prune.specs.Ahead.{load_in}
use Rattle.ac_fill.proofs.by_root.add_at.Given as goal

abbrev pub invariant-loop-root : goal.invariant-loop-root
invariant-loop-root l = (r : ℕ) → r < length l.fn.sums → min (slice_index l.sums r + load_in (λ x. x) (λ _. l.number) (drop l.root-index l.roots) r) (2 ^ 128 - 1) ≡ min (slice_index l.fn.sums r + load_in (λ x. x) (λ _. l.number) l.roots r) (2 ^ 128 - 1)
