use Rattle.std.proofs.Common.{◌≡◌, ℕ, ◌+◌, drop, slice_index}
use Rattle.ac_prune.specs.Marks.{turned}
use Rattle.ac_prune.specs.Trees.Keys.{is_there}
use Rattle.ac_prune.proofs.ledger.marks.unhit.Given as goal

abbrev pub invariant-loop-root : goal.invariant-loop-root
invariant-loop-root l =
    (r : ℕ) → turned (is_there (drop l.root-index l.roots) r) (l.depth + 1) l.depth (slice_index l.hits r)
    ≡ turned (is_there l.roots r) (l.depth + 1) l.depth (slice_index l.fn.hits r)
