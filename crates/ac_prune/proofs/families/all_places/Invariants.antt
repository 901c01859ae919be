use Rattle.std.proofs.Common.{◌≡◌, ◌<◌, ℕ, length, slice_index_or}
use Rattle.ac_prune.specs.Loads.{choice_in}
use Rattle.ac_prune.specs.Trees.{IsByPart}
use Rattle.ac_prune.specs.declared.trees.by_tree.Places.{Places}
use Rattle.ac_prune.proofs.families.all_places.Given as goal

abbrev pub invariant-loop-s : goal.invariant-loop-s
invariant-loop-s l = record {
  count : length l.all.items ≡ l.s;
  each : (s : ℕ) (d : Places) → s < l.s → IsByPart (choice_in l.choices.ledger.now s) l.parts (slice_index_or l.all.items s d);
}
