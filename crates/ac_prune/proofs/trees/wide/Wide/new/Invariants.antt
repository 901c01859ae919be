use Rattle.std.proofs.Common.{◌≡◌, ◌<◌, ℕ, length, slice_index_or}
use Rattle.ac_prune.specs.Left.Accounts.{providers_in}
use Rattle.ac_prune.specs.Loads.{choice_in}
use Rattle.ac_prune.specs.Trees.{MeetInGroves}
use Rattle.ac_prune.specs.declared.trees.by_tree.Places.{Places}
use Rattle.ac_prune.proofs.trees.wide.Wide.new.Given as goal

abbrev pub invariant-loop-s : goal.invariant-loop-s
invariant-loop-s l = record {
  count : length l.slots.items ≡ l.s;
  each : (s : ℕ) (d : Places) → s < l.s → MeetInGroves (providers_in l.choices.ledger.now) l.of_providers.items (choice_in l.choices.ledger.now s) (slice_index_or l.slots.items s d);
}
