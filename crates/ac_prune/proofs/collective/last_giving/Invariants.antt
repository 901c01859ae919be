use Rattle.std.proofs.Common.{◌≡◌, ◌<◌, ℕ, true, false, slice_index_or}
use Rattle.std.specs.Option.{is_none}
use Rattle.ac_rules.specs.Placed.{slot_at}
use Rattle.ac_prune.specs.Left.Accounts.{asked_in}
use Rattle.ac_prune.specs.Loads.{choice_in}
use Rattle.ac_prune.specs.Trees.Keys.{is_there}
use Rattle.ac_prune.proofs.collective.last_giving.Given as goal

abbrev pub invariant-loop-s : goal.invariant-loop-s
invariant-loop-s l = (s p : ℕ) → s < l.s → is_none (slot_at (asked_in l.choices.ledger.now) s).suffix ≡ true → is_there (choice_in l.choices.ledger.now s) p ≡ true → slice_index_or l.gives p false ≡ true → s < l.last
