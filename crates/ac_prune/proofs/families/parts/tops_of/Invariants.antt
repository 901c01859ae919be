use Rattle.std.proofs.Common.{◌≡◌, ◌<◌, ℕ, [], true, length, get_or, slice_index, slice_index_or}
use Rattle.ac_prune.specs.Left.Accounts.{providers_in, asked_in}
use Rattle.ac_prune.specs.Loads.{choice_in}
use Rattle.ac_prune.specs.Parts.{IsNamed}
use Rattle.ac_prune.proofs.families.parts.tops_of.Given as goal

abbrev pub invariant-loop-s : goal.invariant-loop-s
invariant-loop-s l = record {
  count : length l.tops.items ≡ length (providers_in l.choices.ledger.now);
  tops : (u j : ℕ) → u < l.s → IsNamed (asked_in l.choices.ledger.now) (get_or (asked_in l.choices.ledger.now).subtrees l.k []) u → j < length (choice_in l.choices.ledger.now u)
      → slice_index_or l.tops.items (slice_index (choice_in l.choices.ledger.now u) j) true ≡ true;
}
