use Rattle.ac_prune.specs.Loads.{ArePartsIn}
use Rattle.ac_prune.proofs.families.parts.parts_of.Given as goal

abbrev pub invariant-loop-s : goal.invariant-loop-s
invariant-loop-s l = ArePartsIn l.choices.ledger.now l.k l.parts.items
