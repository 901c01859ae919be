use Rattle.std.proofs.Common.{◌≡◌, [], map, get_or, take}
use Rattle.ac_query.specs.Asked.{slots_of, lists_suffix}
use Rattle.ac_query.specs.Shown.Queries.{asked_of}
use Rattle.ac_prune.proofs.families.named_slots.Given as goal

abbrev pub invariant-loop-s : goal.invariant-loop-s
invariant-loop-s l = l.named.items ≡ map (λ s. lists_suffix (get_or (asked_of l.query).subtrees l.k []) s.suffix) (take l.s (slots_of (asked_of l.query)))
