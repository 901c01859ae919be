use Rattle.std.proofs.Common.{◌≡◌, map, take}
use Rattle.ac_query.specs.Asked.{slots_of}
use Rattle.ac_prune.specs.Left.Accounts.{providers_in, asked_in}
use Rattle.ac_prune.specs.QuerySearch.{choice_of}
use Rattle.ac_prune.proofs.choices.all_choices.Given as goal

abbrev pub invariant-loop-s : goal.invariant-loop-s
invariant-loop-s l =
    let all = providers_in l.ledger in
    let asked = asked_in l.ledger in
    map (λ choices. choices.items) l.all.items ≡ map (λ slot. choice_of all asked slot) (take l.s (slots_of asked))
