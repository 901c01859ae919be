use Rattle.std.proofs.Common.{◌∙◌, ap, length}
use Rattle.ac_prune.specs.Left.Accounts.{providers_in, asked_in}
use Rattle.ac_prune.proofs.Search.CollectiveLemmas.{trait_asked, marked_long}
use Rattle.ac_prune.proofs.collective.Wanted.of_trait.Goals as goal

pub new-requires-clause-count : goal.new-requires-clause-count
new-requires-clause-count c = ap length c.in_ok-gives.ensures ∙ marked_long _ (length (providers_in c.args.choices.now.ledger.now))

pub new-requires-clause-asked : goal.new-requires-clause-asked
new-requires-clause-asked c =
    let l = c.args.choices.now.ledger.now in
    trait_asked (providers_in l) (asked_in l) _ _ c.in_ok-gives.gives.items c.requires.group c.requires.plain c.requires.among c.in_ok-gives.ensures
