use Rattle.std.proofs.Common.{◌∙◌, ap, length, map, subst, sym}
use Rattle.std.specs.List.{Contains}
use Rattle.ac_base.specs.Names.{trait_bytes}
use Rattle.ac_query.specs.Shown.Groups.{group_asked}
use Rattle.ac_prune.specs.Left.Accounts.{providers_in, asked_in}
use Rattle.ac_prune.proofs.Search.CollectiveLemmas.{list_asked, marked_long}
use Rattle.ac_prune.proofs.collective.Wanted.of_list.Goals as goal

pub new-requires-clause-count : goal.new-requires-clause-count
new-requires-clause-count c = ap length c.in_ok-gives.ensures ∙ marked_long _ (length (providers_in c.args.choices.now.ledger.now))

pub new-requires-clause-asked : goal.new-requires-clause-asked
new-requires-clause-asked c =
    let l = c.args.choices.now.ledger.now in
    list_asked (providers_in l) (asked_in l) _ (map trait_bytes c.names.result.now) c.in_ok-gives.gives.items c.requires.group c.requires.plain
    (subst (Contains (group_asked c.args.group.now).any_of) (sym c.names.ensures.names) c.requires.among) c.in_ok-gives.ensures
