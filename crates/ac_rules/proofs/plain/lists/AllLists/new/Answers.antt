use Rattle.ac_rules.proofs.Lists.OdometerLemmas.{start_ahead}
use Rattle.ac_rules.proofs.plain.lists.AllLists.new.Goals as goal

pub returns-clause-left : goal.returns-clause-left
returns-clause-left c =
    rw c.start-stage.ensures (start_ahead c.args.bound c.args.width c.in_ok-list.list.items (c.in_ok-list.ensures.items_if_clones_equal (λ _ e. e)))
