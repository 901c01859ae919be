use Rattle.std.proofs.lemmas.List.Elements.{All-push}
use Rattle.ac_prune.specs.Left.Accounts.{providers_in, asked_in}
use Rattle.ac_prune.specs.Tests.{IsTest}
use Rattle.ac_prune.specs.declared.lookout.Test.{Test}
use Rattle.ac_prune.specs.declared.lookout.Test.TheVariants.{Family}
use Rattle.ac_prune.proofs.lookout.push_family.Goals as goal

pub returns : goal.returns
returns c =
    let P : Test → _ = IsTest (providers_in c.args.choices.now.ledger.now) (asked_in c.args.choices.now.ledger.now) in
    rw c.in_ok-push.ensures.items (All-push P c.args.tests.now.items (Family c.in_ok-new.field-0) c.requires.tests c.in_ok-new.ensures)
