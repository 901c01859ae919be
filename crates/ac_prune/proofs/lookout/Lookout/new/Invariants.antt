use Rattle.std.specs.List.{All}
use Rattle.ac_prune.specs.Left.Accounts.{providers_in, asked_in}
use Rattle.ac_prune.specs.Tests.{IsTest}
use Rattle.ac_prune.proofs.lookout.Lookout.new.Given as goal

abbrev pub invariant-loop-k : goal.invariant-loop-k
invariant-loop-k l = All (IsTest (providers_in l.ledger) (asked_in l.ledger)) l.tests.items
