use Rattle.std.proofs.Common.{refl}
use Rattle.ac_prune.specs.Left.Accounts.{providers_in, asked_in}
use Rattle.ac_prune.proofs.Search.OpenLemmas.{fits_none}
use Rattle.ac_prune.proofs.choices.all_choices.Goals as goal

pub is_open-opens-requires-clause-own : goal.is_open-opens-requires-clause-own
is_open-opens-requires-clause-own c = fits_none (providers_in c.args.ledger.now) (asked_in c.args.ledger.now) _ refl
