use Rattle.ac_prune.proofs.Roots.MixedLemmas.{times_few, times_reach}
use Rattle.ac_prune.proofs.hosts.mixed.count_times.Goals as goal

pub returns-clause-reach : goal.returns-clause-reach
returns-clause-reach c = times_reach c.args.small c.args.large c.requires.small c.requires.large

pub returns-clause-few : goal.returns-clause-few
returns-clause-few c = times_few c.args.small c.args.large c.requires.large
