use Rattle.ac_search.proofs.least.+push_least.Given as goal

abbrev pub decreases-push_least : goal.decreases-push_least
decreases-push_least l = l.width
