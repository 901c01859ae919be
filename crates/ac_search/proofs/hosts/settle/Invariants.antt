use Rattle.std.proofs.Common.{◌≡◌, length}
use Rattle.ac_search.specs.Shown.Hosts.{Settles}
use Rattle.ac_search.specs.Hosts.{AreDone}
use Rattle.ac_search.specs.Shown.Walk.{cloud_in, query_in, roots_in, left_of, may_stop}
use Rattle.ac_search.proofs.hosts.settle.Given as goal

abbrev pub invariant-candidates : goal.invariant-candidates
invariant-candidates l = record {
  settles : Settles l.walk;
  cloud : cloud_in l.walk ≡ cloud_in l.fn.walk;
  query : query_in l.walk ≡ query_in l.fn.walk;
  stops : may_stop l.walk → may_stop l.fn.walk;
  passed : AreDone (cloud_in l.walk) (roots_in l.walk) 0 l.first;
}

abbrev pub decreases-candidates : goal.decreases-candidates
decreases-candidates l = length (left_of l.walk)
