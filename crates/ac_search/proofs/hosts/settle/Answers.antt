use Rattle.std.proofs.Common.{◌∙◌, ap, arith, length}
use Rattle.std.proofs.lemmas.Result.{err_from_is_err_and}
use Rattle.std.specs.Option.{option_map}
use Rattle.ac_search.specs.Search.Steps.{Advances, Finishes}
use Rattle.ac_search.specs.Shown.Walk.{cloud_in, roots_in}
use Rattle.ac_search.proofs.Steps.LeaveLemmas.{may_on, path_within, roots_still, settles_on, settles_end, less_left}
use Rattle.ac_search.proofs.Steps.SpentLemmas.{done_next, done_then, settled_all, settles_still}
use Rattle.ac_search.proofs.hosts.settle.Goals as goal

pub returns-then-not-given-clause-cloud : goal.returns-then-not-given-clause-cloud
returns-then-not-given-clause-cloud c = let end : Finishes c.candidates.walk c.advance.new.self = rw c.if-not-given.true at c.in_ok-given.ensures.found in end.tries.cloud ∙ c.candidates.invariant.cloud

pub returns-then-not-given-clause-query : goal.returns-then-not-given-clause-query
returns-then-not-given-clause-query c = let end : Finishes c.candidates.walk c.advance.new.self = rw c.if-not-given.true at c.in_ok-given.ensures.found in end.tries.query ∙ c.candidates.invariant.query

pub returns-then-not-given-clause-settled : goal.returns-then-not-given-clause-settled
returns-then-not-given-clause-settled c = settles_end c.candidates.walk c.advance.new.self c.candidates.invariant.settles (rw c.if-not-given.true at c.in_ok-given.ensures.found)

pub returns-in-None-clause-settled : goal.returns-in-None-clause-settled
returns-in-None-clause-settled c =
    let w = c.candidates.walk in
    let z = c.leave_path.new.self in
    let on : Advances w c.advance.new.self = rw c.if-not-given.false at c.in_ok-given.ensures.found in
    let settles = settles_on w c.advance.new.self c.candidates.invariant.settles on c.leave_roots.new.self c.leave_roots.ensures in
    settled_all z (settles_still c.leave_roots.new.self z settles c.leave_path.ensures)
    (done_then (cloud_in z) (roots_in z) c.candidates.first (length (cloud_in z))
    (done_next w c.advance.new.self c.leave_roots.new.self z c.leave_roots.ensures c.leave_path.ensures (ap (option_map (λ marks. marks.items)) on.roots) on.tries.cloud c.candidates.first c.candidates.invariant.passed)
    (rw c.in-None.is at c.next_root.ensures))

pub leave_roots-requires-clause-providers : goal.leave_roots-requires-clause-providers
leave_roots-requires-clause-providers c =
    let w = c.candidates.walk in
    let on : Advances w c.advance.new.self = rw c.if-not-given.false at c.in_ok-given.ensures.found in
    path_within w c.advance.new.self c.candidates.invariant.settles on

pub leave_roots-requires-clause-some : goal.leave_roots-requires-clause-some
leave_roots-requires-clause-some c =
    let w = c.candidates.walk in
    let on : Advances w c.advance.new.self = rw c.if-not-given.false at c.in_ok-given.ensures.found in
    roots_still w c.advance.new.self c.candidates.invariant.settles on

pub leave_path-requires-clause-settles : goal.leave_path-requires-clause-settles
leave_path-requires-clause-settles c =
    let w = c.candidates.walk in
    let on : Advances w c.advance.new.self = rw c.if-not-given.false at c.in_ok-given.ensures.found in
    settles_on w c.advance.new.self c.candidates.invariant.settles on c.leave_roots.new.self c.leave_roots.ensures

pub leave_path-requires-clause-providers : goal.leave_path-requires-clause-providers
leave_path-requires-clause-providers c =
    let w = c.candidates.walk in
    let on : Advances w c.advance.new.self = rw c.if-not-given.false at c.in_ok-given.ensures.found in
    rw (c.leave_roots.ensures.cloud, c.leave_roots.ensures.path) (path_within w c.advance.new.self c.candidates.invariant.settles on)

pub candidates-smaller : goal.candidates-smaller
candidates-smaller c =
    let less = less_left c.candidates.walk c.advance.new.self c.candidates.invariant.settles (rw c.if-not-given.false at c.in_ok-given.ensures.found) c.leave_roots.new.self c.leave_roots.ensures in
    omega (arith, less, ap length c.leave_path.ensures.left)

pub candidates-preserved : goal.candidates-preserved
candidates-preserved c =
    let w = c.candidates.walk in
    let on : Advances w c.advance.new.self = rw c.if-not-given.false at c.in_ok-given.ensures.found in
    let settles = settles_on w c.advance.new.self c.candidates.invariant.settles on c.leave_roots.new.self c.leave_roots.ensures in
    record {
      settles = settles_still c.leave_roots.new.self c.leave_path.new.self settles c.leave_path.ensures;
      cloud = c.leave_path.ensures.cloud ∙ (c.leave_roots.ensures.cloud ∙ (on.tries.cloud ∙ c.candidates.invariant.cloud));
      stops = λ may. c.candidates.invariant.stops (may_on w c.advance.new.self on (c.leave_roots.ensures.stops (c.leave_path.ensures.stops may)));
      query = c.leave_path.ensures.query ∙ (c.leave_roots.ensures.query ∙ (on.tries.query ∙ c.candidates.invariant.query));
      passed =
          done_then (cloud_in c.leave_path.new.self) (roots_in c.leave_path.new.self) c.candidates.first c.in-Some.root
          (done_next w c.advance.new.self c.leave_roots.new.self c.leave_path.new.self c.leave_roots.ensures c.leave_path.ensures (ap (option_map (λ marks. marks.items)) on.roots) on.tries.cloud c.candidates.first c.candidates.invariant.passed)
          (rw c.in-Some.is at c.next_root.ensures);
    }

pub returns-in_err-given-clause-stopped : goal.returns-in_err-given-clause-stopped
returns-in_err-given-clause-stopped c =
    let e = err_from_is_err_and c.from_residual.result c.from_residual.ensures.1 in
    rw e.1 (c.candidates.invariant.stops c.in_err-given.ensures.stopped.may)
