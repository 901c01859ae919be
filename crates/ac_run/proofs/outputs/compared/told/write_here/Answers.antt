use Rattle.std.proofs.Common.{◌≡◌, ◌∙◌, ◌∷◌, [], List, ℕ, None, map, refl, string_bytes, ap, arith}
use Rattle.std.specs.Borrow.{Bor}
use Rattle.std.specs.Result.{result_from_control_flow}
use Rattle.ac_cloud.specs.Cloud.CloudWorld.{providers_of}
use Rattle.ac_query.specs.Shown.Queries.{asked_of}
use Rattle.ac_rules.specs.Lists.{tail_of}
use Rattle.ac_report.specs.Pages.{IsAssignment}
use Rattle.ac_report.proofs.Pages.Paging.{all_head, all_tail, cut_end, is_next, tail_given}
use Rattle.ac_report.proofs.Pages.Writing.{halted, wrote_none}
use Rattle.ac_run.specs.Compared.{count_known, is_among, lines_here}
use Rattle.ac_run.proofs.Comparing.Telling.{count_on, here_none, here_on, met_on, status_on, stops_next, writes_next}
use Rattle.ac_run.proofs.outputs.compared.told.write_here.Goals as goal

pub returns-in_err-next-clause-writes : goal.returns-in_err-next-clause-writes
returns-in_err-next-clause-writes g c = c.lists.invariant.writes _ _ (halted _ _ _ _ _ c.from_residual.ensures.1 c.in_err-next.ensures.stopped)

pub returns-in-None-clause-writes : goal.returns-in-None-clause-writes
returns-in-None-clause-writes g c =
    c.lists.invariant.writes _ _ (wrote_none _ _ _ _ (here_none _ _ _ _ _ (cut_end None (g.S.Source.left c.lists.source) (rw c.in-None.is at c.in_ok-next.ensures.head))))

pub returns-in-None-clause-same : goal.returns-in-None-clause-same
returns-in-None-clause-same g c =
    let known = is_among (map (λ (t : Bor (List ℕ)). t.now) c.args.known.now.keys) in
    let none = ap (count_known known (providers_of c.args.cloud.now) (asked_of c.args.query.now)) (cut_end None (g.S.Source.left c.lists.source) (rw c.in-None.is at c.in_ok-next.ensures.head)) in
    omega (arith, none, c.lists.invariant.same, c.lists.invariant.small)

pub write_list-requires : goal.write_list-requires
write_list-requires g c =
    all_head (IsAssignment (providers_of c.args.cloud.now) (asked_of c.args.query.now)) (g.S.Source.left c.lists.source) c.in-Some.list.now (rw c.in-Some.is at c.in_ok-next.ensures.head) c.lists.invariant.assigned

pub returns-in_err-is_known-in-Some-clause-writes : goal.returns-in_err-is_known-in-Some-clause-writes
returns-in_err-is_known-in-Some-clause-writes g c =
    let known = is_among (map (λ (t : Bor (List ℕ)). t.now) c.args.known.now.keys) in
    let all = providers_of c.args.cloud.now in
    let asked = asked_of c.args.query.now in
    let list = c.in-Some.list.now in
    let lists = g.S.Source.left c.lists.source in
    let first = (is_next None lists list (λ e. absurd (cc)) (rw c.in-Some.is at c.in_ok-next.ensures.head)).first in
    let next = here_on known all asked list lists (tail_of lists) first c.args.whole in
    c.lists.invariant.writes _ _
    (stops_next (lines_here c.args.whole known all asked (list ∷ [])) (lines_here c.args.whole known all asked (tail_of lists)) next (λ never. absurd never) c.in_err-is_known-in-Some.ensures.writes c.from_residual-in_err-is_known-in-Some.ensures.1)

pub lists-preserved : goal.lists-preserved
lists-preserved g c =
    let known = is_among (map (λ (t : Bor (List ℕ)). t.now) c.args.known.now.keys) in
    let all = providers_of c.args.cloud.now in
    let asked = asked_of c.args.query.now in
    let list = c.in-Some.list.now in
    let lists = g.S.Source.left c.lists.source in
    let rest = tail_of lists in
    let first = (is_next None lists list (λ e. absurd (cc)) (rw c.in-Some.is at c.in_ok-next.ensures.head)).first in
    let tail : g.S.Source.left c.next.follows.lender-at-none ≡ rest =
    tail_given result_from_control_flow lists c.branch-next.ensures c.in_ok-next.is refl c.next.follows.holds-at-none.0 in
    let step = c.in_ok-is_known-in-Some in
    rw tail
    (record {
      assigned = all_tail (IsAssignment all asked) _ c.lists.invariant.assigned;
      small = omega arith;
      same = omega (arith, count_on known all asked list lists rest first step.is_known step.ensures.known, c.one_more-same.ensures, c.lists.invariant.same);
      status = omega (arith, status_on known all asked list lists rest first step.is_known step.ensures.known c.args.whole, c.status_with-status.ensures, c.lists.invariant.status);
      met = met_on known all asked list lists rest first step.is_known step.ensures.known (map string_bytes c.lists.met.keys) _ step.ensures.met ∙ c.lists.invariant.met;
      writes = λ r new h.
          c.lists.invariant.writes r new
          (writes_next (lines_here c.args.whole known all asked (list ∷ [])) (lines_here c.args.whole known all asked rest) (here_on known all asked list lists rest first c.args.whole) c.next.follows.holds-at-none.1 step.ensures.writes h);
    })
