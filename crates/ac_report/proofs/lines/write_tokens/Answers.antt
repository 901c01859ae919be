use Rattle.std.proofs.Common.{is_some, ◌≡◌, ◌∙◌, sym, refl, arith, [], ◌∷◌}
use Rattle.std.specs.Result.{result_from_control_flow}
use Rattle.ac_query.specs.Shown.Queries.{asked_of}
use Rattle.ac_rules.specs.Lists.{tail_of}
use Rattle.ac_cloud.specs.Cloud.CloudWorld.{providers_of}
use Rattle.ac_report.specs.Pages.{IsAssignment}
use Rattle.ac_report.specs.Called.{line_by}
use Rattle.ac_report.proofs.Pages.Paging.{all_tail, cut_end, cut_over, is_next, read_end, read_last, read_on, read_over, read_stopped, same_stopped, tail_given}
use Rattle.ac_report.proofs.Pages.Writing.{halted, may_weaker, refused, stopped, wrote_none, wrote_on}
use Rattle.ac_report.proofs.lines.write_tokens.Goals as goal

pub returns-in-None-clause-reads : goal.returns-in-None-clause-reads
returns-in-None-clause-reads g c = c.lists.invariant.reads _ _ (read_end _ _ _ _ (rw c.in-None.is at c.in_ok-next.ensures.head) (tail_given result_from_control_flow (g.S.Source.left c.lists.source) c.branch-next.ensures c.in_ok-next.is refl c.next.follows.holds-at-none.0) c.lists.invariant.small)

pub returns-in-None-clause-writes : goal.returns-in-None-clause-writes
returns-in-None-clause-writes g c = c.lists.invariant.writes _ _ (wrote_none _ _ _ _ (cut_end _ _ (rw c.in-None.is at c.in_ok-next.ensures.head)))

pub returns-in_err-next-clause-reads : goal.returns-in_err-next-clause-reads
returns-in_err-next-clause-reads g c = c.lists.invariant.reads _ _ (read_stopped _ _ _ _ _ _ c.from_residual.ensures.1 (same_stopped result_from_control_flow (g.S.Source.left c.lists.source) c.branch-next.ensures c.in_err-next.is refl c.next.follows.holds-at-none.0))

pub returns-in_err-next-clause-writes : goal.returns-in_err-next-clause-writes
returns-in_err-next-clause-writes g c = c.lists.invariant.writes _ _ (halted _ _ _ _ _ c.from_residual.ensures.1 c.in_err-next.ensures.stopped)

pub returns-in_err-put_line_by-in-Some-clause-reads : goal.returns-in_err-put_line_by-in-Some-clause-reads
returns-in_err-put_line_by-in-Some-clause-reads g c =
    let next = is_next c.lists.wanted (g.S.Source.left c.lists.source) c.in-Some.list.now (λ e. let over = c.is_over.ensures.1 e in cc) (rw c.in-Some.is at c.in_ok-next.ensures.head) in
    c.lists.invariant.reads _ _ (read_last _ _ _ _ _ next (tail_given result_from_control_flow (g.S.Source.left c.lists.source) c.branch-next.ensures c.in_ok-next.is refl c.next.follows.holds-at-none.0) _ _ c.from_residual-in_err-put_line_by-in-Some.ensures.1)

pub returns-in_err-put_line_by-in-Some-clause-writes : goal.returns-in_err-put_line_by-in-Some-clause-writes
returns-in_err-put_line_by-in-Some-clause-writes g c = c.lists.invariant.writes _ _ (refused _ _ _ _ _ c.from_residual-in_err-put_line_by-in-Some.ensures.1)

pub returns-in_err-push_piece-clause-reads : goal.returns-in_err-push_piece-clause-reads
returns-in_err-push_piece-clause-reads g c =
    let next = is_next c.lists.wanted (g.S.Source.left c.lists.source) c.in-Some.list.now (λ e. let over = c.is_over.ensures.1 e in cc) (rw c.in-Some.is at c.in_ok-next.ensures.head) in
    c.lists.invariant.reads _ _ (read_last _ _ _ _ _ next (tail_given result_from_control_flow (g.S.Source.left c.lists.source) c.branch-next.ensures c.in_ok-next.is refl c.next.follows.holds-at-none.0) _ _ c.from_residual-in_err-push_piece.ensures.1)

pub returns-in_err-push_piece-clause-writes : goal.returns-in_err-push_piece-clause-writes
returns-in_err-push_piece-clause-writes g c =
    let x = c.in-Some.list.now in
    let next = is_next c.lists.wanted (g.S.Source.left c.lists.source) x (λ e. let over = c.is_over.ensures.1 e in cc) (rw c.in-Some.is at c.in_ok-next.ensures.head) in
    let piece = line_by (is_some c.args.names) (providers_of c.args.cloud.now) in
    c.lists.invariant.writes _ _
    (rw next.cut_next (stopped piece (x ∷ []) _ (c.in_err-push_piece.ensures piece x (sym (c.deref.ensures.value ∙ c.in_ok-put_line_by-in-Some.ensures))) (λ never. absurd never) c.from_residual-in_err-push_piece.ensures.1))

pub lists-preserved : goal.lists-preserved
lists-preserved g c =
    let left = g.S.Source.left in
    let x = c.in-Some.list.now in
    let next = is_next c.lists.wanted (left c.lists.source) x (λ e. let over = c.is_over.ensures.1 e in cc) (rw c.in-Some.is at c.in_ok-next.ensures.head) in
    let tail : left c.next.follows.lender-at-none ≡ tail_of (left c.lists.source) = tail_given result_from_control_flow (g.S.Source.left c.lists.source) c.branch-next.ensures c.in_ok-next.is refl c.next.follows.holds-at-none.0 in
    let piece = line_by (is_some c.args.names) (providers_of c.args.cloud.now) in
    rw (tail, c.saturating_add-count.ensures, c.one_less-wanted.ensures)
    (record {
      assigned = all_tail (IsAssignment (providers_of c.args.cloud.now) (asked_of c.args.query.now)) _ c.lists.invariant.assigned;
      small = omega arith;
      reads = λ r new h. c.lists.invariant.reads r new (read_on _ _ _ _ x next refl r new h);
      writes = λ r new h. c.lists.invariant.writes r new
          (rw next.cut_next (wrote_on piece (x ∷ []) (c.in_ok-push_piece.ensures piece x (sym (c.deref.ensures.value ∙ c.in_ok-put_line_by-in-Some.ensures))) (may_weaker c.next.follows.holds-at-none.1 h)));
    })

pub returns-clause-reads : goal.returns-clause-reads
returns-clause-reads g c = c.lists.invariant.reads _ _ (read_over _ _ _ (c.is_over.ensures.0 c.lists-test.false) c.lists.invariant.small)

pub returns-clause-writes : goal.returns-clause-writes
returns-clause-writes g c = c.lists.invariant.writes _ _ (wrote_none _ _ _ _ (cut_over _ _ (c.is_over.ensures.0 c.lists-test.false)))
