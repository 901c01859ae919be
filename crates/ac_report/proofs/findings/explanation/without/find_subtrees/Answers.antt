use Rattle.std.proofs.Common.{◌∙◌, ◌++◌, ◌∷◌, [], ℕ, Bool, Err, ap, ap₂, arith, inl, length, sym}
use Rattle.std.proofs.lemmas.List.FromFn.{length-map-range_with_len, map-range_with_len_more}
use Rattle.ac_cloud.specs.Cloud.CloudWorld.{providers_of}
use Rattle.ac_query.specs.Shown.Queries.{asked_of}
use Rattle.ac_query.specs.Without.{without_subtree}
use Rattle.ac_report.specs.Findings.Explanation.Candidates.{has_candidate, subtrees_found_before}
use Rattle.ac_report.proofs.Pages.Writing.{same_fault}
use Rattle.ac_report.proofs.findings.explanation.without.find_subtrees.Goals as goal

pub find_next-requires-clause-few : goal.find_next-requires-clause-few
find_next-requires-clause-few c =
    let found : ℕ → Bool = λ k. has_candidate (providers_of c.args.cloud.now) (without_subtree k (asked_of c.args.question.now.query)) in
    let many = ap length c.loop-list.invariant ∙ length-map-range_with_len found 0 c.loop-list._list in
    omega (arith, many, ap length c.deref.ensures.value, c.loop-list-test.true, c.subtrees-list-end.ensures.count)

pub find_next-requires-clause-found : goal.find_next-requires-clause-found
find_next-requires-clause-found c =
    let all = providers_of c.args.cloud.now in
    let asked = asked_of c.args.question.now.query in
    let found : ℕ → Bool = λ k. has_candidate all (without_subtree k asked) in
    let many = ap length c.loop-list.invariant ∙ length-map-range_with_len found 0 c.loop-list._list in
    rw c.deref.ensures.value (c.loop-list.invariant ∙ ap (subtrees_found_before all asked) (sym many))

pub loop-list-preserved : goal.loop-list-preserved
loop-list-preserved c =
    let found : ℕ → Bool = λ k. has_candidate (providers_of c.args.cloud.now) (without_subtree k (asked_of c.args.question.now.query)) in
    let k = c.loop-list._list in
    let many = ap length c.deref.ensures.value ∙ (ap length c.loop-list.invariant ∙ length-map-range_with_len found 0 k) in
    c.in_ok-push.ensures.items
    ∙ (ap₂ (λ xs x. xs ++ x ∷ []) c.loop-list.invariant (c.in_ok-next.ensures.found ∙ ap found many) ∙ sym (map-range_with_len_more found 0 k k (omega arith)))

pub returns-in_err-next-clause-stopped : goal.returns-in_err-next-clause-stopped
returns-in_err-next-clause-stopped c = λ stopped.
    let found : ℕ → Bool = λ k. has_candidate (providers_of c.args.cloud.now) (without_subtree k (asked_of c.args.question.now.query)) in
    let many = ap length c.loop-list.invariant ∙ length-map-range_with_len found 0 c.loop-list._list in
    inl (length c.deref.result.now, omega (arith, many, ap length c.deref.ensures.value, c.loop-list-test.true, c.subtrees-list-end.ensures.count), c.in_err-next.ensures.stopped (ap Err (same_fault c.from_residual.result _ _ c.from_residual.ensures.1 stopped)))
