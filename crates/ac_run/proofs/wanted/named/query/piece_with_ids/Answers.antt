use Rattle.std.proofs.Common.{◌∙◌, sym}
use Rattle.std.proofs.lemmas.Result.{IfErr-weaker, IfOk-weaker}
use Rattle.ac_run.specs.Wanted.Named.{piece_with_ids}
use Rattle.ac_run.proofs.wanted.named.query.piece_with_ids.Goals as goal

pub returns-then-branch-clause-text : goal.returns-then-branch-clause-text
unfolding piece_with_ids
returns-then-branch-clause-text c =
    IfOk-weaker c.tree_with_id.result _ _ (λ text h called are. rw (sym c.in_ok-has_field.ensures ∙ c.if-branch.true) (h called.providers are.providers)) c.tree_with_id.ensures.text

pub returns-then-branch-clause-fault : goal.returns-then-branch-clause-fault
unfolding piece_with_ids
returns-then-branch-clause-fault c =
    IfErr-weaker c.tree_with_id.result _ _ (λ fault h called are. rw (sym c.in_ok-has_field.ensures ∙ c.if-branch.true) (h called.providers are.providers)) c.tree_with_id.ensures.fault

pub returns-then-branch-2-clause-text : goal.returns-then-branch-2-clause-text
unfolding piece_with_ids
returns-then-branch-2-clause-text c =
    IfOk-weaker c.members_with_ids.result _ _
    (λ text h called are. rw (sym c.in_ok-has_field.ensures ∙ c.if-branch.false, sym c.in_ok-has_field-2.ensures ∙ c.if-branch-2.true) (h called.aggregates are.aggregates)) c.members_with_ids.ensures.text

pub returns-then-branch-2-clause-fault : goal.returns-then-branch-2-clause-fault
unfolding piece_with_ids
returns-then-branch-2-clause-fault c =
    IfErr-weaker c.members_with_ids.result _ _
    (λ fault h called are. rw (sym c.in_ok-has_field.ensures ∙ c.if-branch.false, sym c.in_ok-has_field-2.ensures ∙ c.if-branch-2.true) (h called.aggregates are.aggregates)) c.members_with_ids.ensures.fault
