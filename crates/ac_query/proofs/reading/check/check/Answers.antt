use Rattle.std.proofs.Common.{◌≡◌, ◌∙◌, refl, sym, IfSome, Some}
use Rattle.std.proofs.lemmas.Option.{IfSome_then}
use Rattle.ac_query.specs.Faults.{first_fault, asked_conditions}
use Rattle.ac_query.specs.Shown.Faults.{fault_shown}
use Rattle.ac_query.specs.Shown.Draft.{draft_asked}
use Rattle.ac_query.proofs.Pairs.PairSteps.{err_is}
use Rattle.ac_query.proofs.Checks.{in_turn}
use Rattle.ac_query.proofs.reading.check.check.Goals as goal

pub returns-in_err-check_groups-clause-fault : goal.returns-in_err-check_groups-clause-fault
returns-in_err-check_groups-clause-fault c =
    let turn = in_turn (draft_asked c.args.draft.now) (sym c.has_resources.ensures ∙ c.if-not-has_resources.false) _ c.in_ok-listed.ensures in
    err_is _ (λ e. IfSome (fault_shown e) (λ f. first_fault (asked_conditions (draft_asked c.args.draft.now)) ≡ Some f)) _ c.from_residual-in_err-check_groups.ensures.1
    (IfSome_then (fault_shown c.in_err-check_groups.field-0.0) c.in_err-check_groups.ensures.fault (λ f e. turn ∙ (rw e refl)))

pub returns-in_err-check_suffixes-clause-fault : goal.returns-in_err-check_suffixes-clause-fault
returns-in_err-check_suffixes-clause-fault c =
    let turn = in_turn (draft_asked c.args.draft.now) (sym c.has_resources.ensures ∙ c.if-not-has_resources.false) _ c.in_ok-listed.ensures in
    err_is _ (λ e. IfSome (fault_shown e) (λ f. first_fault (asked_conditions (draft_asked c.args.draft.now)) ≡ Some f)) _ c.from_residual-in_err-check_suffixes.ensures.1
    (IfSome_then (fault_shown c.in_err-check_suffixes.field-0.0) c.in_err-check_suffixes.ensures.fault (λ f e. turn ∙ (rw (c.in_ok-check_groups.ensures.ok, e) refl)))

pub returns-then-lacks_policy-clause-fault : goal.returns-then-lacks_policy-clause-fault
returns-then-lacks_policy-clause-fault c =
    in_turn (draft_asked c.args.draft.now) (sym c.has_resources.ensures ∙ c.if-not-has_resources.false) _ c.in_ok-listed.ensures
    ∙ (rw (c.in_ok-check_groups.ensures.ok, c.in_ok-check_suffixes.ensures.ok, sym c.lacks_policy.ensures ∙ c.if-lacks_policy.true) refl)

pub returns-then-is_too_large-clause-fault : goal.returns-then-is_too_large-clause-fault
returns-then-is_too_large-clause-fault c =
    in_turn (draft_asked c.args.draft.now) (sym c.has_resources.ensures ∙ c.if-not-has_resources.false) _ c.in_ok-listed.ensures
    ∙ (rw (c.in_ok-check_groups.ensures.ok, c.in_ok-check_suffixes.ensures.ok, sym c.lacks_policy.ensures ∙ c.if-lacks_policy.false, sym c.is_too_large.ensures ∙ c.if-is_too_large.true) refl)

pub returns-clause-ok : goal.returns-clause-ok
returns-clause-ok c =
    in_turn (draft_asked c.args.draft.now) (sym c.has_resources.ensures ∙ c.if-not-has_resources.false) _ c.in_ok-listed.ensures
    ∙ (rw (c.in_ok-check_groups.ensures.ok, c.in_ok-check_suffixes.ensures.ok, sym c.lacks_policy.ensures ∙ c.if-lacks_policy.false, sym c.is_too_large.ensures ∙ c.if-is_too_large.false) refl)
