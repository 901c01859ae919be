use Rattle.std.proofs.lemmas.Grind.{common_steps}
use Rattle.std.proofs.Common.{◌≡◌, ◌∙◌, ◌+◌, ap, arith, length, IfSome, Some}
use Rattle.ac_query.specs.Shown.Draft.{draft_shown}
use Rattle.std.specs.String.{string_bytes}
use Rattle.form_urlencoded.specs.Parse.{owned_pairs_left}
use Rattle.ac_query.specs.Faults.{first_fault, text_conditions}
use Rattle.ac_query.specs.Shown.Faults.{fault_shown}
use Rattle.ac_query.specs.Shown.{texts_shown}
use Rattle.ac_query.specs.Shown.Given.{given_shown}
use Rattle.ac_query.proofs.Pairs.Fits.{raw_pairs-fits}
use Rattle.ac_query.proofs.Pairs.PairSteps.{err_is, is_too_long, pairs_decide}
use Rattle.ac_query.proofs.Pairs.Passing.{pass_goes_on, pass_stops, adds_on}
use Rattle.ac_query.proofs.reading.pass.read_draft.Goals as goal

pub returns-then-text-gt-MOST_BYTES-clause-fault : goal.returns-then-text-gt-MOST_BYTES-clause-fault
returns-then-text-gt-MOST_BYTES-clause-fault c = is_too_long c.args.version c.args.text.now c.if-text-gt-MOST_BYTES.true

pub loop-pair-init : goal.loop-pair-init
loop-pair-init c = grind (arith, common_steps, raw_pairs-fits, pairs_decide)

pub loop-pair-preserved : goal.loop-pair-preserved
loop-pair-preserved c =
    let step = rw c.in_ok-name.was at c.in-Some.ensures.steps in
    let value_is = c.as_str.ensures.value ∙ step.3.1.2 in
    record {
      fits = omega (arith, ap length step.2, c.loop-pair.invariant.fits);
      faults =
          pass_goes_on c.args.version (owned_pairs_left c.loop-pair.pair-iterator) (owned_pairs_left c.next.new.self) step.0 step.1 step.2
          (string_bytes c.in_ok-name.name, c.as_str.result.now) step.3.0.2 value_is
          (c.loop-pair.number + 1) (texts_shown c.loop-pair.earlier) _ c.loop-pair.invariant.faults (texts_shown c.read_pair.new.earlier)
          c.in_ok-given.ensures.ok c.in_ok-given.ensures.earlier;
      asked =
          adds_on c.args.version (owned_pairs_left c.loop-pair.pair-iterator) (owned_pairs_left c.next.new.self) step.0 step.1 step.2
          (string_bytes c.in_ok-name.name, c.as_str.result.now) step.3.0.2 value_is
          (draft_shown c.loop-pair.draft) (draft_shown c.add.new.self) _ (given_shown c.in_ok-given.given) c.loop-pair.invariant.asked
          c.in_ok-given.ensures.value c.in_ok-add.ensures;
    }

pub returns-in_err-given-clause-fault : goal.returns-in_err-given-clause-fault
returns-in_err-given-clause-fault c =
    let step = rw c.in_ok-name.was at c.in-Some.ensures.steps in
    let value_is = c.as_str.ensures.value ∙ step.3.1.2 in
    let told =
    pass_stops c.args.version (owned_pairs_left c.loop-pair.pair-iterator) (owned_pairs_left c.next.new.self) step.0 step.1 step.2
    (string_bytes c.in_ok-name.name, c.as_str.result.now) step.3.0.2 value_is
    (c.loop-pair.number + 1) (texts_shown c.loop-pair.earlier) _ c.loop-pair.invariant.faults (fault_shown c.in_err-given.field-0.0)
    c.in_err-given.ensures.fault in
    err_is _ (λ e. IfSome (fault_shown e) (λ f. first_fault (text_conditions c.args.version c.args.text.now) ≡ Some f)) _ c.from_residual-in_err-given.ensures.1 told
