use Rattle.std.proofs.Common.{arith, rules}
use Rattle.std.proofs.lemmas.Grind.{common_steps}
use Rattle.std.proofs.Common.{◌∙◌}
use Rattle.ac_query.specs.Pairs.{pairs_of}
use Rattle.ac_query.specs.Shown.Draft.{draft_shown}
use Rattle.ac_query.proofs.Pairs.PairSteps.{err_is}
use Rattle.ac_query.proofs.Wholes.{asked_is, text_stops, goes_on, asks_record}
use Rattle.ac_query.proofs.query.Query.read.Goals as goal

pub returns-in_err-draft-clause-fault : goal.returns-in_err-draft-clause-fault
returns-in_err-draft-clause-fault c = grind (arith, common_steps, err_is, text_stops)

pub returns-in_err-check-clause-fault : goal.returns-in_err-check-clause-fault
returns-in_err-check-clause-fault c = search (rules, arith, err_is, goes_on)

pub returns-clause-ok : goal.returns-clause-ok
returns-clause-ok c = goes_on c.args.version c.args.text.now c.in_ok-draft.ensures.ok (draft_shown c.in_ok-draft.draft) c.in_ok-draft.ensures.draft ∙ c.in_ok-check.ensures.ok

pub returns-clause-record : goal.returns-clause-record
returns-clause-record c = c.in_ok-query_of.ensures ∙ asked_is c.args.version (pairs_of c.args.text.now) (draft_shown c.in_ok-draft.draft) c.in_ok-draft.ensures.draft

pub returns-clause-asks : goal.returns-clause-asks
returns-clause-asks c = asks_record c.args.version c.args.text.now c.in_ok-draft.ensures.ok _ (returns-clause-record c)
