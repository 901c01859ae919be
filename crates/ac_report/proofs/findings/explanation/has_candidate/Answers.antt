use Rattle.std.proofs.Common.{◌∙◌, ap, sym}
use Rattle.std.specs.Prelude.{not}
use Rattle.ac_query.specs.Shown.Queries.{asked_of}
use Rattle.ac_rules.specs.Lists.{head_of}
use Rattle.ac_rules.specs.Together.{is_empty}
use Rattle.ac_find.specs.Explained.{TreeCounts}
use Rattle.ac_find.proofs.NoneLemmas.{none_without_traits}
use Rattle.ac_cloud.specs.Cloud.CloudWorld.{providers_of}
use Rattle.ac_report.proofs.FoundTexts.FirstFound.{first_found}
use Rattle.ac_report.proofs.findings.explanation.has_candidate.Goals as goal

pub returns-then-trees-eq0-clause-found : goal.returns-then-trees-eq0-clause-found
returns-then-trees-eq0-clause-found c =
    let all = providers_of c.args.cloud.now in
    let asked = asked_of c.args.query.now in
    sym (ap (λ lists. not (is_empty lists)) (none_without_traits all asked (sym (ap (λ (counts : TreeCounts). counts.required_traits) c.requires) ∙ c.if-trees-eq0.true)))

pub returns-clause-found : goal.returns-clause-found
returns-clause-found c =
    c.is_some.ensures
    ∙ first_found (providers_of c.args.cloud.now) (asked_of c.args.query.now) c.in_ok-first.first (c.in_ok-first.ensures.head ∙ ap head_of (c.within-walk.ensures.left ∙ c.in_ok-new.ensures.left))
