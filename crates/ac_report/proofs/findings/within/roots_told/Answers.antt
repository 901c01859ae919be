use Rattle.std.proofs.Common.{◌<◌, ℕ, length, arith, sym, subst, ap}
use Rattle.std.specs.List.{All}
use Rattle.std.proofs.lemmas.List.Elements.{All-filter}
use Rattle.std.proofs.lemmas.Result.{IfOk-weaker}
use Rattle.ac_cloud.specs.Cloud.CloudWorld.{providers_of}
use Rattle.ac_query.specs.Shown.Queries.{asked_of}
use Rattle.ac_prune.proofs.Search.OpenLemmas.{filter_few}
use Rattle.ac_prune.specs.Fitting.{fits_at}
use Rattle.ac_report.proofs.findings.within.roots_told.Goals as goal

pub returns-then-only_fitting-clause-below : goal.returns-then-only_fitting-clause-below
returns-then-only_fitting-clause-below c =
    let all = providers_of c.args.cloud.now in
    let below = λ (r : ℕ). r < length all in
    let fits = fits_at all (asked_of c.args.query.now) in
    let given = All-filter fits below c.deref.result.now (subst (All below) (sym c.deref.ensures.value) c.in_ok-roots.ensures.below) in
    IfOk-weaker c.fitting_of.result _ _ (λ kept is. subst (All below) (sym is) given) c.fitting_of.ensures

pub returns-then-only_fitting-clause-few : goal.returns-then-only_fitting-clause-few
returns-then-only_fitting-clause-few c =
    let fits = fits_at (providers_of c.args.cloud.now) (asked_of c.args.query.now) in
    let few = filter_few fits c.deref.result.now in
    let many = ap length c.deref.ensures.value in
    IfOk-weaker c.fitting_of.result _ _ (λ kept is. omega (arith, ap length is, few, many, c.in_ok-roots.ensures.few)) c.fitting_of.ensures
