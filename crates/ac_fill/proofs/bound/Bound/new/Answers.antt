use Rattle.std.proofs.Common.{◌≡◌, ◌∙◌, Bool, List, length, ap, sym, arith}
use Rattle.ac_cloud.specs.World.{Provider}
use Rattle.ac_cloud.specs.Cloud.CloudWorld.{providers_of}
use Rattle.ac_prune.specs.Fitting.{fitting}
use Rattle.ac_query.specs.Asked.{Asked}
use Rattle.ac_query.specs.Shown.Queries.{asked_of}
use Rattle.ac_fill.specs.Found.{AreFound}
use Rattle.ac_fill.specs.declared.found.Rarest.{Rarest}
use Rattle.ac_fill.proofs.Least.{fitting_size, shorts_told, sum_told, together_told}
use Rattle.ac_fill.proofs.bound.Bound.new.Goals as goal

-- as many roots as marks
sizes : (all : List Provider) (asked : Asked) (found : Rarest) (fits : List Bool) → AreFound all asked found → fits ≡ fitting all asked → length found.roots.items ≡ length fits
sizes all asked found fits are is = are.count ∙ sym (ap length is ∙ fitting_size all asked)

pub sum_at-requires : goal.sum_at-requires
sum_at-requires c =
    ap length c.deref.ensures.value
    ∙ sizes (providers_of c.args.cloud.now) (asked_of c.args.query.now) c.in_ok-found.found c.args.fits.now c.in_ok-found.ensures c.requires

pub shorts_at-requires : goal.shorts_at-requires
shorts_at-requires c =
    ap length c.deref-2.ensures.value
    ∙ sizes (providers_of c.args.cloud.now) (asked_of c.args.query.now) c.in_ok-found.found c.args.fits.now c.in_ok-found.ensures c.requires

pub returns-clause-most : goal.returns-clause-most
returns-clause-most c =
    let all = providers_of c.args.cloud.now in
    let asked = asked_of c.args.query.now in
    let together = c.times_found-together.ensures ∙ together_told all asked c.in_ok-found.found c.in_ok-found.ensures in
    let sum = rw (c.deref.ensures.value, c.requires, sum_told all asked c.in_ok-found.found c.in_ok-found.ensures) at c.sum_at.ensures in
    omega (arith, c.min.ensures, c.times_found-together.type_inv, together, sum)

pub returns-clause-shorts : goal.returns-clause-shorts
returns-clause-shorts c =
    let all = providers_of c.args.cloud.now in
    let asked = asked_of c.args.query.now in
    rw (c.deref-2.ensures.value, c.requires) at c.in_ok-shorts_at.ensures ∙ shorts_told all asked c.in_ok-found.found c.in_ok-found.ensures
