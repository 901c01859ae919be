use Rattle.std.proofs.Common.{refl, arith}
use Rattle.ac_cloud.specs.Cloud.CloudWorld.{providers_of}
use Rattle.ac_rules.specs.Shown.Assignments.{placed_of}
use Rattle.ac_prune.proofs.Search.GroupLemmas.{fits_marked}
use Rattle.ac_prune.proofs.choices.fits.Goals as goal

pub bounds-marks-placed : goal.bounds-marks-placed
bounds-marks-placed c = omega (arith, (rw c.in-Some.is at c.requires).count, c.args.placed.now.provider_inside)

pub returns-then-has_units : goal.returns-then-has_units
returns-then-has_units c =
    let placed = c.args.placed.now in
    let met = (rw c.in-Some.is at c.requires).each placed.provider placed.provider_inside in
    rw (← fits_marked (providers_of placed.cloud.now) (placed_of placed), ← c.has_units.ensures, c.if-has_units.true) met

pub returns-else-has_units : goal.returns-else-has_units
returns-else-has_units c =
    let placed = c.args.placed.now in
    rw (← fits_marked (providers_of placed.cloud.now) (placed_of placed), ← c.has_units.ensures, c.if-has_units.false) refl
