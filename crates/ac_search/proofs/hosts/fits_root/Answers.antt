use Rattle.std.proofs.Common.{length, sym, ◌∙◌, ap}
use Rattle.std.proofs.lemmas.List.FromFn.{length-map-range_with_len}
use Rattle.std.specs.Prelude.{◌==◌}
use Rattle.ac_query.specs.Shown.Queries.{asked_of}
use Rattle.ac_cloud.specs.Cloud.CloudWorld.{providers_of}
use Rattle.ac_search.proofs.Steps.LeaveLemmas.{fits_alone}
use Rattle.ac_search.proofs.hosts.fits_root.Goals as goal

pub at_roots-requires : goal.at_roots-requires
at_roots-requires c = ap length c.in_ok-roots.ensures ∙ length-map-range_with_len (λ q. q == c.args.root) 0 (length (providers_of c.args.cloud.now))

pub returns-clause-fits : goal.returns-clause-fits
returns-clause-fits c =
    fits_alone (providers_of c.args.cloud.now) (asked_of c.args.query.now) c.in_ok-roots.roots.items c.args.root c.requires c.in_ok-roots.ensures (sym c.takes_root.ensures ∙ c.if-not-takes_root.false)
    c.within-walk.result c.advance.new.self c.in_ok-fits.fits (c.within-walk.ensures.left ∙ c.in_ok-at_roots.ensures.left) c.in_ok-fits.ensures.found
