use Rattle.ac_cloud.proofs.Common.{◌∙◌, ℕ, sym, arith, providers_of, provider_at}
use Rattle.ac_cloud.specs.World.{has_name}
use Rattle.ac_cloud.proofs.Places.HostFacts.{place_fails, first_passes, second_passes, all_tested}
use Rattle.ac_cloud.proofs.cloud.Cloud.only_named.Goals as goal
use Rattle.ac_cloud.proofs.cloud.Cloud.only_named.Goals.{then-is_named+else-is_some, else-is_named}

pub returns-then-is_some : goal.returns-then-is_some
returns-then-is_some c =
    let test = λ (ix : ℕ). has_name (provider_at (providers_of c.args.self.now) ix) c.args.name.now in
    second_passes test c.loop-ix.ix _ c.loop-ix.found (omega (arith, c.loop-ix-test.true, c.len-ix-end.ensures)) c.loop-ix.invariant (sym c.is_named.ensures ∙ c.if-is_named.true) (sym c.is_some.ensures ∙ c.if-is_some.true)

pub loop-ix-preserved : goal.loop-ix-preserved
loop-ix-preserved c =
    let test = λ (ix : ℕ). has_name (provider_at (providers_of c.args.self.now) ix) c.args.name.now in
    elim c.if-is_named.branch [
      | then-is_named+else-is_some w ↦ first_passes test c.loop-ix.ix c.loop-ix.found c.if-is_named.found c.loop-ix.invariant (sym c.is_named.ensures ∙ w.if-is_named.true) (sym w.is_some.ensures ∙ w.if-is_some.false) w.found-is
      | else-is_named w ↦ place_fails test c.loop-ix.ix c.loop-ix.found c.if-is_named.found c.loop-ix.invariant (sym c.is_named.ensures ∙ w.if-is_named.false) w.found-is
    ]

pub returns : goal.returns
returns c =
    let test = λ (ix : ℕ). has_name (provider_at (providers_of c.args.self.now) ix) c.args.name.now in
    c.ok_or.ensures.value ∙ all_tested test c.loop-ix.ix _ c.loop-ix.found (omega (arith, c.loop-ix-test.false, c.loop-ix.auto.ix-end, c.len-ix-end.ensures)) c.loop-ix.invariant
