use Rattle.ac_search.proofs.Steps.EndLemmas.{comes_new, comes_past, comes_on, advances, finishes, remaining_falls, stops}
use Rattle.ac_search.proofs.walk.Walk.advance.Goals as goal

pub steps-init : goal.steps-init
steps-init c = comes_new c.args.self.now

pub returns-in-Given-clause-found : goal.returns-in-Given-clause-found
returns-in-Given-clause-found c =
    let w = c.args.self.now in
    let u = c.pass.new.self in
    advances w u c.step.new.self (comes_past w c.steps.self u c.steps.invariant c.pass.ensures.passes c.pass.ensures.within) c.in-Given.ensures.gives c.in-Given.ensures.within

pub returns-in-Ended-clause-found : goal.returns-in-Ended-clause-found
returns-in-Ended-clause-found c =
    let w = c.args.self.now in
    let u = c.pass.new.self in
    finishes w u c.step.new.self (comes_past w c.steps.self u c.steps.invariant c.pass.ensures.passes c.pass.ensures.within) c.in-Ended.ensures.gives

pub returns-in-Stopped-clause-stopped : goal.returns-in-Stopped-clause-stopped
returns-in-Stopped-clause-stopped c =
    let w = c.args.self.now in
    let u = c.pass.new.self in
    stops w u c.step.new.self (comes_past w c.steps.self u c.steps.invariant c.pass.ensures.passes c.pass.ensures.within) c.in-Stopped.ensures.gives

pub steps-preserved : goal.steps-preserved
steps-preserved c =
    let w = c.args.self.now in
    let u = c.pass.new.self in
    comes_on w u c.step.new.self (comes_past w c.steps.self u c.steps.invariant c.pass.ensures.passes c.pass.ensures.within) c.in-Went.ensures.gives c.in-Went.ensures.within

pub steps-smaller : goal.steps-smaller
steps-smaller c = remaining_falls c.steps.self c.pass.new.self c.step.new.self c.pass.ensures.passes c.in-Went.ensures.gives
