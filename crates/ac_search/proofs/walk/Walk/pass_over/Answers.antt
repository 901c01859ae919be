use Rattle.std.proofs.Common.{arith}
use Rattle.ac_search.specs.Shown.Walk.{front_in}
use Rattle.ac_rules.proofs.Lists.OrderLemmas.{lex_asym}
use Rattle.ac_search.proofs.Search.BoundLemmas.{left_here}
use Rattle.ac_search.proofs.Steps.StepLemmas.{laws_in, goes_skip}
use Rattle.ac_search.proofs.walk.Walk.pass_over.Goals as goal

pub returns-clause-passes : goal.returns-clause-passes
returns-clause-passes c =
    let w = c.args.self.now in
    let v = c.skip.new.self in
    let skips = c.skip.ensures.skips in
    let goes = goes_skip w v skips c.requires.among (left_here (laws_in w) w.sound c.requires.among c.requires.dead) in
    record { same = skips.same; path = skips.path; depth = skips.depth; on = omega (arith, skips.at); left = goes.left; up = lex_asym (front_in w) (front_in v) goes.up; kept = goes.kept }
