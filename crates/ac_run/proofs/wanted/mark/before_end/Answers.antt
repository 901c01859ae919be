use Rattle.std.proofs.Common.{◌≡◌, rules, tests, arith}
use Rattle.std.specs.List.{position}
use Rattle.std.proofs.lemmas.Grind.{common_steps}
use Rattle.std.proofs.lemmas.Iterator.{YieldsList-from_slice}
use Rattle.std.proofs.lemmas.Iterator.Search.{position_from_yields_List}
use Rattle.ac_run.specs.Wanted.Mark.{is_end}
use Rattle.ac_run.proofs.wanted.mark.before_end.Goals as goal

pub returns-in-Some : goal.returns-in-Some
returns-in-Some c =
    let found : c.position-end.result ≡ position is_end c.args.text.now = position_from_yields_List is_end _ _ _ c.position-end.ensures.ran (YieldsList-from_slice c.args.text.now cc) (λ x b q k. search (rules, tests)) in
    grind (arith, common_steps)

pub returns-in-None : goal.returns-in-None
returns-in-None c =
    let found : c.position-end.result ≡ position is_end c.args.text.now = position_from_yields_List is_end _ _ _ c.position-end.ensures.ran (YieldsList-from_slice c.args.text.now cc) (λ x b q k. search (rules, tests)) in
    grind (arith, common_steps)
