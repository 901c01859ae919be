use Rattle.std.proofs.Common.{◌≡◌, ◌∙◌, ◌&&◌, IfOk, length, option_map, ap}
use Rattle.std.proofs.lemmas.List.FromFn.{length-map-range_with_len}
use Rattle.std.specs.Prelude.{◌==◌}
use Rattle.ac_cloud.specs.Cloud.CloudWorld.{providers_of}
use Rattle.ac_query.specs.Shown.Queries.{asked_of}
use Rattle.ac_query.specs.Tokens.{ids_of}
use Rattle.ac_rules.specs.Pages.{rest}
use Rattle.ac_rules.specs.Together.{takes_root}
use Rattle.ac_prune.proofs.Roots.RootLemmas.{if_ok}
use Rattle.ac_search.proofs.Steps.LeaveLemmas.{standing_only}
use Rattle.ac_search.proofs.walk.Walk.at.Goals as goal

pub begin-requires : goal.begin-requires
begin-requires c =
    let takes = takes_root (providers_of c.args.cloud.now) (asked_of c.args.query.now) c.in-Some.root in
    ap length c.in_ok-marks-in-Some.ensures ∙ length-map-range_with_len (λ q. (q == c.in-Some.root) && takes) 0 (length (providers_of c.args.cloud.now))

pub returns-in_ok-marks-in-Some-clause-left : goal.returns-in_ok-marks-in-Some-clause-left
returns-in_ok-marks-in-Some-clause-left c =
    let all = providers_of c.args.cloud.now in
    let asked = asked_of c.args.query.now in
    let r = c.in-Some.root in
    rw c.in-Some.is
    (if_ok _ _ c.begin.result (λ walk left. left ∙ standing_only all c.in_ok-marks-in-Some.marks.items r (takes_root all asked r) (rw c.in-Some.is at c.requires) c.in_ok-marks-in-Some.ensures
    (rest all asked (option_map (λ t. ids_of t.now) c.args.after))) c.begin.ensures.left)
