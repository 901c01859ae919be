use Rattle.std.proofs.Common.{◌≡◌, fold, option_map}
use Rattle.serde_json.specs.Data.{put}
use Rattle.serde_json.specs.View.{members_view}
use Rattle.ac_run.specs.Compared.{each, member_in_order, members_listed}
use Rattle.ac_report.specs.Trees.{gathered}
use Rattle.ac_run.proofs.outputs.compared.ordered.members_in_order.Given as goal

abbrev pub invariant-loop-name : goal.invariant-loop-name
invariant-loop-name l =
    option_map (fold (λ done m. put m.0 m.1 done) (members_view l.ordered.entries)) (each member_in_order (members_listed (members_view l.name-iterator)))
    ≡ option_map gathered (each member_in_order (members_listed (members_view l.members.entries)))
