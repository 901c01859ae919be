use Rattle.std.proofs.Common.{◌≡◌, ◌∙◌, List, None, Option, Some, fold, option_map, string_bytes, sym, ap}
use Rattle.serde_json.specs.Data.{Members, object, put}
use Rattle.serde_json.specs.View.{members_view, view}
use Rattle.serde_json.proofs.Views.{Entry, view-Object}
use Rattle.ac_run.specs.Compared.{each, in_order, mappings_in_order, member_in_order, members_listed}
use Rattle.ac_run.proofs.Comparing.Reading.{gathers_none}
use Rattle.ac_run.proofs.outputs.compared.ordered.members_in_order.Goals as goal

abbrev gathered_onto : Members → List Entry → Option Members
gathered_onto done es = option_map (fold (λ done m. put m.0 m.1 done) done) (each member_in_order (members_listed (members_view es)))

pub returns-in-None-2 : goal.returns-in-None-2
unfolding mappings_in_order
returns-in-None-2 c =
    let name = string_bytes c.in-Some.name.now in
    let unordered : None ≡ in_order (view c.in-Some.member.now) = rw c.in-None-2.is at c.in_ok-array.ensures in
    let onto = gathered_onto (members_view c.loop-name.ordered.entries) in
    ap (option_map object)
    (sym (gathers_none member_in_order (fold (λ done m. put m.0 m.1 done)) (members_view c.loop-name.ordered.entries) (name, view c.in-Some.member.now) (members_listed (members_view c.next.new.self)) (ap (option_map (λ d. (name, d))) (sym unordered)))
    ∙ ap onto (sym c.in-Some.ensures.steps)
    ∙ c.loop-name.invariant)

pub returns : goal.returns
unfolding mappings_in_order
returns c =
    ap Some (view-Object c.loop-name.ordered)
    ∙ ap (option_map object) (ap (gathered_onto (members_view c.loop-name.ordered.entries)) (sym c.in-None.ensures.steps.0) ∙ c.loop-name.invariant)
