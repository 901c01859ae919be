use Rattle.std.proofs.Common.{◌∷◌, ◌+◌, List, arith, drop, map, subst, sym}
use Rattle.std.proofs.lemmas.List.{drop_more, length-map}
use Rattle.serde_json.specs.Events.{SendsMembers}
use Rattle.ac_report.specs.declared.request.parts.Allocation.{Allocation}
use Rattle.ac_report.specs.Parts.{listed}
use Rattle.ac_report.specs.Requests.{allocation_member, allocations_tree}
use Rattle.ac_report.proofs.Trees.Sending.{begin_members}
use Rattle.ac_report.proofs.request.serialize.send_allocations.Goals as goal

pub loop-allocation-init : goal.loop-allocation-init
unfolding allocations_tree
loop-allocation-init g c =
    begin_members (map allocation_member c.args.allocations.now) _ _ _ (sym (length-map c.args.allocations.now allocation_member)) c.in_ok-begin_map.ensures

pub loop-allocation-preserved : goal.loop-allocation-preserved
loop-allocation-preserved g c = λ end rest.
    let w = g.S.Serializer.written in
    let items = c.args.allocations.now in
    let i = c.loop-allocation.allocation-index in
    let item = c.allocation-item.result in
    c.loop-allocation.invariant end
    (subst (λ (left : List Allocation). SendsMembers (listed (map allocation_member left)) (w c.loop-allocation.out) end) (sym (drop_more items i item (omega arith)))
    (subst (λ (a : Allocation). SendsMembers (listed (map allocation_member (a ∷ drop (i + 1) items))) (w c.loop-allocation.out) end) c.allocation-item.is
    (w c.send_name.new.out, w c.send_allocation.new.out, c.in_ok-send_name.ensures, c.in_ok-send_allocation.ensures, rest)))
