use Rattle.std.proofs.Common.{drop, map}
use Rattle.serde.specs.Event.{Log}
use Rattle.serde_json.specs.Events.{SendsMembers, SendsValue}
use Rattle.ac_report.specs.Parts.{listed}
use Rattle.ac_report.specs.Requests.{allocation_member, allocations_tree}
use Rattle.ac_report.proofs.request.serialize.send_allocations.Given as goal

-- what ends it well from here sends all
abbrev pub invariant-loop-allocation : goal.invariant-loop-allocation
invariant-loop-allocation g l =
    (end : Log) → SendsMembers (listed (map allocation_member (drop l.allocation-index l.allocations))) (g.S.Serializer.written l.out) end
    → SendsValue (allocations_tree l.allocations) (g.S.Serializer.written l.fn.out) end
