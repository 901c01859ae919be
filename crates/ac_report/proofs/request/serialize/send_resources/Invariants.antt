use Rattle.std.proofs.Common.{map}
use Rattle.serde.specs.Event.{Log}
use Rattle.serde_json.specs.Events.{SendsMembers, SendsValue}
use Rattle.ac_report.specs.Parts.{listed}
use Rattle.ac_report.specs.Requests.{resources_tree, sum_member}
use Rattle.ac_report.proofs.request.serialize.send_resources.Given as goal

-- what ends it well from here sends all
abbrev pub invariant-loop-class : goal.invariant-loop-class
invariant-loop-class g l =
    (end : Log) → SendsMembers (listed (map (sum_member l.allocation) l.class-iterator)) (g.S.Serializer.written l.out) end
    → SendsValue (resources_tree l.allocation) (g.S.Serializer.written l.fn.out) end
