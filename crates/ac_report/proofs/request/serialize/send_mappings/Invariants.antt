use Rattle.std.proofs.Common.{map}
use Rattle.serde.specs.Event.{Log}
use Rattle.serde_json.specs.Events.{SendsMembers, SendsValue}
use Rattle.ac_report.specs.Parts.{listed}
use Rattle.ac_report.specs.Requests.{mapping_member, mappings_tree}
use Rattle.ac_report.proofs.request.serialize.send_mappings.Given as goal

-- what ends it well from here sends all
abbrev pub invariant-loop-name : goal.invariant-loop-name
invariant-loop-name g l =
    (end : Log) → SendsMembers (listed (map mapping_member l.name-iterator)) (g.S.Serializer.written l.out) end
    → SendsValue (mappings_tree l.mappings.entries) (g.S.Serializer.written l.fn.out) end
