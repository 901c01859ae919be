use Rattle.std.proofs.Common.{drop, map}
use Rattle.serde.specs.Event.{Log}
use Rattle.serde_json.specs.Events.{SendsMembers, SendsValue}
use Rattle.ac_cloud.specs.Cloud.Entries.{entry_pair}
use Rattle.ac_report.specs.Parts.{listed}
use Rattle.ac_report.specs.Trees.{holding, holdings}
use Rattle.ac_report.proofs.summary.send_holdings.Given as goal

-- what ends it well from here sends all
abbrev pub invariant-loop-entry : goal.invariant-loop-entry
invariant-loop-entry g l =
    (end : Log) → SendsMembers (listed (map holding (map entry_pair (drop l.entry-index l.entries)))) (g.S.Serializer.written l.out) end
    → SendsValue (holdings (map entry_pair l.entries)) (g.S.Serializer.written l.fn.out) end
