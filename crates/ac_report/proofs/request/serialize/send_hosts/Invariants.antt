use Rattle.std.proofs.Common.{drop, map}
use Rattle.serde.specs.Event.{Log}
use Rattle.serde_json.specs.Data.{string}
use Rattle.serde_json.specs.Events.{SendsItems, SendsValue}
use Rattle.serde_json.specs.View.{items_of}
use Rattle.ac_cloud.specs.Cloud.CloudWorld.{providers_of}
use Rattle.ac_report.specs.Requests.{hosts_tree}
use Rattle.ac_report.specs.Trees.{provider_text}
use Rattle.ac_report.proofs.request.serialize.send_hosts.Given as goal

-- what ends it well from here sends all
abbrev pub invariant-loop-ix : goal.invariant-loop-ix
invariant-loop-ix g l =
    (end : Log) → SendsItems (items_of (map string (map (provider_text (providers_of l.hosts.cloud.now)) (drop l.ix-index l.ix-items)))) (g.S.Serializer.written l.out) end
    → SendsValue (hosts_tree l.hosts) (g.S.Serializer.written l.fn.out) end
