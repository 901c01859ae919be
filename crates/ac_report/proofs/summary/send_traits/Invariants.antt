use Rattle.std.proofs.Common.{drop, map}
use Rattle.serde.specs.Event.{Log}
use Rattle.serde_json.specs.Data.{string}
use Rattle.serde_json.specs.Events.{SendsItems, SendsValue}
use Rattle.serde_json.specs.View.{items_of}
use Rattle.ac_base.specs.Names.{trait_bytes}
use Rattle.ac_report.specs.Trees.{texts}
use Rattle.ac_report.proofs.summary.send_traits.Given as goal

-- what ends it well from here sends all
abbrev pub invariant-loop-name : goal.invariant-loop-name
invariant-loop-name g l =
    (end : Log) → SendsItems (items_of (map string (map trait_bytes (drop l.name-index l.traits)))) (g.S.Serializer.written l.out) end
    → SendsValue (texts (map trait_bytes l.traits)) (g.S.Serializer.written l.fn.out) end
