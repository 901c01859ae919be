use Rattle.std.proofs.Common.{◌≡◌, ◌++◌, drop, map, option_map, string_bytes}
use Rattle.serde_json.specs.View.{view}
use Rattle.ac_run.specs.Compared.{each, text_in_order}
use Rattle.ac_run.proofs.outputs.compared.texts_of.Given as goal

abbrev pub invariant-loop-item : goal.invariant-loop-item
invariant-loop-item l =
    option_map (◌++◌ (map string_bytes l.texts.items)) (each text_in_order (map view (drop l.item-index l.item-items)))
    ≡ each text_in_order (map view l.items.items)
