use Rattle.std.proofs.Common.{◌≡◌, drop, fold, map, option_map}
use Rattle.std.specs.BTreeSet.{insert_key}
use Rattle.serde_json.specs.Find.{as_str}
use Rattle.serde_json.specs.View.{view}
use Rattle.ac_base.specs.Sorted.{rising}
use Rattle.ac_base.specs.Texts.{text_cmp}
use Rattle.ac_run.specs.Compared.{each}
use Rattle.ac_run.proofs.outputs.compared.ordered.strings_of.Given as goal

abbrev pub invariant-loop-item : goal.invariant-loop-item
invariant-loop-item l =
    option_map (fold (insert_key text_cmp) (map (λ t. t.now) l.strings.keys)) (each as_str (map view (drop l.item-index l.item-items)))
    ≡ option_map (rising text_cmp) (each as_str (map view l.items.items))
