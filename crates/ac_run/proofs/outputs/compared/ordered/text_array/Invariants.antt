use Rattle.std.proofs.Common.{◌≡◌, ◌++◌, map}
use Rattle.serde_json.specs.Data.{string}
use Rattle.serde_json.specs.View.{view}
use Rattle.ac_run.proofs.outputs.compared.ordered.text_array.Given as goal

abbrev pub invariant-loop-text : goal.invariant-loop-text
invariant-loop-text l =
    map view l.items.items ++ map string (map (λ t. t.now) l.text-iterator) ≡ map string (map (λ t. t.now) l.set.keys)
