use Rattle.std.proofs.Common.{◌≡◌, drop, fold, map, string_bytes}
use Rattle.std.specs.BTreeSet.{insert_key}
use Rattle.ac_base.specs.Sorted.{rising}
use Rattle.ac_base.specs.Texts.{text_cmp}
use Rattle.ac_run.proofs.outputs.compared.told.text_set.Given as goal

abbrev pub invariant-loop-text : goal.invariant-loop-text
invariant-loop-text l =
    fold (insert_key text_cmp) (map (λ t. t.now) l.set.keys) (map string_bytes (drop l.text-index l.text-items))
    ≡ rising text_cmp (map string_bytes l.texts.items)
