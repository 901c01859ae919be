use Rattle.std.proofs.Common.{◌∙◌, ◌-◌, ◌^◌, ℕ, [], map, slice_index, sym, ap, arith}
use Rattle.std.specs.Global.{Vec}
use Rattle.std.proofs.lemmas.List.{get_or-map, length-map}
use Rattle.ac_prune.proofs.Roots.CountLemmas.{lists_next}
use Rattle.ac_fill.proofs.by_root.add_lists.Goals as goal

pub loop-k-preserved : goal.loop-k-preserved
loop-k-preserved c =
    let lists = map (λ (v : Vec ℕ). v.items) c.args.lists.now in
    let k = c.loop-k.k in
    let size = length-map c.args.lists.now (λ (v : Vec ℕ). v.items) in
    let list = c.deref.ensures.value ∙ (ap (λ (v : Vec ℕ). v.items) c.index-lists-k.is ∙ sym (get_or-map (λ (v : Vec ℕ). v.items) c.args.lists.now k c.index-lists-k.result [] (omega (arith, c.loop-k-test.true)))) in
    record {
      count = c.add_at.auto.sums ∙ c.loop-k.invariant.count;
      brought = λ r h. lists_next lists c.args.of_lists.now c.deref.result.now k r _ (slice_index c.loop-k.sums r) (slice_index c.add_at.new.sums r) (2 ^ 128 - 1) (omega (arith, size, c.loop-k-test.true))
          (omega (arith, c.loop-k-test.true, c.requires)) list (c.add_at.ensures r (omega (arith, h, c.loop-k.invariant.count))) (c.loop-k.invariant.brought r h);
    }
