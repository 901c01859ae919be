use Rattle.std.proofs.Common.{◌≡◌, ◌∙◌, ◌<◌, ◌-◌, ◌+◌, ◌^◌, ℕ, inl, inr, length, replicate, slice_index, ap, arith}
use Rattle.std.specs.Global.{Vec}
use Rattle.std.proofs.lemmas.Bool.{cases_lt}
use Rattle.std.proofs.lemmas.List.{get_or_past, get_or_read, get_or-replicate, length-map, length-replicate, length-set}
use Rattle.ac_cloud.specs.Cloud.Anchors.{list_items}
use Rattle.ac_cloud.specs.Cloud.CloudWorld.{providers_of, root_lists_of}
use Rattle.ac_prune.specs.Loads.{brought_at}
use Rattle.ac_prune.proofs.Roots.CountLemmas.{brought_none, listed_next, load_next, load_hosts}
use Rattle.ac_fill.proofs.by_root.sums_by_list.Goals as goal
use Rattle.ac_fill.proofs.by_root.sums_by_list.Goals.{in-Some, in-None}

zero_at : (n k : ℕ) → slice_index (replicate n 0) k ≡ 0
zero_at n k = elim (cases_lt k n) [ inl h ↦ get_or-replicate n k 0 0 h | inr h ↦ get_or_past (replicate n 0) k 0 (omega (arith, h, length-replicate {A = ℕ} n 0)) ]

pub loop-ix-init : goal.loop-ix-init
loop-ix-init c =
    let zeros = c.in_ok-of_lists.ensures.items_if_clones_equal (λ _ e. e) in
    let many = ap length c.root_lists.ensures in
    let same = length-map c.root_lists.result.now list_items in
    record {
      count = c.requires.sums;
      lists = omega (arith, c.in_ok-of_lists.of_lists.ok, c.in_ok-of_lists.ensures.len, many, same);
      split = λ r h.
          let none = c.requires.none r in
          let nothing = brought_none (root_lists_of c.args.cloud.now) c.in_ok-of_lists.of_lists.items r (λ k. rw zeros (zero_at (length c.root_lists.result.now) k)) in
          omega (arith, none, nothing);
    }

pub loop-ix-preserved : goal.loop-ix-preserved
loop-ix-preserved c =
    let all = providers_of c.args.cloud.now in
    let lists = root_lists_of c.args.cloud.now in
    elim c.match-root_list.branch [
      | in-Some w ↦
          let k = w.in-Some.list in
          let sums = ap (λ (v : Vec ℕ). v.items) w.of_lists-is in
          let here : k < length c.loop-ix.of_lists.items = omega (arith, w.in-Some.ensures.0, c.loop-ix.invariant.lists) in
          let was : w.index.result.now ≡ slice_index c.loop-ix.of_lists.items k = get_or_read c.loop-ix.of_lists.items _ _ here w.index.ensures 0 in
          record {
            count = ap length w.sums-is ∙ c.loop-ix.invariant.count;
            lists = ap length sums ∙ (length-set c.loop-ix.of_lists.items k w.saturating_add.result ∙ c.loop-ix.invariant.lists);
            split = λ r h. rw (sums, w.sums-is)
                (listed_next all (λ p. slice_index c.args.numbers.now p) c.loop-ix.ix k r (slice_index c.loop-ix.sums r) w.saturating_add.result (2 ^ 128 - 1) lists c.loop-ix.of_lists.items h w.in-Some.ensures.0 here
                w.in-Some.ensures.1 (omega (arith, w.saturating_add.ensures, was)) (c.loop-ix.invariant.split r h));
          }
      | in-None w ↦
          let sums = ap (λ (v : Vec ℕ). v.items) w.of_lists-is in
          record {
            count = ap length w.sums-is ∙ (w.add_at.auto.sums ∙ c.loop-ix.invariant.count);
            lists = ap length sums ∙ c.loop-ix.invariant.lists;
            split = λ r h.
                let brought = brought_at lists c.loop-ix.of_lists.items r in
                let added = rw (w.anchors.ensures, c.from-number.ensures) at (w.add_at.ensures r (omega (arith, h, c.loop-ix.invariant.count))) in
                rw (sums, w.sums-is)
                (load_next all (λ p. slice_index c.args.numbers.now p) c.loop-ix.ix r (slice_index c.loop-ix.sums r + brought) (slice_index w.add_at.new.sums r + brought) (2 ^ 128 - 1) h (c.loop-ix.invariant.split r h)
                (omega (arith, added)));
          }
    ]

pub returns-clause-split : goal.returns-clause-split
returns-clause-split c = λ r h.
    load_hosts (providers_of c.args.cloud.now) (λ p. slice_index c.args.numbers.now p) c.loop-ix.ix r _ (2 ^ 128 - 1)
    (omega (arith, c.loop-ix.auto.ix-end, c.loop-ix-test.false, c.len-ix-end.ensures)) (c.loop-ix.invariant.split r h)
