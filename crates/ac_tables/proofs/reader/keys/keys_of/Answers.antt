use Rattle.ac_tables.proofs.Common.{◌∙◌, ◌+◌, ◌==◌, ℕ, map, length, length-map, filter, range_with_len, lists_of, sum_by, sym, ap, ap₂, subst, arith, TableRow}
use Rattle.ac_cloud.specs.ListBounds.{AreLaidOut}
use Rattle.ac_cloud.proofs.ListFacts.{lists_sum}
use Rattle.std.proofs.lemmas.List.Elements.{length_all_zip}
use Rattle.std.proofs.lemmas.List.FromFn.{sum_by-map-range_with_len_more}
use Rattle.std.proofs.lemmas.List.Sums.{sum_by_push}
use Rattle.std.specs.List.{AllZip}
use Rattle.ac_tables.proofs.Gathered.OwnRows.{list_more, own_few, own_size}
use Rattle.ac_tables.proofs.reader.keys.keys_of.Goals as goal

pub loop-place-preserved : goal.loop-place-preserved
loop-place-preserved g c =
    record {
      empty = c.in_ok-append.ensures.empty;
      made = rw c.in_ok-append.ensures.lists
          (list_more g.K.Clone.is_clone (λ p. filter (λ (r : TableRow _ _). r.place == p) c.args.own.now.rows.items) c.loop-place.place (lists_of c.loop-place.lists) c.add_keys.new.keys.items
          c.loop-place.invariant.made (rw c.of.ensures at c.in_ok-add_keys.ensures));
      counted =
          let here = λ (p : ℕ). filter (λ (r : TableRow _ _). r.place == p) c.args.own.now.rows.items in
          let same = sym (length_all_zip g.K.Clone.is_clone _ c.add_keys.new.keys.items (rw c.of.ensures at c.in_ok-add_keys.ensures)) ∙ length-map (here c.loop-place.place) (λ (r : TableRow _ _). r.key) in
          ap (sum_by length) c.in_ok-append.ensures.lists ∙ sum_by_push length (lists_of c.loop-place.lists) c.add_keys.new.keys.items ∙ ap₂ (λ m n. m + n) c.loop-place.invariant.counted same
          ∙ sym (sum_by-map-range_with_len_more length here 0 c.loop-place.place c.loop-place.place (omega arith));
    }

pub returns-clause-lists : goal.returns-clause-lists
returns-clause-lists g c =
    subst (λ (n : ℕ). AllZip (AllZip g.K.Clone.is_clone) (map (map (λ (r : TableRow _ _). r.key)) (map (λ p. filter (λ (r : TableRow _ _). r.place == p) c.args.own.now.rows.items) (range_with_len 0 n))) (lists_of c.loop-place.lists))
    (omega (arith, c.len-place-end.ensures, own_size c.args.own.now)) c.loop-place.invariant.made

pub returns-clause-few : goal.returns-clause-few
unfolding AreLaidOut
returns-clause-few g c =
    let all = lists_sum c.loop-place.lists.items.items c.loop-place.lists.starts.items c.loop-place.lists.bounds in
    omega (arith, all, c.loop-place.invariant.counted, own_few c.args.own.now.rows.items c.loop-place.place)
