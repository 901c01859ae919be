use Rattle.ac_tables.proofs.Common.{◌≡◌, ◌∙◌, ℕ, List, [], map, length, length-map, length-range_with_len, range_with_len, entry_pair, lists_of, with_used_lists, class_pair, class_bytes, text_cmp, ClassName, IsStrictlySortedBy, sym, ap, ap₂, subst, arith, TableRow}
use Rattle.ac_tables.proofs.Gathered.OwnRows.{own_at, own_lists}
use Rattle.ac_tables.proofs.Places.JoinFacts.{entries_more, joined_lists, used_at}
use Rattle.ac_tables.proofs.tables.entries.join.Goals as goal

pub add_entries-requires-clause-rising : goal.add_entries-requires-clause-rising
add_entries-requires-clause-rising c =
    let inside = rw c.len-place-end.ensures at c.loop-place-test.true in
    subst (λ (l : List (TableRow ClassName ℕ)). IsStrictlySortedBy text_cmp (map (λ r. class_bytes r.key) l))
    (own_at c.args.usages.now c.loop-place.place (omega (arith, inside, c.requires.sized)) ∙ sym c.of-in-loop-place.ensures)
    (c.requires.rising c.loop-place.place [] (omega (arith, inside, c.requires.sized)))

pub loop-place-preserved : goal.loop-place-preserved
loop-place-preserved c =
    record {
      empty = c.in_ok-append.ensures.empty;
      made = rw c.in_ok-append.ensures.lists
          (entries_more (used_at c.args.usages.now.rows.items c.args.inventories.now.rows.items) c.loop-place.place (lists_of c.loop-place.lists) c.add_entries.new.entries.items
          c.loop-place.invariant.made (rw (c.of.ensures, c.of-in-loop-place.ensures) at c.in_ok-add_entries.ensures));
    }

module _ {X : Type 0} where
  count : (f : ℕ → X) (n : ℕ) → length (map f (range_with_len 0 n)) ≡ n
  count f n = length-map (range_with_len 0 n) f ∙ length-range_with_len 0 n

pub returns-clause-length : goal.returns-clause-length
returns-clause-length c =
    let made = ap length c.loop-place.invariant.made ∙ count (used_at c.args.usages.now.rows.items c.args.inventories.now.rows.items) c.loop-place.place in
    omega (arith, made, c.len-place-end.ensures, length-map (lists_of c.loop-place.lists) (map entry_pair))

pub returns-clause-entries : goal.returns-clause-entries
returns-clause-entries c =
    let usages = c.args.usages.now in
    let inventories = c.args.inventories.now in
    let used = own_lists c.args.usages.now c.loop-place.place (omega (arith, c.len-place-end.ensures, c.requires.sized)) in
    let own = own_lists c.args.inventories.now c.loop-place.place (omega (arith, c.len-place-end.ensures)) in
    c.loop-place.invariant.made ∙ joined_lists usages.rows.items inventories.rows.items c.loop-place.place
    ∙ sym (ap₂ (λ us rs. with_used_lists (map (map class_pair) us) (map (map class_pair) rs)) used own)
