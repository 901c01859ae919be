use Rattle.ac_cloud.proofs.Common.{◌≡◌, ◌+◌, ◌∙◌, ℕ, List, [], get_or, sym, ap, ap₂, arith, Entry, get_or_read, lists_of}
use Rattle.std.proofs.Common.{set}
use Rattle.ac_cloud.specs.Cloud.Entries.{entry_set}
use Rattle.ac_cloud.specs.ListBounds.{AreLaidOut, AreBounds, lists_in}
use Rattle.ac_cloud.proofs.ListFacts.{item_here, lists_set, lists_size, place_inside}
use Rattle.ac_cloud.proofs.cloud.entry.Lists+Entry.set_used.Goals as goal

-- where the provider's list starts
start : (n : ℕ) (starts : List ℕ) → AreLaidOut n starts → AreBounds n starts
unfolding AreLaidOut
start n starts b = b

pub overflow_add-at : goal.overflow_add-at
overflow_add-at c =
    let lists = c.args.self.now in
    let starts = lists.starts.items in
    let from = get_or_read starts c.args.ix c.index.result.now (omega (arith, c.requires.list, lists_size lists.items.items starts)) c.index.ensures 0 in
    let inside = place_inside lists.items.items starts (start _ _ lists.bounds) c.args.ix c.args.place c.requires.list c.requires.place in
    omega (arith, from, inside.1, lists.items.ok.0, lists.items.small)

pub index_mut-requires : goal.index_mut-requires
index_mut-requires c =
    let lists = c.args.self.now in
    let starts = lists.starts.items in
    let from = get_or_read starts c.args.ix c.index.result.now (omega (arith, c.requires.list, lists_size lists.items.items starts)) c.index.ensures 0 in
    let inside = place_inside lists.items.items starts (start _ _ lists.bounds) c.args.ix c.args.place c.requires.list c.requires.place in
    omega (arith, from, inside.1, lists.items.ok.0)

pub returns : goal.returns
returns c d =
    let lists = c.args.self.now in
    let starts = lists.starts.items in
    let read = get_or_read starts c.args.ix c.index.result.now (omega (arith, c.requires.list, lists_size lists.items.items starts)) c.index.ensures 0 in
    let b = start _ _ lists.bounds in
    let at : c.index.result.now + c.args.place ≡ get_or starts c.args.ix 0 + c.args.place = omega (arith, read) in
    let inside = (place_inside lists.items.items starts b c.args.ix c.args.place c.requires.list c.requires.place).1 in
    let entry : c.index_mut.result.now ≡ get_or (get_or (lists_of lists) c.args.ix []) c.args.place d =
    get_or_read lists.items.items (c.index.result.now + c.args.place) c.index_mut.result.now (omega (arith, at, inside)) c.index_mut.ensures.value d
    ∙ ap (λ (j : ℕ). get_or lists.items.items j d) at
    ∙ sym (item_here lists.items.items starts b c.args.ix c.args.place d c.requires.list c.requires.place) in
    ap₂ (λ (j : ℕ) (e : Entry). lists_in (set lists.items.items j (entry_set c.args.used e)) starts) at entry
    ∙ lists_set lists.items.items starts b c.args.ix c.args.place (entry_set c.args.used (get_or (get_or (lists_of lists) c.args.ix []) c.args.place d)) c.requires.list c.requires.place
