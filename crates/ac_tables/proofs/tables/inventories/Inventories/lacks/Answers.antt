use Rattle.ac_tables.proofs.Common.{◌∙◌, ◌<◌, ◌==◌, List, [], map, length, ap, sym, subst, arith, not, list_any, bytes_eq, text_cmp, IsStrictlySortedBy, own_rows, class_bytes, InventoryNumbers, ClassName, TableRow}
use Rattle.ac_tables.proofs.Gathered.OwnRows.{own_at}
use Rattle.ac_tables.proofs.Records.UsageKeys.{any_filter, any_shown}
use Rattle.ac_tables.proofs.tables.inventories.Inventories.lacks.Goals as goal

pub has_class-requires : goal.has_class-requires
has_class-requires c =
    let own = c.args.self.now in
    let inside : c.args.place < length (own_rows c.args.self.now.rows) = omega (arith, c.requires, own.sized) in
    subst (λ (l : List (TableRow ClassName InventoryNumbers)). IsStrictlySortedBy text_cmp (map (λ r. class_bytes r.key) l)) (own_at own.rows c.args.place inside ∙ sym c.of.ensures) (own.rise c.args.place [] inside)

pub returns : goal.returns
returns c =
    let own = c.args.self.now in
    let here = λ (r : TableRow ClassName InventoryNumbers). r.place == c.args.place in
    let like = λ (r : TableRow ClassName InventoryNumbers). bytes_eq (class_bytes r.key) (class_bytes c.args.class.now) in
    ap not (c.has_class.ensures ∙ ap (list_any like) c.of.ensures ∙ any_filter here like own.rows.rows.items
    ∙ any_shown own.ids.ids.items own.ids.rising c.args.place c.requires (class_bytes c.args.class.now) own.rows.rows.items own.inside)
