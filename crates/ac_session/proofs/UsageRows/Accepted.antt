-- What tables state that are accepted: classes are names.
use Rattle.std.proofs.Common.{◌≡◌, ℕ, ◌+◌, Bool, true, false, List, [], ◌∷◌, ◌++◌, Some, None, map, length, refl}
use Rattle.std.specs.Prelude.{◌==◌, cond, if◌then◌else◌}
use Rattle.std.specs.BTreeMap.{insert_entry}
use Rattle.std.specs.List.{AllByRecursion, filter, fold}
use Rattle.std.specs.Option.{is_none}
use Rattle.std.specs.Ordering.{match_ordering}
use Rattle.std.specs.declared.cmp.Ordering.{Ordering}
use Rattle.std.specs.declared.cmp.Ordering.TheVariants.{Less, Equal, Greater}
use Rattle.ac_base.specs.Quantities.{InventoryNumbers}
use Rattle.ac_base.specs.Texts.{is_name, name_value, text_cmp}
use Rattle.ac_tables.specs.Tables.{Tables, ids_of, inventories_of, tables_fault}
use Rattle.ac_tables.specs.Tables.Checks.{Check, Row, first_failing, record_checks, told_at}
use Rattle.ac_tables.specs.Tables.Columns.{header_checks, text_in}
use Rattle.ac_tables.specs.Tables.InventoryTable.{InventoryRecord, class_checks, class_name, inventories_said, inventory_checks, inventory_columns, inventory_field_checks, inventory_record_checks, inventory_said, number_checks, once_checks, owner_checks}
use Rattle.ac_tables.specs.Tables.ProviderTable.{provider_checks}
use Rattle.ac_tables.specs.Tables.AggregateTable.{aggregate_checks}
use Rattle.ac_tables.specs.Tables.TraitTable.{trait_checks}
use Rattle.ac_tables.specs.Tables.UsageTable.{usage_checks}
use Rattle.ac_tables.specs.declared.fault.Table.{Table}
use Rattle.ac_tables.specs.declared.fault.Table.TheVariants as table
use Rattle.ac_tables.specs.declared.fault.TableFault.{TableFault}

-- ---- checks of which none fails

pub none_before : {X : Type 0} (xs ys : List (Bool × X)) → first_failing (xs ++ ys) ≡ None → (first_failing xs ≡ None) × (first_failing ys ≡ None)
none_before [] ys h = (refl, h)
none_before (x ∷ xs) ys h = by x.0 h (none_before xs ys)
  where
    by : (b : Bool) → (if b then Some x.1 else first_failing (xs ++ ys)) ≡ None → (first_failing (xs ++ ys) ≡ None → (first_failing xs ≡ None) × (first_failing ys ≡ None))
        → ((if b then Some x.1 else first_failing xs) ≡ None) × (first_failing ys ≡ None)
    by true h later = absurd cc
    by false h later = later h

pub none_told : (t : Table) (row : ℕ) (checks : List Check) → first_failing (told_at t row checks) ≡ None → first_failing checks ≡ None
none_told t row [] h = refl
none_told t row (check ∷ checks) h = by check.0 _ h (none_told t row checks)
  where
    by : (b : Bool) (x : TableFault) → (if b then Some x else first_failing (told_at t row checks)) ≡ None → (first_failing (told_at t row checks) ≡ None → first_failing checks ≡ None)
        → (if b then Some check.1 else first_failing checks) ≡ None
    by true x h later = absurd cc
    by false x h later = later h

pub none_of_first : {X : Type 0} (x : Bool × X) (xs : List (Bool × X)) → first_failing (x ∷ xs) ≡ None → x.0 ≡ false
none_of_first x xs h = by x.0 h
  where
    by : (b : Bool) → (if b then Some x.1 else first_failing xs) ≡ None → b ≡ false
    by true h = absurd cc
    by false h = refl

-- ---- classes of inventories

pub named_value : (text : List ℕ) → is_none (name_value text) ≡ false → is_name text ≡ true
named_value text h = by (is_name text) h
  where
    by : (b : Bool) → is_none (if b then Some text else None) ≡ false → b ≡ true
    by true h = refl
    by false h = absurd cc

abbrev pub IsName : List ℕ → Type 0
IsName text = is_name text ≡ true

abbrev pub IsOfClass : InventoryRecord → Type 0
IsOfClass h = is_name h.class ≡ true

class_named : (ids : List ℕ) (header row : Row) (before : List InventoryRecord) → first_failing (inventory_record_checks ids header before row) ≡ None → IsOfClass (inventory_said header row)
unfolding inventory_record_checks inventory_field_checks class_checks inventory_said
class_named ids header row before h =
    let fields = (none_before (inventory_field_checks header row) (once_checks ids before _ _) h).0 in
    let owners = (none_before (owner_checks header row ++ class_checks header row) (number_checks header row) fields).0 in
    named_value (text_in header class_name row) (none_of_first _ [] (none_before (owner_checks header row) (class_checks header row) owners).1)

rows_named : (ids : List ℕ) (header : Row) (before : List InventoryRecord) (rows : List Row)
    → first_failing (record_checks table.Inventories (inventory_said header) (inventory_record_checks ids header) before rows) ≡ None → AllByRecursion IsOfClass (map (inventory_said header) rows)
rows_named ids header before [] h = tt
rows_named ids header before (row ∷ rows) h =
    let parts = none_before (told_at table.Inventories (length before + 2) (inventory_record_checks ids header before row)) _ h in
    (class_named ids header row before (none_told table.Inventories (length before + 2) (inventory_record_checks ids header before row) parts.0), rows_named ids header (before ++ inventory_said header row ∷ []) rows parts.1)

pub table_named : (ids : List ℕ) (rows : List Row) → first_failing (inventory_checks ids rows) ≡ None → AllByRecursion IsOfClass (inventories_said rows)
table_named ids [] h = tt
table_named ids (header ∷ rows) h = rows_named ids header [] rows (none_before (told_at table.Inventories 1 (header_checks inventory_columns header)) _ h).1

-- ---- maps

-- what is put into a map, where a later value may stand under an earlier name
module _ {V : Type 0} (P : List ℕ × V → Type 0) (again : (e : List ℕ × V) (k : List ℕ) (v : V) → P e → P (k, v) → P (e.0, v)) where
  one_entered : (order : Ordering) (k : List ℕ) (v : V) (e : List ℕ × V) (es more : List (List ℕ × V)) → P (k, v) → AllByRecursion P (e ∷ es) → AllByRecursion P more
      → AllByRecursion P (match_ordering order ((k, v) ∷ e ∷ es) ((e.0, v) ∷ es) (e ∷ more))
  one_entered Less k v e es more h have later = (h, have)
  one_entered Equal k v e es more h have later = (again e k v have.0 h, have.1)
  one_entered Greater k v e es more h have later = (have.0, later)

  entered : (es : List (List ℕ × V)) (k : List ℕ) (v : V) → AllByRecursion P es → P (k, v) → AllByRecursion P (insert_entry text_cmp es k v)
  entered [] k v have h = (h, tt)
  entered (e ∷ es) k v have h = one_entered (text_cmp k e.0) k v e es (insert_entry text_cmp es k v) h have (entered es k v have.1 h)

  pub all_entered : (es more : List (List ℕ × V)) → AllByRecursion P es → AllByRecursion P more
      → AllByRecursion P (fold (λ m p. insert_entry text_cmp m p.0 p.1) es more)
  all_entered es [] have h = have
  all_entered es (e ∷ more) have h = all_entered (insert_entry text_cmp es e.0 e.1) more (entered es e.0 e.1 have h.0) h.1

abbrev pub inventory_pair : InventoryRecord → List ℕ × InventoryNumbers
inventory_pair h = (h.class, h.inventory)

pairs_keyed : (P : List ℕ → Type 0) (test : InventoryRecord → Bool) (hs : List InventoryRecord) → AllByRecursion (λ h. test h ≡ true → P h.class) hs
    → AllByRecursion (λ e. P e.0) (map inventory_pair (filter test hs))
pairs_keyed P test [] all = tt
pairs_keyed P test (h ∷ hs) all = by (test h) all.0 (pairs_keyed P test hs all.1)
  where
    by : (b : Bool) → (b ≡ true → P h.class) → AllByRecursion (λ e. P e.0) (map inventory_pair (filter test hs))
        → AllByRecursion (λ e. P e.0) (map inventory_pair (cond b (h ∷ filter test hs) (filter test hs)))
    by true here later = (here refl, later)
    by false here later = later

pub inventories_keyed : (P : List ℕ → Type 0) (hs : List InventoryRecord) (id : ℕ) → AllByRecursion (λ h. (h.provider == id) ≡ true → P h.class) hs
    → AllByRecursion (λ e. P e.0) (inventories_of hs id)
unfolding inventories_of
inventories_keyed P hs id all =
    all_entered (λ e. P e.0) (λ e k v have h. have) [] (map inventory_pair (filter (λ h. h.provider == id) hs)) tt (pairs_keyed P (λ h. h.provider == id) hs all)

pub classes_named : (hs : List InventoryRecord) (id : ℕ) → AllByRecursion IsOfClass hs → AllByRecursion (λ e. IsName e.0) (inventories_of hs id)
classes_named hs id all = inventories_keyed IsName hs id (loosened hs all)
  where
    loosened : (hs : List InventoryRecord) → AllByRecursion IsOfClass hs → AllByRecursion (λ h. (h.provider == id) ≡ true → IsName h.class) hs
    loosened [] all = tt
    loosened (h ∷ hs) all = ((λ here. all.0), loosened hs all.1)

-- ---- the world

-- no table has a fault
pub record AreAccepted (t : Tables) : Type 0 where
  pub providers : first_failing (provider_checks t.providers) ≡ None
  pub inventories : first_failing (inventory_checks (ids_of t.providers) t.inventories) ≡ None
  pub usages : first_failing (usage_checks (ids_of t.providers) (inventories_said t.inventories) t.usages) ≡ None
  pub traits : first_failing (trait_checks (ids_of t.providers) t.traits) ≡ None
  pub aggregates : first_failing (aggregate_checks (ids_of t.providers) t.aggregates) ≡ None

module _ (t : Tables) where
  abbrev three : List (Bool × TableFault)
  three =
      provider_checks t.providers ++ inventory_checks (ids_of t.providers) t.inventories ++ usage_checks (ids_of t.providers) (inventories_said t.inventories) t.usages

  pub each_accepted : tables_fault t ≡ None → AreAccepted t
  unfolding tables_fault
  each_accepted h =
      let five = none_before (three ++ trait_checks (ids_of t.providers) t.traits) (aggregate_checks (ids_of t.providers) t.aggregates) h in
      let four = none_before three (trait_checks (ids_of t.providers) t.traits) five.0 in
      let three = none_before (provider_checks t.providers ++ inventory_checks (ids_of t.providers) t.inventories) (usage_checks (ids_of t.providers) (inventories_said t.inventories) t.usages) four.0 in
      let two = none_before (provider_checks t.providers) (inventory_checks (ids_of t.providers) t.inventories) three.0 in
      record { providers = two.0; inventories = two.1; usages = three.1; traits = four.1; aggregates = five.1 }
