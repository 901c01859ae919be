-- No check of the table of usages fails.
use Rattle.std.proofs.Common.{◌≡◌, ◌∙◌, ◌<◌, ◌≤◌, ◌^◌, ℕ, ◌+◌, Bool, true, false, List, [], ◌∷◌, ◌++◌, Some, None, Less, map, length, refl, sym, ap, subst, arith, inl, inr, append_assoc, append-nil}
use Rattle.std.proofs.lemmas.Bool.{cases_Bool}
use Rattle.std.proofs.lemmas.Bool.Decides.{nat_tests}
use Rattle.std.proofs.lemmas.List.Folds.{list_any-append}
use Rattle.std.proofs.lemmas.Map.Text.{is_eq-slice_cmp}
use Rattle.std.specs.Cmp.Lexicographic.{bytes_decides}
use Rattle.std.specs.Prelude.{⊤, ◌==◌, ◌&&◌, ◌||◌, cond, if◌then◌else◌}
use Rattle.std.specs.List.{AllByRecursion, filter, flat_map, list_all, list_any}
use Rattle.std.specs.List.Sorted.{IsStrictlySortedBy}
use Rattle.std.specs.Map.{keys_of}
use Rattle.std.specs.Ordering.{is_eq}
use Rattle.std.specs.Str.{bytes_eq}
use Rattle.ac_base.specs.Sorted.{is_one_of}
use Rattle.ac_base.specs.Texts.{greatest, is_name, name_value, text_cmp}
use Rattle.ac_cloud.specs.World.{Provider}
use Rattle.ac_query.proofs.WrittenIds.{id_reads}
use Rattle.ac_session.proofs.UsageRows.Accepted.{IsName}
use Rattle.ac_tables.proofs.FirstFailing.{told_none}
use Rattle.ac_tables.specs.Tables.Checks.{first_failing, record_checks}
use Rattle.ac_tables.specs.Tables.InventoryTable.{InventoryRecord, class_checks, is_inventory_of, owner_checks}
use Rattle.ac_tables.specs.Tables.Names.{columns_needed, name_of}
use Rattle.ac_tables.specs.Tables.UsageTable.{UsageRecord, amount_checks, is_usage, usage_checks, usage_columns, usage_field_checks, usage_row_checks, usage_said, used_checks}
use Rattle.ac_tables.specs.Tables.Columns.{header_checks}
use Rattle.ac_tables.specs.declared.fault.Table.TheVariants as table
use Rattle.ac_tables.specs.UsageRows.{Entry, fits_table, is_used, rows_of_provider, usage_row}
use Rattle.ac_tables.proofs.UsageRows.Read.{both, count_reads, row_says, said, said_of}

-- ---- one row

name_is : (text : List ℕ) → is_name text ≡ true → name_value text ≡ Some text
name_is text h = by (is_name text) h
  where
    by : (b : Bool) → b ≡ true → (if b then Some text else None) ≡ Some text
    by true h = refl
    by false h = absurd cc

module _ (ids : List ℕ) (records : List InventoryRecord) where
  row_passes : (before : List UsageRecord) (id : ℕ) (e : Entry) → id < 2 ^ 128 → is_one_of ids id ≡ true → is_name e.0 ≡ true → fits_table e ≡ true
      → list_any (is_inventory_of id e.0) records ≡ true → list_any (is_usage id e.0) before ≡ false
      → first_failing (usage_row_checks ids records usage_columns before (usage_row id e)) ≡ None
  unfolding usage_row_checks usage_field_checks owner_checks class_checks amount_checks used_checks columns_needed name_of
  row_passes before id e small there named fit stocked new =
      let low : e.1.used ≤ greatest = grind (arith, nat_tests) in
      rw (id_reads id small, name_is e.0 named, count_reads e.1.used low, new, there, stocked) refl

-- ---- the rows of a provider, and those of all

-- no usage of any of these classes of a provider stands before
abbrev AreNew : ℕ → List Entry → List UsageRecord → Type 0
AreNew id es before = AllByRecursion (λ e. list_any (is_usage id e.0) before ≡ false) es

-- a class behind one in order is another
pub apart_of : (k y : List ℕ) → text_cmp k y ≡ Less → bytes_eq y k ≡ false
apart_of k y less = elim (cases_Bool (bytes_eq y k)) [
  | inl same ↦ absurd (let e : bytes_eq k y ≡ true = (bytes_decides k y).1 (sym ((bytes_decides y k).0 same)) in let f : bytes_eq k y ≡ false = sym (is_eq-slice_cmp k y) ∙ ap is_eq less in cc)
  | inr apart ↦ apart
]

false_or : (a b : Bool) → a ≡ false → b ≡ false → (a || b) ≡ false
false_or false false h k = refl
false_or false true h k = absurd cc
false_or true b h k = absurd cc

-- one usage more, of another class
one_more : (id : ℕ) (before : List UsageRecord) (e : Entry) (es : List Entry) → AreNew id es before → AllByRecursion (λ y. text_cmp e.0 y ≡ Less) (keys_of es)
    → AreNew id es (before ++ said id e ∷ [])
one_more id before e [] new less = tt
one_more id before e (next ∷ es) new less = (
  list_any-append (is_usage id next.0) before (said id e ∷ [])
      ∙ false_or (list_any (is_usage id next.0) before) _ new.0 (other (id == id) (bytes_eq next.0 e.0) (apart_of e.0 next.0 less.0)),
  one_more id before e es new.1 less.1,
)
  where
    other : (same eq : Bool) → eq ≡ false → ((same && eq) || false) ≡ false
    other true false h = refl
    other false eq h = refl
    other true true h = absurd cc

-- the ids of providers rise, so that no id stands twice
abbrev pub AreApart : List Provider → Type 0
AreApart [] = ⊤
AreApart (p ∷ all) = AllByRecursion (λ q. (p.id == q.id) ≡ false) all × AreApart all

pub record IsKnown (ids : List ℕ) (records : List InventoryRecord) (p : Provider) : Type 0 where
  pub small : p.id < 2 ^ 128
  pub there : is_one_of ids p.id ≡ true
  pub named : AllByRecursion (λ e. IsName e.0) p.entries
  pub fit : list_all fits_table p.entries ≡ true
  pub stocked : AllByRecursion (λ e. list_any (is_inventory_of p.id e.0) records ≡ true) p.entries
  pub sorted : IsStrictlySortedBy text_cmp (keys_of p.entries)

module _ (ids : List ℕ) (records : List InventoryRecord) where
  abbrev passes : List UsageRecord → List (List (List ℕ)) → Type 0
  passes before rows = first_failing (record_checks table.Usages (usage_said usage_columns) (usage_row_checks ids records usage_columns) before rows) ≡ None

  rows_pass : (id : ℕ) (rest : List (List (List ℕ))) → id < 2 ^ 128 → is_one_of ids id ≡ true → (es : List Entry) (before : List UsageRecord)
      → AllByRecursion (λ e. IsName e.0) es → list_all fits_table es ≡ true → AllByRecursion (λ e. list_any (is_inventory_of id e.0) records ≡ true) es
      → IsStrictlySortedBy text_cmp (keys_of es) → AreNew id es before → passes (before ++ map (said id) (filter is_used es)) rest
      → passes before (map (usage_row id) (filter is_used es) ++ rest)
  unfolding IsStrictlySortedBy
  rows_pass id rest small there [] before named fit stocked sorted new later = subst (λ b. passes b rest) (append-nil before) later
  rows_pass id rest small there (e ∷ es) before named fit stocked sorted new later =
      by (is_used e) later
      (λ before new later. rows_pass id rest small there es before named.1 (both (fits_table e) (list_all fits_table es) fit).1 stocked.1 sorted.1 new later)
    where
      by : (b : Bool) → passes (before ++ map (said id) (cond b (e ∷ filter is_used es) (filter is_used es))) rest
          → ((before : List UsageRecord) → AreNew id es before → passes (before ++ map (said id) (filter is_used es)) rest → passes before (map (usage_row id) (filter is_used es) ++ rest))
          → passes before (map (usage_row id) (cond b (e ∷ filter is_used es) (filter is_used es)) ++ rest)
      by true later pass =
          let fits = (both (fits_table e) (list_all fits_table es) fit).0 in
          told_none table.Usages (length before + 2) (usage_row_checks ids records usage_columns before (usage_row id e)) _
          (row_passes ids records before id e small there named.0 fits stocked.0 new.0)
          ∙ subst (λ (u : UsageRecord). passes (before ++ u ∷ []) (map (usage_row id) (filter is_used es) ++ rest)) (sym (row_says id e small fits))
          (pass (before ++ said id e ∷ []) (one_more id before e es new.1 sorted.0)
          (subst (λ (l : List UsageRecord). passes l rest) (sym (append_assoc before (said id e ∷ []) (map (said id) (filter is_used es)))) later))
      by false later pass = pass before new.1 later

  abbrev AreAllNew : List Provider → List UsageRecord → Type 0
  AreAllNew all before = AllByRecursion (λ q. (class : List ℕ) → list_any (is_usage q.id class) before ≡ false) all

  none_of_other : (id other : ℕ) (class : List ℕ) → (id == other) ≡ false → (es : List Entry) → list_any (is_usage other class) (map (said id) es) ≡ false
  none_of_other id other class apart [] = refl
  none_of_other id other class apart (e ∷ es) = rw apart (none_of_other id other class apart es)

  still_new : (id : ℕ) (es : List Entry) (before : List UsageRecord) (all : List Provider) → AllByRecursion (λ q. (id == q.id) ≡ false) all → AreAllNew all before
      → AreAllNew all (before ++ map (said id) es)
  still_new id es before [] apart new = tt
  still_new id es before (q ∷ all) apart new = (
    λ class. list_any-append (is_usage q.id class) before (map (said id) es)
        ∙ false_or (list_any (is_usage q.id class) before) _ (new.0 class) (none_of_other id q.id class apart.0 es),
    still_new id es before all apart.1 new.1,
  )

  classes_new : (id : ℕ) (before : List UsageRecord) → ((class : List ℕ) → list_any (is_usage id class) before ≡ false) → (es : List Entry) → AreNew id es before
  classes_new id before new [] = tt
  classes_new id before new (e ∷ es) = (new e.0, classes_new id before new es)

  providers_pass : (all : List Provider) (before : List UsageRecord) → AllByRecursion (IsKnown ids records) all → AreApart all → AreAllNew all before
      → passes before (flat_map rows_of_provider all)
  providers_pass [] before known apart new = refl
  providers_pass (p ∷ all) before known apart new =
      let k = known.0 in
      rows_pass p.id (flat_map rows_of_provider all) k.small k.there p.entries before k.named k.fit k.stocked k.sorted (classes_new p.id before new.0 p.entries)
      (providers_pass all (before ++ said_of p) known.1 apart.1 (still_new p.id (filter is_used p.entries) before all apart.0 new.1))

  none_said : (all : List Provider) → AreAllNew all []
  none_said [] = tt
  none_said (p ∷ all) = ((λ class. refl), none_said all)

  -- the whole table, with its header
  pub table_passes : (all : List Provider) → AllByRecursion (IsKnown ids records) all → AreApart all
      → first_failing (usage_checks ids records (usage_columns ∷ flat_map rows_of_provider all)) ≡ None
  unfolding header_checks columns_needed name_of
  table_passes all known apart = told_none table.Usages 1 (header_checks usage_columns usage_columns)
      (record_checks table.Usages (usage_said usage_columns) (usage_row_checks ids records usage_columns) [] (flat_map rows_of_provider all)) header ∙ providers_pass all [] known apart (none_said all)
    where
      header : first_failing (header_checks usage_columns usage_columns) ≡ None
      header = refl
