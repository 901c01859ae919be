-- The end of a session is the start of the next.
use Rattle.std.proofs.Common.{◌≡◌, ◌∙◌, ◌<◌, ◌^◌, ℕ, zero, suc, Bool, true, false, List, [], ◌∷◌, ◌++◌, Some, None, Less, map, get_or, length, refl, sym, ap, ap₂, subst, arith}
use Rattle.std.proofs.lemmas.Bool.Decides.{nat_tests}
use Rattle.std.proofs.lemmas.Simd.{map-map}
use Rattle.std.specs.Cmp.Lexicographic.{bytes_decides}
use Rattle.std.specs.Prelude.{◌==◌, ◌&&◌, ◌||◌}
use Rattle.std.specs.List.{AllByRecursion, filter, flat_map, list_all, list_any}
use Rattle.std.specs.List.Sorted.{IsStrictlySortedBy}
use Rattle.std.specs.Map.{keys_of, lookup}
use Rattle.std.specs.Option.{option_map, unwrap_or}
use Rattle.std.specs.Str.{bytes_eq}
use Rattle.ac_base.specs.Quantities.{InventoryNumbers}
use Rattle.ac_base.specs.Sorted.{is_one_of}
use Rattle.ac_base.specs.Texts.{text_cmp}
use Rattle.ac_cloud.specs.Laws.{AreProviders}
use Rattle.ac_cloud.specs.World.{Provider, UsedInventory, id_at, no_provider, used_of}
use Rattle.ac_tables.proofs.FirstFailing.{append_none}
use Rattle.ac_tables.proofs.ProvidersStated.{providers_in_order}
use Rattle.ac_tables.proofs.Sorted.OrderFacts.{order_holds}
use Rattle.ac_tables.specs.Tables.{Tables, amounts_of, gathered, ids_of, inventories_of, tables_fault, with_used, world_stated}
use Rattle.ac_tables.specs.Tables.AggregateTable.{aggregate_checks}
use Rattle.ac_tables.specs.Tables.Checks.{first_failing}
use Rattle.ac_tables.specs.Tables.InventoryTable.{InventoryRecord, inventories_said, inventory_checks, is_inventory_of}
use Rattle.ac_tables.specs.Tables.ProviderTable.{provider_checks}
use Rattle.ac_tables.specs.Tables.Rows.{records_of}
use Rattle.ac_tables.specs.Tables.TraitTable.{trait_checks}
use Rattle.ac_tables.specs.Tables.UsageTable.{usage_checks, usage_columns, usages_said}
use Rattle.ac_session.specs.Held.{unnamed}
use Rattle.ac_session.specs.Laws.{GoesOn, SessionsGoOn, providers_behind, with_usages}
use Rattle.ac_tables.specs.Laws.{HaveClassesInOrder, amount_stated}
use Rattle.ac_session.specs.Turns.{lines_in}
use Rattle.ac_tables.specs.UsageRows.{Entry, entries_fit, rows_of_provider, usages_fit, usages_text}
use Rattle.ac_session.proofs.UsageRows.Accepted.{AreAccepted, IsName, inventory_pair, classes_named, each_accepted, inventories_keyed, table_named}
use Rattle.ac_session.proofs.UsageRows.Amounts.{AreStated, IsStated, gathered_stated, inventory_in, session_stated}
use Rattle.ac_session.proofs.UsageRows.Checks.{AreApart, IsKnown, apart_of, table_passes}
use Rattle.ac_tables.proofs.UsageRows.Read.{both, records_are, usages_read_back}

-- ---- lists and places

from_places : {X : Type 0} (P : X → Type 0) (d : X) (xs : List X) → ((k : ℕ) → k < length xs → P (get_or xs k d)) → AllByRecursion P xs
from_places P d [] so = tt
from_places P d (x ∷ xs) so = (so 0 (omega arith), from_places P d xs (λ k low. so (suc k) (omega arith)))

-- ---- ids

ids_same : (t : Tables) (ids : List ℕ) (all : List Provider) → AreStated t ids all → (ix : ℕ) → id_at all ix ≡ get_or ids ix 0
ids_same t [] [] h ix = refl
ids_same t [] (p ∷ all) h ix = absurd h
ids_same t (id ∷ ids) [] h ix = absurd h
ids_same t (id ∷ ids) (p ∷ all) h zero = h.0.same
ids_same t (id ∷ ids) (p ∷ all) h (suc ix) = ids_same t ids all h.1 ix

count_same : (t : Tables) (ids : List ℕ) (all : List Provider) → AreStated t ids all → length all ≡ length ids
count_same t [] [] h = refl
count_same t [] (p ∷ all) h = absurd h
count_same t (id ∷ ids) [] h = absurd h
count_same t (id ∷ ids) (p ∷ all) h = ap suc (count_same t ids all h.1)

or_true : (a b : Bool) → b ≡ true → (a || b) ≡ true
or_true true b h = refl
or_true false b h = h

same_id : (a b : ℕ) → a ≡ b → (b == a) ≡ true
same_id a b e = grind (arith, nat_tests)

or_first : (a b : Bool) → a ≡ true → (a || b) ≡ true
or_first true b h = refl
or_first false b h = absurd cc

all_there : (t : Tables) (whole ids : List ℕ) (all : List Provider) → AreStated t ids all → ((x : ℕ) → is_one_of ids x ≡ true → is_one_of whole x ≡ true)
    → AllByRecursion (λ p. is_one_of whole p.id ≡ true) all
all_there t whole [] [] h more = tt
all_there t whole [] (p ∷ all) h more = absurd h
all_there t whole (id ∷ ids) [] h more = absurd h
all_there t whole (id ∷ ids) (p ∷ all) h more = (
  more p.id (or_first (id == p.id) (is_one_of ids p.id) (same_id p.id id h.0.same)),
  all_there t whole ids all h.1 (λ x there. more x (or_true (id == x) (is_one_of ids x) there)),
)

rising_apart : (all : List Provider) → ((p q : ℕ) → p < q → q < length all → id_at all p < id_at all q) → AreApart all
rising_apart [] order = tt
rising_apart (p ∷ all) order = (
  from_places (λ q. (p.id == q.id) ≡ false) no_provider all (λ k low. let less : p.id < id_at all k = order 0 (suc k) (omega arith) (omega arith) in grind (arith, nat_tests)),
  rising_apart all (λ a b less low. order (suc a) (suc b) (omega arith) (omega arith)),
)

-- ---- what is known of a provider that is stated

keyed_before : (P : List ℕ → Type 0) (es : List Entry) → AllByRecursion (λ e. P e.0) (map inventory_in es) → AllByRecursion (λ e. P e.0) es
keyed_before P [] all = tt
keyed_before P (e ∷ es) all = (all.0, keyed_before P es all.1)

is_itself : (text : List ℕ) → bytes_eq text text ≡ true
is_itself text = (bytes_decides text text).1 refl

and_true : (a b : Bool) → a ≡ true → b ≡ true → (a && b) ≡ true
and_true true true h k = refl
and_true true false h k = absurd cc
and_true false b h k = absurd cc

stocked : (id : ℕ) (whole hs : List InventoryRecord) → ((class : List ℕ) → list_any (is_inventory_of id class) hs ≡ true → list_any (is_inventory_of id class) whole ≡ true)
    → AllByRecursion (λ h. (h.provider == id) ≡ true → list_any (is_inventory_of id h.class) whole ≡ true) hs
stocked id whole [] more = tt
stocked id whole (h ∷ hs) more = (
  λ here. more h.class (or_first (is_inventory_of id h.class h) _ (and_true (h.provider == id) (bytes_eq h.class h.class) here (is_itself h.class))),
  stocked id whole hs (λ class later. more class (or_true (is_inventory_of id class h) _ later)),
)

module _ (t : Tables) (accepted : AreAccepted t) where
  sorted_keys : (id : ℕ) (p : Provider) → IsStated t id p → IsStrictlySortedBy text_cmp (keys_of p.entries)
  unfolding inventories_of
  sorted_keys id p h =
      subst (IsStrictlySortedBy text_cmp) (ap keys_of (sym h.entries) ∙ map-map (λ (e : List ℕ × InventoryNumbers). e.0) inventory_in p.entries) (order_holds.inventories (map inventory_pair (filter (λ h. h.provider == id) (inventories_said t.inventories)))).rises

  known : (p : Provider) (id : ℕ) → IsStated t id p → p.id < 2 ^ 128 → is_one_of (ids_of t.providers) p.id ≡ true → entries_fit p ≡ true
      → IsKnown (ids_of t.providers) (inventories_said t.inventories) p
  known p id h small there fit = record {
    small = small;
    there = there;
    named = keyed_before IsName p.entries (subst (AllByRecursion (λ e. IsName e.0)) (sym h.entries) (classes_named (inventories_said t.inventories) id (table_named (ids_of t.providers) t.inventories accepted.inventories)));
    fit = fit;
    stocked =
        subst (λ n. AllByRecursion (λ e. list_any (is_inventory_of n e.0) (inventories_said t.inventories) ≡ true) p.entries) (sym h.same)
        (keyed_before (λ class. list_any (is_inventory_of id class) (inventories_said t.inventories) ≡ true) p.entries
        (subst (AllByRecursion (λ e. list_any (is_inventory_of id e.0) (inventories_said t.inventories) ≡ true)) (sym h.entries)
        (inventories_keyed (λ class. list_any (is_inventory_of id class) (inventories_said t.inventories) ≡ true) (inventories_said t.inventories) id
        (stocked id (inventories_said t.inventories) (inventories_said t.inventories) (λ class h. h)))));
    sorted = sorted_keys id p h;
  }

  all_known : (ids : List ℕ) (all : List Provider) → AreStated t ids all → AllByRecursion (λ p. p.id < 2 ^ 128) all
      → AllByRecursion (λ p. is_one_of (ids_of t.providers) p.id ≡ true) all → list_all entries_fit all ≡ true
      → AllByRecursion (IsKnown (ids_of t.providers) (inventories_said t.inventories)) all
  all_known [] [] h small there fit = tt
  all_known [] (p ∷ all) h small there fit = absurd h
  all_known (id ∷ ids) [] h small there fit = absurd h
  all_known (id ∷ ids) (p ∷ all) h small there fit =
      let fits = both (entries_fit p) (list_all entries_fit all) fit in
      (known p id h.0 small.0 there.0 fits.0, all_known ids all h.1 small.1 there.1 fits.1)

  pub classes_in_order : (ids : List ℕ) (all : List Provider) → AreStated t ids all → HaveClassesInOrder all
  classes_in_order [] [] h ix low = absurd (omega arith)
  classes_in_order [] (p ∷ all) h ix low = absurd h
  classes_in_order (id ∷ ids) [] h ix low = absurd h
  classes_in_order (id ∷ ids) (p ∷ all) h zero low = sorted_keys id p h.0
  classes_in_order (id ∷ ids) (p ∷ all) h (suc ix) low = classes_in_order ids all h.1 ix (omega arith)

-- ---- the providers that are stated then

-- what is looked up of a class that stands in order
found : (es : List Entry) → IsStrictlySortedBy text_cmp (keys_of es) → AllByRecursion (λ e. lookup (bytes_eq e.0) es ≡ Some e.1) es
unfolding IsStrictlySortedBy
found [] sorted = tt
found (e ∷ es) sorted = (rw (is_itself e.0) refl, later es (apart es sorted.0) (found es sorted.1))
  where
    apart : (xs : List Entry) → AllByRecursion (λ y. text_cmp e.0 y ≡ Less) (keys_of xs) → AllByRecursion (λ x. bytes_eq x.0 e.0 ≡ false) xs
    apart [] less = tt
    apart (x ∷ xs) less = (apart_of e.0 x.0 less.0, apart xs less.1)

    later : (xs : List Entry) → AllByRecursion (λ x. bytes_eq x.0 e.0 ≡ false) xs → AllByRecursion (λ x. lookup (bytes_eq x.0) es ≡ Some x.1) xs
        → AllByRecursion (λ x. lookup (bytes_eq x.0) (e ∷ es) ≡ Some x.1) xs
    later [] other h = tt
    later (x ∷ xs) other h = (rw other.0 h.0, later xs other.1 h.1)

-- an entry, with as much in use as is looked up
as_looked_up : (m : List (List ℕ × ℕ)) (whole es : List Entry) → ((class : List ℕ) → unwrap_or (lookup (bytes_eq class) m) 0 ≡ unwrap_or (option_map (λ (h : UsedInventory). h.used) (lookup (bytes_eq class) whole)) 0)
    → AllByRecursion (λ e. lookup (bytes_eq e.0) whole ≡ Some e.1) es → with_used m (map inventory_in es) ≡ es
as_looked_up m whole [] told found = refl
as_looked_up m whole (e ∷ es) told found =
    ap₂ (λ (x : Entry) (xs : List Entry). x ∷ xs)
    (ap (λ (n : ℕ). (e.0, record { inventory = e.1.inventory; used = n })) (told e.0 ∙ ap (λ o. unwrap_or (option_map (λ (h : UsedInventory). h.used) o) 0) found.0))
    (as_looked_up m whole es told found.1)

module _ (t : Tables) (rows : List (List (List ℕ))) where
  abbrev next : Tables
  next = record t { usages = rows }

  one_gathered : (id : ℕ) (p : Provider) → IsStated t id p → IsStrictlySortedBy text_cmp (keys_of p.entries)
      → ((class : List ℕ) → amount_stated rows p.id class ≡ used_of p class) → gathered next id ≡ p
  one_gathered id p h sorted told = λ i. record {
    id = sym h.same i;
    name = sym h.name i;
    parent = sym h.parent i;
    entries =
        (ap (with_used (amounts_of (usages_said rows) id)) (sym h.entries)
        ∙ as_looked_up (amounts_of (usages_said rows) id) p.entries p.entries (subst (λ n. (class : List ℕ) → amount_stated rows n class ≡ used_of p class) h.same told) (found p.entries sorted))
        i;
    traits = sym h.traits i;
    aggregates = sym h.aggregates i;
  }

  all_gathered : (ids : List ℕ) (all : List Provider) → AreStated t ids all → AllByRecursion (λ p. IsStrictlySortedBy text_cmp (keys_of p.entries)) all
      → AllByRecursion (λ p. (class : List ℕ) → amount_stated rows p.id class ≡ used_of p class) all → map (gathered next) ids ≡ all
  all_gathered [] [] h sorted told = refl
  all_gathered [] (p ∷ all) h sorted told = absurd h
  all_gathered (id ∷ ids) [] h sorted told = absurd h
  all_gathered (id ∷ ids) (p ∷ all) h sorted told =
      ap₂ (λ (x : Provider) (xs : List Provider). x ∷ xs) (one_gathered id p h.0 sorted.0 told.0) (all_gathered ids all h.1 sorted.1 told.1)

-- ---- the law

module _ (t : Tables) (fine : tables_fault t ≡ None) (all : List Provider) (stated : AreStated t (ids_of t.providers) all) (fit : usages_fit all ≡ true) where
  accepted : AreAccepted t
  accepted = each_accepted t fine

  in_order : AreProviders all
  unfolding world_stated
  in_order =
      let before = gathered_stated t (ids_of t.providers) in
      let first = providers_in_order t in
      let same : (ix : ℕ) → id_at (world_stated t).providers ix ≡ id_at all ix = λ ix. ids_same t (ids_of t.providers) (world_stated t).providers before ix ∙ sym (ids_same t (ids_of t.providers) all stated ix) in
      let count : length (world_stated t).providers ≡ length all = count_same t (ids_of t.providers) (world_stated t).providers before ∙ sym (count_same t (ids_of t.providers) all stated) in
      record {
        order = λ p q less low. subst (λ a. a < id_at all q) (same p) (subst (λ b. id_at (world_stated t).providers p < b) (same q) (first.order p q less (omega arith)));
        fit = λ ix low. subst (λ a. a < 2 ^ 128) (same ix) (first.fit ix (omega arith));
      }

  rows_are : records_of (usages_text all) ≡ usage_columns ∷ flat_map rows_of_provider all
  rows_are = records_are all

  usages_pass : first_failing (usage_checks (ids_of t.providers) (inventories_said t.inventories) (records_of (usages_text all))) ≡ None
  unfolding usages_fit
  usages_pass =
      rw rows_are
      (table_passes (ids_of t.providers) (inventories_said t.inventories) all
      (all_known t accepted (ids_of t.providers) all stated (from_places (λ p. p.id < 2 ^ 128) no_provider all in_order.fit) (all_there t (ids_of t.providers) (ids_of t.providers) all stated (λ x h. h)) fit)
      (rising_apart all in_order.order))

  no_fault : tables_fault (with_usages t all) ≡ None
  unfolding tables_fault
  no_fault =
      let first = provider_checks t.providers in
      let second = inventory_checks (ids_of t.providers) t.inventories in
      let third = usage_checks (ids_of t.providers) (inventories_said t.inventories) (records_of (usages_text all)) in
      let fourth = trait_checks (ids_of t.providers) t.traits in
      let two = append_none first second accepted.providers ∙ accepted.inventories in
      let three = append_none (first ++ second) third two ∙ usages_pass in
      let four = append_none (first ++ second ++ third) fourth three ∙ accepted.traits in
      append_none (first ++ second ++ third ++ fourth) (aggregate_checks (ids_of t.providers) t.aggregates) four ∙ accepted.aggregates

  pub goes_on : GoesOn t all
  unfolding world_stated
  goes_on = record {
    accepted = no_fault;
    stated =
        all_gathered t (records_of (usages_text all)) (ids_of t.providers) all stated
        (from_places (λ p. IsStrictlySortedBy text_cmp (keys_of p.entries)) no_provider all (classes_in_order t accepted (ids_of t.providers) all stated))
        (from_places (λ p. (class : List ℕ) → amount_stated (records_of (usages_text all)) p.id class ≡ used_of p class) no_provider all
        (λ ix low class. usages_read_back all in_order (classes_in_order t accepted (ids_of t.providers) all stated) fit ix class low));
  }

pub sessions_go_on : SessionsGoOn
sessions_go_on terms tables questions fine fit =
    goes_on tables fine (providers_behind terms (unnamed (world_stated tables)) (lines_in questions)) (session_stated terms tables (lines_in questions)) fit
