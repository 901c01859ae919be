-- What a table checks, record by record: the laws that the reader of all tables asks for, proved.
use Rattle.std.proofs.Common.{◌≡◌, ◌≢◌, ◌∙◌, ◌<◌, ◌++◌, ℕ, Bool, true, false, zero, suc, List, [], ◌∷◌, map, length, get_or, Some, None, refl, sym, ap, ap₂, arith, rules, inl, inr}
use Rattle.std.specs.Prelude.{◌==◌, ◌&&◌, not}
use Rattle.std.specs.declared.cmp.Ordering.{Ordering}
use Rattle.std.specs.declared.cmp.Ordering.TheVariants.{Less, Equal, Greater}
use Rattle.std.specs.Ordering.{nat_cmp, ordering_then, is_eq}
use Rattle.std.specs.Cmp.{unsigned_tied}
use Rattle.std.proofs.lemmas.Slice.Eq.{bytes_eq-Decides}
use Rattle.ac_base.proofs.Small.{eq_turned}
use Rattle.std.specs.List.{All, list_any}
use Rattle.std.specs.Str.{bytes_eq}
use Rattle.std.proofs.lemmas.Bool.{cases_Bool, cases_eq, cases_order}
use Rattle.std.proofs.lemmas.Map.Text.{is_eq-slice_cmp}
use Rattle.ac_base.specs.Texts.{text_cmp}
use Rattle.ac_base.specs.Names.{class_bytes}
use Rattle.ac_base.specs.declared.name.ClassName.{ClassName}
use Rattle.ac_base.specs.declared.name.TraitName.{TraitName}
use Rattle.ac_tables.specs.Tables.Checks.{Row, Check, first_failing}
use Rattle.ac_tables.specs.Tables.Columns.{id_in, text_in}
use Rattle.ac_cloud.specs.Cloud.RisingIds.{IsRising}
use Rattle.ac_tables.specs.Reader.TableRows.{IsKeyed}
use Rattle.ac_tables.specs.Tables.InventoryTable.{InventoryRecord, provider_name, class_name, inventory_said, inventory_record_checks, inventory_field_checks, once_checks, known_checks, is_inventory_of}
use Rattle.ac_base.specs.Sorted.{is_one_of}
use Rattle.ac_tables.specs.Tables.UsageTable.{UsageRecord, usage_said, usage_field_checks, usage_row_checks, used_checks, is_usage}
use Rattle.ac_tables.specs.Tables.TraitTable.{trait_said, trait_record_checks}
use Rattle.ac_tables.specs.Tables.AggregateTable.{aggregate_said, aggregate_record_checks}
use Rattle.ac_tables.specs.declared.fault.TableKind.{TableKind}
use Rattle.ac_tables.specs.declared.fault.TableKind.TheVariants as kind

-- a table of which no record has a part in another's checks
free_keyed : {V : Type 0} (says : Row → V) (checks : Row → List Check) → IsKeyed None says (λ _ row. checks row) checks (λ _ _. false)
free_keyed says checks = record {
  fresh = λ before row e within. refl;
  again = λ before row fine e. absurd (none before e);
  first = λ before row k fine e. e;
  full = λ before row fine e past. absurd (cc past);
}
  where
    none : {V : Type 0} (vs : List V) → list_any (λ _. false) vs ≡ true → ⊥
    none [] e = cc
    none (v ∷ vs) e = none vs e

pub traits_keyed : (ids : List ℕ) (header : Row) → IsKeyed None (trait_said header) (trait_record_checks ids header) (λ row. trait_record_checks ids header [] row) (λ _ _. false)
unfolding trait_record_checks
traits_keyed ids header = free_keyed (trait_said header) (trait_record_checks ids header [])

pub aggregates_keyed : (ids : List ℕ) (header : Row) → IsKeyed None (aggregate_said header) (aggregate_record_checks ids header) (λ row. aggregate_record_checks ids header [] row) (λ _ _. false)
unfolding aggregate_record_checks
aggregates_keyed ids header = free_keyed (aggregate_said header) (aggregate_record_checks ids header [])

pub aggregates_apart : (ids : List ℕ) (p q : ℕ) (k l : ℕ) (x y : Unit {0}) → p < length ids → q < length ids → false ≡ (false && is_eq (ordering_then (nat_cmp p q) (nat_cmp k l)))
aggregates_apart ids p q k l x y hp hq = refl

pub traits_apart : (ids : List ℕ) (p q : ℕ) (k l : TraitName) (x y : Unit {0}) → p < length ids → q < length ids → false ≡ (false && is_eq (ordering_then (nat_cmp p q) (text_cmp [] [])))
traits_apart ids p q k l x y hp hq = refl

-- the checks of fields and of a key, with and without the one that the key is new
module _ (fields : List Check) (twice : Bool) (rest : List Check) where
  pub new_key : twice ≡ false → first_failing (fields ++ ((twice, kind.Duplicate) ∷ rest)) ≡ first_failing (fields ++ rest)
  new_key e = rw e (walk fields)
    where
      walk : (cs : List Check) → first_failing (cs ++ ((false, kind.Duplicate) ∷ rest)) ≡ first_failing (cs ++ rest)
      walk [] = refl
      walk ((true, k) ∷ cs) = refl
      walk ((false, k) ∷ cs) = walk cs

  pub old_key : first_failing (fields ++ rest) ≡ None → twice ≡ true → first_failing (fields ++ ((twice, kind.Duplicate) ∷ rest)) ≡ Some kind.Duplicate
  old_key fine e = rw e (walk fields fine)
    where
      walk : (cs : List Check) → first_failing (cs ++ rest) ≡ None → first_failing (cs ++ ((true, kind.Duplicate) ∷ rest)) ≡ Some kind.Duplicate
      walk [] h = refl
      walk ((true, k) ∷ cs) h = absurd (cc)
      walk ((false, k) ∷ cs) h = walk cs h

  pub first_fault : (k : TableKind) → (twice ≡ true → first_failing rest ≡ None) → first_failing (fields ++ rest) ≡ Some k → first_failing (fields ++ ((twice, kind.Duplicate) ∷ rest)) ≡ Some k
  first_fault k known e = elim (cases_Bool twice) [
    | inl is ↦ walk fields (known is) e
    | inr not ↦ new_key not ∙ e
  ]
    where
      walk : (cs : List Check) → first_failing rest ≡ None → first_failing (cs ++ rest) ≡ Some k → first_failing (cs ++ ((twice, kind.Duplicate) ∷ rest)) ≡ Some k
      walk [] u h = absurd (cc (u, h))
      walk ((true, j) ∷ cs) u h = h
      walk ((false, j) ∷ cs) u h = walk cs u h

-- A table whose records go by provider and class, of which each is checked by its fields, then that it is new, then by its key.
module _ {V : Type 0} (provider : V → ℕ) (class : V → List ℕ) (says : Row → V) (fields : Row → List Check) (by_key : ℕ → List ℕ → List Check) where
  abbrev same : ℕ → List ℕ → V → Bool
  same id name v = (provider v == id) && bytes_eq name (class v)

  abbrev rest : Row → List Check
  rest row = by_key (provider (says row)) (class (says row))

  -- like keys fail alike
  known_before : (said : List V) (id : ℕ) (name : List ℕ) → All (λ v. first_failing (by_key (provider v) (class v)) ≡ None) said → list_any (same id name) said ≡ true → first_failing (by_key id name) ≡ None
  known_before [] id name all h = absurd (cc)
  known_before (v ∷ said) id name all h = elim (cases_Bool (same id name v)) [
    | inl e ↦ at (provider v == id) (bytes_eq name (class v)) refl refl e
    | inr e ↦ known_before said id name (λ k d inside. all (suc k) d (omega arith)) (rw e at h)
  ]
    where
      at : (a b : Bool) → (provider v == id) ≡ a → bytes_eq name (class v) ≡ b → (a && b) ≡ true → first_failing (by_key id name) ≡ None
      at true true p q e =
          let here : provider v ≡ id = search (arith, rules) in
          let like : name ≡ class v = (bytes_eq-Decides name (class v)).0 q in
          ap₂ (λ i c. first_failing (by_key i c)) (sym here) like ∙ all zero v (omega arith)
      at true false p q e = absurd (cc)
      at false b p q e = absurd (cc)

  rest_fine : (cs more : List Check) → first_failing (cs ++ more) ≡ None → first_failing more ≡ None
  rest_fine [] more h = h
  rest_fine ((true, j) ∷ cs) more h = absurd (cc)
  rest_fine ((false, j) ∷ cs) more h = rest_fine cs more h

  all_fine : (before : List Row) → All (λ row. first_failing (fields row ++ rest row) ≡ None) before → All (λ v. first_failing (by_key (provider v) (class v)) ≡ None) (map says before)
  all_fine [] fine k d inside = absurd (omega (arith, inside))
  all_fine (row ∷ before) fine zero d inside = rest_fine (fields row) (rest row) (fine zero row (omega arith))
  all_fine (row ∷ before) fine (suc k) d inside = all_fine before (λ j e h. fine (suc j) e (omega arith)) k d (omega (arith, inside))

  by_class : IsKeyed None says (λ before row. fields row ++ ((list_any (same (provider (says row)) (class (says row))) before, kind.Duplicate) ∷ rest row)) (λ row. fields row ++ rest row) (λ v u. same (provider v) (class v) u)
  by_class = record {
    fresh = λ before row e within. new_key (fields row) _ (rest row) e;
    again = λ before row fine e. old_key (fields row) _ (rest row) fine e;
    first = λ before row k fine e. first_fault (fields row) _ (rest row) k (λ is. known_before (map says before) (provider (says row)) (class (says row)) (all_fine before fine) is) e;
    full = λ before row fine e past. absurd (cc past);
  }

pub inventories_keyed : (ids : List ℕ) (header : Row) → IsKeyed None (inventory_said header) (inventory_record_checks ids header) (λ row. inventory_field_checks header row ++ known_checks ids (id_in header provider_name row)) (λ v h. is_inventory_of v.provider v.class h)
unfolding inventory_record_checks once_checks known_checks inventory_said
inventories_keyed ids header = by_class (λ (h : InventoryRecord). h.provider) (λ h. h.class) (inventory_said header) (inventory_field_checks header) (λ id _. known_checks ids id)

-- the checks of a usage's key that no other usage has a part in
abbrev pub lone_checks : List ℕ → List InventoryRecord → ℕ → List ℕ → List Check
lone_checks ids records id class = (not (is_one_of ids id), kind.UnknownProvider) ∷ (not (list_any (is_inventory_of id class) records), kind.NoInventory) ∷ []

pub usages_keyed : (ids : List ℕ) (records : List InventoryRecord) (header : Row)
    → IsKeyed None (usage_said header) (usage_row_checks ids records header) (λ row. usage_field_checks header row ++ lone_checks ids records (id_in header provider_name row) (text_in header class_name row)) (λ v u. is_usage v.provider v.class u)
unfolding usage_row_checks used_checks usage_said
usages_keyed ids records header = by_class (λ (u : UsageRecord). u.provider) (λ u. u.class) (usage_said header) (usage_field_checks header) (lone_checks ids records)

then_eq : (o c : Ordering) → is_eq (ordering_then o c) ≡ (is_eq o && is_eq c)
then_eq Less c = refl
then_eq Equal c = refl
then_eq Greater c = refl

equal : (a b : ℕ) → a ≡ b → (a == b) ≡ true
equal a b e = search (arith, rules)

differ : (a b : ℕ) → a ≢ b → (a == b) ≡ false
differ a b ne = search (arith, rules)

apart_rising : (xs : List ℕ) → IsRising xs → (i j : ℕ) → i < length xs → j < length xs → i ≢ j → get_or xs i 0 ≢ get_or xs j 0
apart_rising xs h i j hi hj ne e = elim (cases_order i j) [ inl same ↦ ne same | inr (inl k) ↦ omega (arith, h i j k hj, e) | inr (inr k) ↦ omega (arith, h j i k hi, e) ]

-- places and ids of providers are equal together
pub same_place : (ids : List ℕ) → IsRising ids → (p q : ℕ) → p < length ids → q < length ids → (get_or ids p 0 == get_or ids q 0) ≡ (p == q)
same_place ids rising p q hp hq = elim (cases_eq p q) [
  | inl e ↦ equal _ _ (ap (λ i. get_or ids i 0) e) ∙ sym (equal p q e)
  | inr ne ↦ differ _ _ (apart_rising ids rising p q hp hq ne) ∙ sym (differ p q ne)
]

-- keys are equal together with what they show
pub keys_apart : {X : Type 0} (ids : List ℕ) → IsRising ids → (p q : ℕ) (k l : ClassName) (x y : X) → p < length ids → q < length ids
    → ((get_or ids p 0 == get_or ids q 0) && bytes_eq (class_bytes l) (class_bytes k)) ≡ (true && is_eq (ordering_then (nat_cmp p q) (text_cmp (class_bytes k) (class_bytes l))))
keys_apart ids rising p q k l x y hp hq =
    ap₂ (λ a b. a && b) (same_place ids rising p q hp hq ∙ sym (unsigned_tied p q)) (eq_turned (class_bytes l) (class_bytes k) ∙ sym (is_eq-slice_cmp (class_bytes k) (class_bytes l)))
    ∙ sym (then_eq (nat_cmp p q) (text_cmp (class_bytes k) (class_bytes l)))
