-- What is gathered of each provider rises.
use Rattle.ac_tables.proofs.Common.{◌≡◌, ◌∙◌, ℕ, List, [], ◌∷◌, map, get_or, refl, ap, subst, nat_cmp, ◌==◌, All, filter, IsStrictlySortedBy, nat_cmp_total, nat_list_cmp_total, class_bytes, trait_bytes, text_cmp, InventoryNumbers, ClassName, TraitName, TextMap, InventoryRecord, UsageRecord, TraitRecord, AggregateRecord, class_pair, TableRow, map-id}
use Rattle.ac_tables.specs.Tables.{inventories_of, amounts_of, names_of, aggregates_of}
use Rattle.ac_base.proofs.Sorted.SortedSets.{rising_sorted}
use Rattle.ac_base.proofs.Sorted.SameItems.{map_rises}
use Rattle.ac_tables.proofs.Sorted.RowLists.{all_gathered}

first_of_pairs : {X : Type 0} (rs : List (TableRow ClassName X)) → map (λ (e : List ℕ × X). e.0) (map class_pair rs) ≡ map (λ (r : TableRow ClassName X). class_bytes r.key) rs
first_of_pairs [] = refl
first_of_pairs (r ∷ rs) = ap (λ l. class_bytes r.key ∷ l) (first_of_pairs rs)

classes_rise : {X : Type 0} (gather : ℕ → TextMap X) (ids : List ℕ) (lists : List (List (TableRow ClassName X))) → map (map class_pair) lists ≡ map gather ids
    → ((id : ℕ) → IsStrictlySortedBy text_cmp (map (λ (e : List ℕ × X). e.0) (gather id))) → All (λ rs. IsStrictlySortedBy text_cmp (map (λ (r : TableRow ClassName X). class_bytes r.key) rs)) lists
classes_rise {X} gather ids lists e rise k d inside =
    subst (IsStrictlySortedBy text_cmp) (first_of_pairs (get_or lists k d))
    (all_gathered (λ m. IsStrictlySortedBy text_cmp (map (λ (e : List ℕ × X). e.0) m)) (map class_pair) gather lists ids e rise k d inside)

pub inventories_rise : (said : List InventoryRecord) (ids : List ℕ) (lists : List (List (TableRow ClassName InventoryNumbers))) → map (map class_pair) lists ≡ map (inventories_of said) ids
    → All (λ rs. IsStrictlySortedBy text_cmp (map (λ (r : TableRow ClassName InventoryNumbers). class_bytes r.key) rs)) lists
unfolding inventories_of
inventories_rise said ids lists e = classes_rise (inventories_of said) ids lists e (λ id. map_rises nat_list_cmp_total (map (λ (h : InventoryRecord). (h.class, h.inventory)) (filter (λ (h : InventoryRecord). h.provider == id) said)))

pub amounts_rise : (said : List UsageRecord) (ids : List ℕ) (lists : List (List (TableRow ClassName ℕ))) → map (map class_pair) lists ≡ map (amounts_of said) ids
    → All (λ rs. IsStrictlySortedBy text_cmp (map (λ (r : TableRow ClassName ℕ). class_bytes r.key) rs)) lists
unfolding amounts_of
amounts_rise said ids lists e = classes_rise (amounts_of said) ids lists e (λ id. map_rises nat_list_cmp_total (map (λ (u : UsageRecord). (u.class, u.amount)) (filter (λ (u : UsageRecord). u.provider == id) said)))

pub names_rise : (said : List TraitRecord) (ids : List ℕ) (lists : List (List TraitName)) → map (map trait_bytes) lists ≡ map (names_of said) ids → All (λ names. IsStrictlySortedBy text_cmp (map trait_bytes names)) lists
unfolding names_of
names_rise said ids lists e = all_gathered (IsStrictlySortedBy text_cmp) (map trait_bytes) (names_of said) lists ids e (λ id. rising_sorted nat_list_cmp_total (map (λ (m : TraitRecord). m.name) (filter (λ (m : TraitRecord). m.provider == id) said)))

pub aggregates_rise : (said : List AggregateRecord) (ids : List ℕ) (lists : List (List ℕ)) → lists ≡ map (aggregates_of said) ids → All (λ all. IsStrictlySortedBy nat_cmp all) lists
unfolding aggregates_of
aggregates_rise said ids lists e =
    all_gathered (IsStrictlySortedBy nat_cmp) (λ (l : List ℕ). l) (aggregates_of said) lists ids (map-id lists ∙ e) (λ id. rising_sorted nat_cmp_total (map (λ (m : AggregateRecord). m.aggregate) (filter (λ (m : AggregateRecord). m.provider == id) said)))

-- what shows that what is gathered of each provider rises
pub ruleset rising_lists = (inventories_rise, amounts_rise, names_rise, aggregates_rise)
