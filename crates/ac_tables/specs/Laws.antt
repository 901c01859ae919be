-- What holds of the world that tables state, of what is gathered in order, and of a table that is written.
use Rattle.std.specs.Prelude.{◌≡◌, ◌<◌, ℕ, true, List, length, reverse}
use Rattle.std.specs.List.{list_any}
use Rattle.std.specs.List.Sorted.{IsStrictlySortedBy}
use Rattle.std.specs.Map.{keys_of, lookup}
use Rattle.std.specs.Option.{unwrap_or}
use Rattle.std.specs.Ordering.{nat_cmp}
use Rattle.std.specs.Str.{bytes_eq}
use Rattle.ac_base.specs.Texts.{text_cmp}
use Rattle.ac_base.specs.Quantities.{InventoryNumbers}
use Rattle.ac_base.specs.Sorted.{TextMap, is_one_of, map_of, rising}
use Rattle.ac_cloud.specs.Laws.{AreProviders}
use Rattle.ac_cloud.specs.World.{Provider, id_at, provider_at, used_of}
use Rattle.ac_tables.specs.Tables.{Tables, amounts_of, world_stated}
use Rattle.ac_tables.specs.Tables.Checks.{Row}
use Rattle.ac_tables.specs.Tables.Rows.{records_of}
use Rattle.ac_tables.specs.Tables.UsageTable.{usages_said}
use Rattle.ac_tables.specs.UsageRows.{usages_fit, usages_text}

-- The providers that tables state are in order, be the tables accepted or not.
abbrev pub ProvidersInOrder : Type 0
ProvidersInOrder = (t : Tables) → AreProviders (world_stated t).providers

-- A map in the order of its keys, with the last of the values that pairs have for a key.
pub record IsMapOf {X : Type 0} (pairs : List (List ℕ × X)) (m : TextMap X) : Type 0 where
  pub rises : IsStrictlySortedBy text_cmp (keys_of m)
  pub last : (key : List ℕ) → lookup (bytes_eq key) m ≡ lookup (bytes_eq key) (reverse pairs)

-- What is gathered in order rises, so that nothing stands in it twice, and is just what it was gathered of: ids and aggregates, traits, and the
-- inventories and usages of a provider by class.
pub record OrderHolds : Type 0 where
  pub ids_rise : (ids : List ℕ) → IsStrictlySortedBy nat_cmp (rising nat_cmp ids)
  pub ids : (ids : List ℕ) (id : ℕ) → is_one_of (rising nat_cmp ids) id ≡ is_one_of ids id
  pub names_rise : (names : List (List ℕ)) → IsStrictlySortedBy text_cmp (rising text_cmp names)
  pub names : (names : List (List ℕ)) (name : List ℕ) → list_any (bytes_eq name) (rising text_cmp names) ≡ list_any (bytes_eq name) names
  pub inventories : (pairs : List (List ℕ × InventoryNumbers)) → IsMapOf pairs (map_of pairs)
  pub amounts : (pairs : List (List ℕ × ℕ)) → IsMapOf pairs (map_of pairs)

-- how much of a class of a provider a table of usages states: nothing where no row is about it
abbrev pub amount_stated : List Row → ℕ → List ℕ → ℕ
amount_stated rows id class = unwrap_or (lookup (bytes_eq class) (amounts_of (usages_said rows) id)) 0

-- the classes of each provider stand in order, each once
abbrev pub HaveClassesInOrder : List Provider → Type 0
HaveClassesInOrder all = (ix : ℕ) → ix < length all → IsStrictlySortedBy text_cmp (keys_of (provider_at all ix).entries)

-- The table of usages that is written, read back, states of each class of each provider how much is used.
abbrev pub UsagesReadBack : Type 0
UsagesReadBack =
    (all : List Provider) → AreProviders all → HaveClassesInOrder all → usages_fit all ≡ true
    → (ix : ℕ) (class : List ℕ) → ix < length all → amount_stated (records_of (usages_text all)) (id_at all ix) class ≡ used_of (provider_at all ix) class
