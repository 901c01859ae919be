-- The feeds of the five tables: the bytes that they tell, and what draining them answers.
pub mod Draining
use Rattle.std.specs.Prelude.{◌≡◌, ℕ, nat_lt, Bool, false, List, [], ◌∷◌, length, Option, Some, None}
use Rattle.std.specs.Option.{option_map}
use Rattle.ac_base.specs.Devices.{Rises}
use Rattle.ac_tables.specs.Tables.Checks.{first_failing}
use Rattle.ac_tables.specs.Drain.{most_bytes}
use Rattle.ac_tables.specs.declared.fault.Table.{Table}
use Rattle.ac_tables.specs.declared.fault.Table.TheVariants as table
use Rattle.ac_tables.specs.declared.read.FiveTables.{FiveTables}

-- the bytes of the five tables, of which three may not be there
pub record Bytes : Type 0 where
  pub providers : List ℕ
  pub inventories : List ℕ
  pub usages : Option (List ℕ)
  pub traits : Option (List ℕ)
  pub aggregates : Option (List ℕ)

-- the feeds tell that they still give these bytes
pub record TellBytes {R : Type 0} (remaining : R → Option (List ℕ)) (inputs : FiveTables R) (b : Bytes) : Type 0 where
  pub providers : remaining inputs.providers ≡ Some b.providers
  pub inventories : remaining inputs.inventories ≡ Some b.inventories
  pub usages : option_map remaining inputs.usages ≡ option_map (λ x. Some x) b.usages
  pub traits : option_map remaining inputs.traits ≡ option_map (λ x. Some x) b.traits
  pub aggregates : option_map remaining inputs.aggregates ≡ option_map (λ x. Some x) b.aggregates

-- the count of failures of a feed that may not be there rose
abbrev pub RisesIn : {R : Type 0} → (R → ℕ) → Option R → Option R → Type 0
RisesIn failures None new = ⊥
RisesIn failures (Some a) None = ⊥
RisesIn failures (Some a) (Some b) = Rises (failures a) (failures b)

-- the count of failures of a table's feed rose
abbrev pub FeedRose : {R : Type 0} → (R → ℕ) → FiveTables R → FiveTables R → Table → Type 0
FeedRose failures old new table.Providers = Rises (failures old.providers) (failures new.providers)
FeedRose failures old new table.Inventories = Rises (failures old.inventories) (failures new.inventories)
FeedRose failures old new table.Usages = RisesIn failures old.usages new.usages
FeedRose failures old new table.Traits = RisesIn failures old.traits new.traits
FeedRose failures old new table.Aggregates = RisesIn failures old.aggregates new.aggregates

abbrev pub is_long : List ℕ → Bool
is_long bytes = nat_lt most_bytes (length bytes)

abbrev pub is_long_there : Option (List ℕ) → Bool
is_long_there None = false
is_long_there (Some bytes) = is_long bytes

-- the first table with more bytes than a table may have
unfoldable pub too_large : Bytes → Option Table
too_large b =
    first_failing
    ((is_long b.providers, table.Providers) ∷ (is_long b.inventories, table.Inventories) ∷ (is_long_there b.usages, table.Usages)
    ∷ (is_long_there b.traits, table.Traits) ∷ (is_long_there b.aggregates, table.Aggregates) ∷ [])
