-- What draining the feeds of the tables answers.
use Rattle.std.specs.Prelude.{◌≡◌, ℕ, ◌≤◌, List, length, Option, Some, None, ⊤}
use Rattle.std.specs.Option.{option_map}
use Rattle.std.specs.Global.{Vec}
use Rattle.ac_tables.specs.Drain.{AllBytes, AreTooMany, most_bytes}
use Rattle.ac_tables.specs.declared.fault.Table.{Table}
use Rattle.ac_run.specs.Feeds.{Bytes, TellBytes, FeedRose, too_large}
use Rattle.ac_tables.specs.declared.read.FiveTables.{FiveTables}
use Rattle.ac_run.specs.declared.refusal.TablesRefusal.{TablesRefusal}
use Rattle.ac_run.specs.declared.refusal.TablesRefusal.TheVariants as tables

-- a feed that may not be there gave all its bytes, and they are few enough
abbrev pub GaveAll : Option (Option (List ℕ)) → Option (List ℕ) → Type 0
GaveAll None None = ⊤
GaveAll None (Some bytes) = ⊥
GaveAll (Some known) None = ⊥
GaveAll (Some known) (Some bytes) = AllBytes known bytes × (length bytes ≤ most_bytes)

-- a feed that may not be there tells too many bytes
abbrev pub AreTooManyThere : Option (Option (List ℕ)) → Type 0
AreTooManyThere None = ⊥
AreTooManyThere (Some known) = AreTooMany known

-- why a table's feed was not drained: it failed, or it gave too many bytes
abbrev pub ExplainsDraining : Type 0 → Type 0 → Table → TablesRefusal → Type 0
ExplainsDraining rose many table (tables.Unreadable t) = (t ≡ table) × rose
ExplainsDraining rose many table (tables.TooLarge t) = (t ≡ table) × many
ExplainsDraining rose many table (tables.Record t row k) = ⊥
ExplainsDraining rose many table (tables.Changes f) = ⊥
ExplainsDraining rose many table tables.NoMemory = ⊤

-- the bytes that were read
abbrev pub texts_shown : FiveTables (Vec ℕ) → Bytes
texts_shown t = record {
  providers = t.providers.items;
  inventories = t.inventories.items;
  usages = option_map (λ v. v.items) t.usages;
  traits = option_map (λ v. v.items) t.traits;
  aggregates = option_map (λ v. v.items) t.aggregates;
}

-- why the tables could not be read: a feed's count of failures rose, or a table has too many bytes
abbrev pub ExplainsReading : {R : Type 0} → (R → Option (List ℕ)) → (R → ℕ) → FiveTables R → FiveTables R → TablesRefusal → Type 0
ExplainsReading remaining failures old new (tables.Unreadable t) = FeedRose failures old new t
ExplainsReading remaining failures old new (tables.TooLarge t) = (b : Bytes) → TellBytes remaining old b → too_large b ≡ Some t
ExplainsReading remaining failures old new (tables.Record t row k) = ⊥
ExplainsReading remaining failures old new (tables.Changes f) = ⊥
ExplainsReading remaining failures old new tables.NoMemory = ⊤
