-- What is kept where a session is marked: how much is used of each inventory. Then it can be used so again.
use Rattle.std.specs.Prelude.{ℕ, List, [], ◌∷◌, length, map}
use Rattle.std.specs.List.{flat_map, range_with_len}
use Rattle.ac_base.specs.Names.{class_bytes}
use Rattle.ac_cloud.specs.Amounts.{amount_at, with_amounts}
use Rattle.ac_cloud.specs.World.{Provider, UsedInventory, provider_at}
use Rattle.ac_session.specs.declared.turns.marks.Kept as rust

-- how much of a class of the provider at a place was used
pub record Kept : Type 0 where
  pub place : ℕ
  pub class : List ℕ
  pub used : ℕ

-- what is used of a class of the provider at a place
abbrev pub kept_entry : ℕ → List ℕ × UsedInventory → Kept
kept_entry ix e = record { place = ix; class = e.0; used = e.1.used }

-- of all its classes, in their order
abbrev pub kept_at : List Provider → ℕ → List Kept
kept_at all ix = map (kept_entry ix) (provider_at all ix).entries

-- what is used of all
unfoldable pub kept_of : List Provider → List Kept
kept_of all = flat_map (kept_at all) (range_with_len 0 (length all))

-- How much of a class of the provider at a place is used again: what was kept of it; where nothing was, what is used now.
abbrev pub used_again : List Kept → ℕ → List ℕ → UsedInventory → ℕ
used_again [] ix class had = had.used
used_again (k ∷ kept) ix class had = used_again kept ix class (record { inventory = had.inventory; used = amount_at k.place k.class k.used ix class had })

-- the providers, with as much in use as was kept
unfoldable pub restored : List Kept → List Provider → List Provider
restored kept all = with_amounts (used_again kept) all

-- ---- as the struct of it shows

abbrev pub kept_shown : rust.Kept → Kept
kept_shown k = record { place = k.place; class = class_bytes k.class; used = k.used }
