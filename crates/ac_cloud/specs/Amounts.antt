-- The same providers, of which other amounts are used.
use Rattle.std.specs.Prelude.{ℕ, ◌&&◌, ◌==◌, if◌then◌else◌, List, map, length}
use Rattle.std.specs.List.{range_with_len}
use Rattle.std.specs.Str.{bytes_eq}
use Rattle.ac_cloud.specs.World.{UsedInventory, Provider, provider_at}

-- an entry of which as much is used as `amount` gives of its class and of what there is of it
abbrev pub entry_using : (List ℕ → UsedInventory → ℕ) → List ℕ × UsedInventory → List ℕ × UsedInventory
entry_using amount e = (e.0, record { inventory = e.1.inventory; used = amount e.0 e.1 })

-- a provider as it is, but for how much of each of its classes is used
abbrev pub provider_using : (List ℕ → UsedInventory → ℕ) → Provider → Provider
provider_using amount p = record p { entries = map (entry_using amount) p.entries }

-- all providers as they are, but for how much of their classes is used: what `amount` gives of a provider's place, a class, and what there is of it
unfoldable pub with_amounts : (ℕ → List ℕ → UsedInventory → ℕ) → List Provider → List Provider
with_amounts amount all = map (λ ix. provider_using (amount ix) (provider_at all ix)) (range_with_len 0 (length all))

-- so much of a class of the provider at a place, and of everything else as much as before
abbrev pub amount_at : ℕ → List ℕ → ℕ → ℕ → List ℕ → UsedInventory → ℕ
amount_at ix class used p c had = if (p == ix) && bytes_eq class c then used else had.used
