-- What holds of the providers of every cloud, and so of those that a cloud is built of.
use Rattle.std.specs.Prelude.{◌≡◌, ◌≤◌, ◌<◌, ◌^◌, ℕ, List, length, map, Option, None, IfSome, true}
use Rattle.std.specs.List.{All}
use Rattle.std.specs.Option.{is_some}
use Rattle.ac_cloud.specs.Cloud.RisingIds.{IsRising}
use Rattle.ac_cloud.specs.World.{Provider, id_at, parent_of, place_of, provider_at, root_of}

-- the ids of providers
abbrev pub ids_in : List Provider → List ℕ
ids_in all = map (λ p. p.id) all

-- their parents
abbrev pub parents_in : List Provider → List (Option ℕ)
parents_in all = map (λ p. p.parent) all

-- They stand in the order of their ids, which are numbers of 128 bits, no more than there may be; each parent is one of them, and each chain of parents ends.
pub record AreTrees (all : List Provider) : Type 0 where
  pub rising : IsRising (ids_in all)
  pub fit : All (λ (id : ℕ). id < 2 ^ 128) (ids_in all)
  pub few : length all ≤ 65536
  pub known : (ix : ℕ) → ix < length all → IfSome (provider_at all ix).parent (λ q. is_some (place_of all q) ≡ true)
  pub ends : (ix : ℕ) → ix < length all → parent_of all (root_of all (id_at all ix)) ≡ None
