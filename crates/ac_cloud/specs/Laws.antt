-- What the definitions of trees come to, and what holds of a cloud.
use Rattle.std.specs.Prelude.{◌≡◌, ◌<◌, ◌^◌, ℕ, true, false, List, length, Option}
use Rattle.ac_cloud.specs.Cloud.CloudWorld.{providers_of}
use Rattle.ac_cloud.specs.Trees.{Above, IsRootOf, top, is_endless, is_in_chain}
use Rattle.std.specs.Option.{option_map}
use Rattle.ac_cloud.specs.Amounts.{with_amounts}
use Rattle.ac_cloud.specs.World.{UsedInventory, Provider, provider_at, id_at, place_of, parent_of, root_of, is_above, is_available_at, entry_in}
use Rattle.ac_cloud.specs.declared.cloud.Cloud.{Cloud}

-- the chain of a provider's parents holds just those that are above it
abbrev pub ChainIsAbove : Type 0
ChainIsAbove =
    (parent : ℕ → Option ℕ) (count a b : ℕ) → is_endless parent count b ≡ false
    → (is_in_chain parent count a b ≡ true → Above parent a b) × (Above parent a b → is_in_chain parent count a b ≡ true)

-- the top of a provider's chain is its root, and it has no other
abbrev pub TopIsRoot : Type 0
TopIsRoot =
    (parent : ℕ → Option ℕ) (count p : ℕ) → is_endless parent count p ≡ false
    → IsRootOf parent (top parent count p) p × ((r : ℕ) → IsRootOf parent r p → r ≡ top parent count p)

-- providers stand in the order of their ids, which are numbers of 128 bits
pub record AreProviders (all : List Provider) : Type 0 where
  pub order : (p q : ℕ) → p < q → q < length all → id_at all p < id_at all q
  pub fit : (ix : ℕ) → ix < length all → id_at all ix < 2 ^ 128

-- The providers of a cloud are in order.
abbrev pub CloudInOrder : Type 0
CloudInOrder = (cloud : Cloud) → AreProviders (providers_of cloud)

-- In the tree of a provider its root is above it, and has no parent; no other is both. Who is above it is a relation by parents.
pub record IsInTree (all : List Provider) (id : ℕ) : Type 0 where
  pub root : IsRootOf (parent_of all) (root_of all id) id
  pub only : (r : ℕ) → IsRootOf (parent_of all) r id → r ≡ root_of all id
  pub above : (a : ℕ) → is_above all a id ≡ true → Above (parent_of all) a id
  pub found : (a : ℕ) → Above (parent_of all) a id → is_above all a id ≡ true

-- So it is of each provider of a cloud, since there every chain of parents ends.
abbrev pub CloudIsForest : Type 0
CloudIsForest = (cloud : Cloud) (ix : ℕ) → ix < length (providers_of cloud) → IsInTree (providers_of cloud) (id_at (providers_of cloud) ix)

-- Two lists of providers differ in how much is used alone.
pub record DifferInAmounts (all new : List Provider) : Type 0 where
  pub count : length new ≡ length all
  pub ids : (ix : ℕ) → id_at new ix ≡ id_at all ix
  pub names : (ix : ℕ) → (provider_at new ix).name ≡ (provider_at all ix).name
  pub places : (id : ℕ) → place_of new id ≡ place_of all id
  pub parents : (id : ℕ) → parent_of new id ≡ parent_of all id
  pub roots : (id : ℕ) → root_of new id ≡ root_of all id
  pub above : (a b : ℕ) → is_above new a b ≡ is_above all a b
  pub available : (ix root : ℕ) → is_available_at new ix root ≡ is_available_at all ix root
  pub traits : (ix : ℕ) → (provider_at new ix).traits ≡ (provider_at all ix).traits
  pub aggregates : (ix : ℕ) → (provider_at new ix).aggregates ≡ (provider_at all ix).aggregates
  pub inventories : (ix : ℕ) (class : List ℕ)
      → option_map (λ had. had.inventory) (entry_in (provider_at new ix) class) ≡ option_map (λ had. had.inventory) (entry_in (provider_at all ix) class)

-- Whatever is used, all else stays.
abbrev pub AmountsAlone : Type 0
AmountsAlone = (amount : ℕ → List ℕ → UsedInventory → ℕ) (all : List Provider) → DifferInAmounts all (with_amounts amount all)
