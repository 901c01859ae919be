-- What nobody in a cloud has, and no root.
use Rattle.std.specs.Prelude.{◌≡◌, ℕ, ◌<◌, ◌&&◌, ◌||◌, Bool, true, false, List, [], get_or, length, slice_index_or}
use Rattle.std.specs.List.{list_any, range_with_len}
use Rattle.std.specs.Option.{is_some}
use Rattle.ac_cloud.specs.World.{Provider, entry_in, has_trait, is_member, is_root, place_of, provider_at}
use Rattle.ac_prune.specs.Ahead.{hosts_of}
use Rattle.ac_rules.specs.Own.{has_any}
use Rattle.ac_find.specs.Explained.{has_inventory}

-- some provider passes a test, by its place
abbrev pub someone : List Provider → (Provider → Bool) → Bool
someone all test = list_any (λ ix. test (provider_at all ix)) (range_with_len 0 (length all))

-- some provider has an inventory of a class, however much is left of it
unfoldable pub somebody_has_class : List Provider → List ℕ → Bool
somebody_has_class all class = someone all (λ p. is_some (entry_in p class))

-- some provider that is available in the tree of a root has one
abbrev pub somebody_there_has_class : List Provider → ℕ → List ℕ → Bool
somebody_there_has_class all r class = list_any (λ p. has_inventory (provider_at all p) class) (hosts_of all r)

-- some provider has a trait
unfoldable pub somebody_has_trait : List Provider → List ℕ → Bool
somebody_has_trait all name = someone all (λ p. has_trait p name)

-- some provider has one of these traits
unfoldable pub somebody_has_one : List Provider → List (List ℕ) → Bool
somebody_has_one all names = someone all (λ p. has_any p names)

-- some root has a trait
unfoldable pub some_root_has : List Provider → List ℕ → Bool
some_root_has all name = someone all (λ p. is_root all p.id && has_trait p name)

-- some provider has a trait, or where roots alone are asked, some root
abbrev pub is_had : Bool → List Provider → List ℕ → Bool
is_had true all name = some_root_has all name
is_had false all name = somebody_has_trait all name

-- the marks of some names that stay, and those of names that pass a test
abbrev pub AreMarked : List (List ℕ) → (List ℕ → Bool) → List Bool → List Bool → Type 0
AreMarked names test old new = (k : ℕ) → k < length old → slice_index_or new k false ≡ (slice_index_or old k false || test (get_or names k []))

-- some provider is in an aggregate
unfoldable pub somebody_is_member : List Provider → ℕ → Bool
somebody_is_member all aggregate = someone all (λ p. is_member p aggregate)

-- some provider is in one of these aggregates
unfoldable pub somebody_is_in : List Provider → List ℕ → Bool
somebody_is_in all aggregates = list_any (λ a. somebody_is_member all a) aggregates

-- some provider has this id
unfoldable pub somebody_is : List Provider → ℕ → Bool
somebody_is all id = is_some (place_of all id)
