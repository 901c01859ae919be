-- The trees of JSON that a page is made of: summaries of providers, and requests.
use Rattle.std.specs.Prelude.{ℕ, ◌+◌, ◌==◌, Bool, not, List, [], ◌∷◌, codes, map, Option, Some, None, if◌then◌else◌}
use Rattle.std.specs.List.{fold, filter, flat_map}
use Rattle.std.specs.Ordering.{nat_cmp}
use Rattle.serde_json.specs.Data.{Data, null, number, unsigned, string, array, object, Members, no_members, member, put}
use Rattle.serde_json.specs.View.{items_of}
use Rattle.ac_base.specs.Texts.{id_text}
use Rattle.ac_base.specs.Quantities.{capacity}
use Rattle.ac_base.specs.Sorted.{rising}
use Rattle.ac_cloud.specs.World.{UsedInventory, Provider, provider_at, id_at, parent_of, root_of}
use Rattle.ac_query.specs.Asked.{Group, Asked}
use Rattle.ac_query.specs.Laws.InOrder.{group_name}
use Rattle.ac_rules.specs.Placed.{Placed, assigned}
use Rattle.ac_rules.specs.Together.{sum_on, is_empty}

-- the members of an object, in byte order of their names; of several of one name the last counts
abbrev pub gathered : List (List ℕ × Data) → Members
gathered ms = fold (λ done m. put m.0 m.1 done) no_members ms

-- a list of texts
unfoldable pub texts : List (List ℕ) → Data
texts ts = array (items_of (map string ts))

-- the written form of the provider at a place
abbrev pub provider_text : List Provider → ℕ → List ℕ
provider_text all ix = id_text (id_at all ix)

-- ---- summaries

-- the written form of an id, or `null`
unfoldable pub id_or_null : Option ℕ → Data
id_or_null None = null
id_or_null (Some id) = string (id_text id)

-- a class: how much there is of it, and how much of that is used
unfoldable pub holding : List ℕ × UsedInventory → List ℕ × Data
holding h = (
  h.0,
  object (member (codes "capacity") (number (unsigned (capacity h.1.inventory))) (member (codes "used") (number (unsigned h.1.used)) no_members)),
)

-- each class of which a provider has an inventory
unfoldable pub holdings : List (List ℕ × UsedInventory) → Data
holdings hs = object (gathered (map holding hs))

-- the summary of the provider at a place
unfoldable pub summary : List Provider → ℕ → Data
summary all ix =
    object (member (codes "parent_provider_uuid") (id_or_null (parent_of all (id_at all ix)))
    (member (codes "resources") (holdings (provider_at all ix).entries)
    (member (codes "root_provider_uuid") (string (id_text (root_of all (id_at all ix))))
    (member (codes "traits") (texts (provider_at all ix).traits) no_members))))

-- ---- requests

-- what the slots need that a provider serves
abbrev pub needs_on : List Placed → ℕ → List (List ℕ × ℕ)
needs_on xs ix = flat_map (λ x. if x.provider == ix then x.slot.needs else []) xs

-- a class that is needed of a provider, with the sum of all that is
unfoldable pub sum : List Placed → ℕ → List ℕ × ℕ → List ℕ × Data
sum xs ix need = (need.0, number (unsigned (sum_on xs ix need.0)))

-- what is taken of a provider: each class that is needed of it, with its sum
unfoldable pub allocation : List Placed → ℕ → Data
allocation xs ix = object (member (codes "resources") (object (gathered (map (sum xs ix) (needs_on xs ix)))) no_members)

-- Whether something is needed of a provider. Amounts are at least 1, so this is where it has a positive sum.
abbrev pub gives : List Placed → ℕ → Bool
gives xs ix = not (is_empty (needs_on xs ix))

-- what is taken of each provider of a list that gives something
unfoldable pub allocations : List Provider → List Placed → List ℕ → Data
allocations all xs list = object (gathered (map (λ ix. (provider_text all ix, allocation xs ix)) (filter (λ ix. gives xs ix) (rising nat_cmp list))))

-- the providers of the slots of the group at a place
abbrev pub hosts : List Placed → ℕ → List ℕ
hosts xs place = map (λ x. x.provider) (filter (λ x. x.slot.place == place) xs)

-- a group, and the ids of its slots' providers, rising, each once
unfoldable pub mapping : List Provider → List Placed → ℕ → Option (List ℕ) × Group → List ℕ × Data
mapping all xs place g = (group_name g, texts (map (provider_text all) (rising nat_cmp (hosts xs place))))

-- the same of groups, the first of which stands at a place
abbrev pub mappings_from : List Provider → List Placed → ℕ → List (Option (List ℕ) × Group) → List (List ℕ × Data)
mappings_from all xs place [] = []
mappings_from all xs place (g ∷ gs) = mapping all xs place g ∷ mappings_from all xs (place + 1) gs

unfoldable pub mappings : List Provider → Asked → List Placed → Data
mappings all asked xs = object (gathered (mappings_from all xs 0 asked.groups))

-- the request that a list of providers stands for
unfoldable pub request : List Provider → Asked → List ℕ → Data
request all asked list =
    object (member (codes "allocations") (allocations all (assigned asked list) list)
    (member (codes "mappings") (mappings all asked (assigned asked list)) no_members))
