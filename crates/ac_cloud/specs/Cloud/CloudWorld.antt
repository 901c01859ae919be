-- The world that a cloud stands for.
use Rattle.std.specs.Prelude.{ℕ, List, map}
use Rattle.ac_cloud.specs.World.{Provider, Sizes, World}
use Rattle.ac_base.specs.Names.{trait_bytes}
use Rattle.ac_cloud.specs.Cloud.Anchors.{list_items}
use Rattle.ac_cloud.specs.Cloud.Entries.{entry_pair}
use Rattle.ac_cloud.specs.ListsOf.{lists_of}
use Rattle.ac_cloud.specs.Cloud.Numbered.{numbered}
use Rattle.ac_cloud.specs.declared.cloud.Cloud.{Cloud}
use Rattle.ac_cloud.specs.declared.cloud.Counts.{Counts}

-- the sizes that counts tell
abbrev pub sizes_of : Counts → Sizes
sizes_of c = record { providers = c.providers; inventories = c.inventories; usages = c.usages; traits = c.traits; aggregates = c.aggregates }

-- the providers of a cloud, in the order of their ids
unfoldable pub providers_of : Cloud → List Provider
providers_of cloud = numbered cloud.ids.ids.items cloud.parents.items (map (map entry_pair) (lists_of cloud.entries)) (map (map trait_bytes) (lists_of cloud.traits)) (lists_of cloud.aggregates) (lists_of cloud.names)

-- the lists of roots that a cloud keeps beside its providers, each for one of them or for several
unfoldable pub root_lists_of : Cloud → List (List ℕ)
root_lists_of cloud = map list_items cloud.anchors.lists.items

-- the world of a cloud
abbrev pub world_of : Cloud → World
world_of cloud = record { providers = providers_of cloud; sizes = sizes_of cloud.counts }
