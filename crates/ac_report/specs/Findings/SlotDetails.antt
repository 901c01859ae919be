-- What is wanting in a slot, in words: a class that nobody has, or of what a provider fails a test.
use Rattle.std.specs.Prelude.{ℕ, List, [], ◌++◌, codes, get_or, Option, None, Some}
use Rattle.std.specs.Option.{option_map_or}
use Rattle.ac_cloud.specs.World.{Provider, provider_at}
use Rattle.ac_query.specs.Asked.{Slot}
use Rattle.ac_rules.specs.Placed.{Placed}
use Rattle.ac_find.specs.Details.{aggregates_detail, inventory_detail, room_detail, traits_detail, tree_detail, units_detail}
use Rattle.ac_find.specs.Explained.{in_slot}
use Rattle.ac_find.specs.Lacking.{first_failed}
use Rattle.ac_find.specs.declared.furthest.Wanting.{Wanting}
use Rattle.ac_find.specs.declared.lacks.Stage.{Stage}
use Rattle.ac_find.specs.declared.lacks.Stage.TheVariants as stage

unfoldable pub nobody_text : List ℕ → List ℕ
nobody_text class = class ++ codes ": nobody here"

-- of what a provider fails a test of its slot
abbrev pub detail_of : List Provider → Placed → Option Stage → List ℕ
detail_of all x None = []
detail_of all x (Some stage.Inventory) = inventory_detail (provider_at all x.provider) x.slot.needs
detail_of all x (Some stage.Units) = units_detail (provider_at all x.provider) x.slot.needs
detail_of all x (Some stage.Traits) = traits_detail (provider_at all x.provider) x.slot.suffix x.slot.group
detail_of all x (Some stage.Aggregates) = aggregates_detail all x x.slot.group.member_of
detail_of all x (Some stage.Tree) = tree_detail x.slot.group.in_tree
detail_of all x (Some stage.Room) = room_detail (provider_at all x.provider) x.slot.needs

-- the first test that it fails
abbrev pub failed_detail : List Provider → Placed → List ℕ
failed_detail all x = detail_of all x (first_failed all x)

-- at a root: the first class that nobody has there, else of what the provider fails its test that comes furthest
abbrev pub slot_detail : List Provider → Slot → Wanting → List ℕ
slot_detail all slot wanting =
    option_map_or (λ k. nobody_text (get_or slot.needs k ([], 0)).0) wanting.class (option_map_or (λ p. failed_detail all (in_slot slot p)) wanting.provider [])
