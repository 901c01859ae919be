-- What slots with providers show.
use Rattle.std.specs.Prelude.{List, map, drop}
use Rattle.ac_query.specs.Asked.{slots_of}
use Rattle.ac_query.specs.Shown.Queries.{asked_of}
use Rattle.ac_cloud.specs.World.{Provider}
use Rattle.ac_cloud.specs.Cloud.CloudWorld.{providers_of}
use Rattle.ac_rules.specs.Placed.{Placed, placed, assigned, placed_at}
use Rattle.ac_rules.specs.declared.assignment.Placed as rust
use Rattle.ac_rules.specs.declared.assignment.Assignment.{Assignment}
use Rattle.ac_rules.specs.declared.assignment.Slots.{Slots}

-- the slot, and the place of its provider
abbrev pub placed_of : rust.Placed → Placed
placed_of x = placed_at (asked_of x.query.now) x.slot x.provider

-- the slots with their providers
abbrev pub assigned_of : Assignment → List Placed
assigned_of a = assigned (asked_of a.query.now) a.list.now

-- each with all providers beside it
abbrev pub all_in : List Provider → List Placed → List (List Provider × Placed)
all_in all xs = map (λ x. (all, x)) xs

abbrev pub shown : rust.Placed → List Provider × Placed
shown x = (providers_of x.cloud.now, placed_of x)

-- the slots that are still to come
abbrev pub slots_left : Slots → List (List Provider × Placed)
slots_left s = all_in (providers_of s.whole.cloud.now) (placed (drop s.next (slots_of (asked_of s.whole.query.now))) (drop s.next s.whole.list.now))
