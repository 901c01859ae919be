-- The roots of slots, as the code holds them.
use Rattle.std.specs.Prelude.{◌≡◌, ℕ, Bool, ◌&&◌, false, List, length, map, slice_index_or}
use Rattle.std.specs.Global.{Vec}
use Rattle.std.specs.List.{list_any, range_with_len}
use Rattle.ac_cloud.specs.World.{Provider}
use Rattle.ac_query.specs.Asked.{Asked}
use Rattle.ac_find.specs.Apart.{serves_slot}

-- some place is marked in both of two lists
abbrev pub have_common : List Bool → List Bool → Bool
have_common first other = list_any (λ r. slice_index_or first r false && slice_index_or other r false) (range_with_len 0 (length first))

-- the marks of the roots that serve a slot
abbrev pub roots_of_slot : List Provider → Asked → ℕ → List Bool
roots_of_slot all asked s = map (serves_slot all asked s) (range_with_len 0 (length all))

-- of the first slots
abbrev pub AreServed : List Provider → Asked → List (Vec Bool) → Type 0
AreServed all asked roots = map (λ (marks : Vec Bool). marks.items) roots ≡ map (roots_of_slot all asked) (range_with_len 0 (length roots))
