-- The providers of a world by their places in the rising order.
use Rattle.std.specs.Prelude.{ℕ, List, [], map, length, get_or, Option, None}
use Rattle.std.specs.Option.{option_map}
use Rattle.std.specs.List.{range_with_len}
use Rattle.ac_base.specs.Sorted.{TextMap}
use Rattle.ac_cloud.specs.World.{UsedInventory, Provider}

-- the provider at a place of these lists, whose parents are places
abbrev pub numbered_at : List ℕ → List (Option ℕ) → List (TextMap UsedInventory) → List (List (List ℕ)) → List (List ℕ) → List (List ℕ) → ℕ → Provider
numbered_at ids parents entries traits aggregates names ix = record {
  id = get_or ids ix 0;
  parent = option_map (λ j. get_or ids j 0) (get_or parents ix None);
  entries = get_or entries ix [];
  traits = get_or traits ix [];
  aggregates = get_or aggregates ix [];
  name = get_or names ix [];
}

-- all of them
unfoldable pub numbered : List ℕ → List (Option ℕ) → List (TextMap UsedInventory) → List (List (List ℕ)) → List (List ℕ) → List (List ℕ) → List Provider
numbered ids parents entries traits aggregates names = map (numbered_at ids parents entries traits aggregates names) (range_with_len 0 (length ids))
