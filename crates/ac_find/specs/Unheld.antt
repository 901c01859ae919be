-- What the group without a suffix requires, and no provider that its slots may have holds at a root: the first such thing, and its words.
use Rattle.std.specs.Prelude.{ℕ, not, nat_lt, List, [], find, get_or, length, map, position, Option, None, Some, if◌then◌else◌}
use Rattle.std.specs.List.{range_with_len}
use Rattle.std.specs.Option.{is_none, option_and_then, option_map, option_map_or, option_or}
use Rattle.ac_cloud.specs.World.{Provider}
use Rattle.ac_query.specs.Asked.{Asked, Group}
use Rattle.ac_find.specs.Details.{missing_text, none_of_text}
use Rattle.ac_find.specs.Explained.{is_held, is_one_held}
use Rattle.ac_find.specs.Lacking.{lack_at}
use Rattle.ac_find.specs.declared.lacks.Lack.{Lack}
use Rattle.ac_find.specs.declared.lacks.Lack.TheVariants as lack
use Rattle.ac_find.specs.declared.unheld.of_roots.Unheld.{Unheld}
use Rattle.ac_find.specs.declared.unheld.of_roots.Unheld.TheVariants as unheld

-- the group without a suffix, where there is one
abbrev pub unsuffixed_group : Asked → Option (Option (List ℕ) × Group)
unsuffixed_group asked = find (λ g. is_none g.0) asked.groups

-- the first of some traits that isn't held, and the first of some lists of which none is
abbrev pub first_unheld : List Provider → Asked → ℕ → List (List ℕ) → Option (List ℕ)
first_unheld all asked r names = find (λ name. not (is_held all asked r name)) names

abbrev pub first_unheld_list : List Provider → Asked → ℕ → List (List (List ℕ)) → Option (List (List ℕ))
first_unheld_list all asked r lists = find (λ names. not (is_one_held all asked r names)) lists

abbrev pub unheld_list_detail : List Provider → Asked → ℕ → Group → List ℕ
unheld_list_detail all asked r g = option_map_or none_of_text (first_unheld_list all asked r g.any_of) []

-- of a group: first each required trait, then the lists
abbrev pub unheld_group_detail : List Provider → Asked → ℕ → Group → List ℕ
unheld_group_detail all asked r g = option_map_or missing_text (first_unheld all asked r g.required) (unheld_list_detail all asked r g)

abbrev pub unheld_detail : List Provider → Asked → ℕ → List ℕ
unheld_detail all asked r = option_map_or (λ g. unheld_group_detail all asked r g.1) (unsuffixed_group asked) []

-- ---- At each root, by places

-- the first of some traits that isn't held, and the first of some lists of which none is, by their places
abbrev pub unheld_trait : List Provider → Asked → ℕ → List (List ℕ) → Option ℕ
unheld_trait all asked r names = position (λ name. not (is_held all asked r name)) names

abbrev pub unheld_list : List Provider → Asked → ℕ → List (List (List ℕ)) → Option ℕ
unheld_list all asked r lists = position (λ names. not (is_one_held all asked r names)) lists

-- of a group: first each required trait, then the lists
abbrev pub unheld_of_group : List Provider → Asked → ℕ → Group → Option Unheld
unheld_of_group all asked r g = option_or (option_map (λ k. unheld.Trait k) (unheld_trait all asked r g.required)) (option_map (λ k. unheld.OneOf k) (unheld_list all asked r g.any_of))

abbrev pub unheld_at : List Provider → Asked → ℕ → Option Unheld
unheld_at all asked r = option_and_then (λ g. unheld_of_group all asked r g.1) (unsuffixed_group asked)

-- at a root that lacks such a thing
abbrev pub unheld_where : List Provider → Asked → ℕ → Option Lack → Option Unheld
unheld_where all asked r (Some lack.RequiredTraits) = unheld_at all asked r
unheld_where all asked r _ = None

-- of each provider as a root, by its place
abbrev pub unheld_things : List Provider → Asked → List (Option Unheld)
unheld_things all asked = map (λ r. unheld_where all asked r (lack_at all asked r)) (range_with_len 0 (length all))

-- the words of what a group requires at such a place; past the last there are none
abbrev pub unheld_group_text : Group → Option Unheld → List ℕ
unheld_group_text g (Some (unheld.Trait k)) = if nat_lt k (length g.required) then missing_text (get_or g.required k []) else []
unheld_group_text g (Some (unheld.OneOf k)) = if nat_lt k (length g.any_of) then none_of_text (get_or g.any_of k []) else []
unheld_group_text g None = []

abbrev pub unheld_text : Asked → Option Unheld → List ℕ
unheld_text asked thing = option_map_or (λ g. unheld_group_text g.1 thing) (unsuffixed_group asked) []
