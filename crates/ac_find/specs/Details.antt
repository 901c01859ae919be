-- Of what a provider fails a test of its slot, or a root what the query asks of it: a class with its amount, a trait, an aggregate, a tree.
use Rattle.std.specs.Prelude.{ℕ, ◌-◌, Bool, true, false, not, nat_lt, if◌then◌else◌, List, [], ◌∷◌, ◌++◌, codes, find, length, take, Option, None, Some}
use Rattle.std.specs.Fmt.{decimal}
use Rattle.std.specs.List.{join_with_byte}
use Rattle.std.specs.Option.{is_some, option_map_or}
use Rattle.std.specs.Str.{bytes_eq}
use Rattle.ac_base.specs.Quantities.{InventoryNumbers, capacity}
use Rattle.ac_base.specs.Texts.{id_text}
use Rattle.ac_query.specs.Asked.{Asked, Group}
use Rattle.ac_query.specs.Pairs.Values.{AggregateRule}
use Rattle.ac_query.specs.Tokens.{ids_text}
use Rattle.ac_cloud.specs.World.{Provider, has_trait, used_of}
use Rattle.ac_rules.specs.Own.{admits, has_any, inventory_of, meets_rule}
use Rattle.ac_rules.specs.Placed.{Placed}
use Rattle.ac_rules.specs.Together.{holds}
use Rattle.ac_find.specs.Explained.{has_inventory}

-- ---- Inventories, units and room

-- a class, and that nothing is told of it
abbrev pub none_text : List ℕ → List ℕ
none_text class = class ++ codes ": no inventory"

-- the first class of which the provider has no inventory
abbrev pub first_absent : Provider → List (List ℕ × ℕ) → Option (List ℕ × ℕ)
first_absent p needs = find (λ need. not (has_inventory p need.0)) needs

abbrev pub inventory_detail : Provider → List (List ℕ × ℕ) → List ℕ
inventory_detail p needs = option_map_or (λ need. none_text need.0) (first_absent p needs) []

-- a class with its amount, and the units of the inventory
unfoldable pub units_text : List ℕ × ℕ → Option InventoryNumbers → List ℕ
units_text need None = none_text need.0
units_text need (Some i) =
    need.0 ++ (codes ":" ++ (decimal need.1 ++ (codes " not within min_unit " ++ (decimal i.min_unit
    ++ (codes ", max_unit " ++ (decimal i.max_unit ++ (codes ", step_size " ++ decimal i.step_size)))))))

-- the first class whose amount the provider's inventory doesn't admit
abbrev pub first_unadmitted : Provider → List (List ℕ × ℕ) → Option (List ℕ × ℕ)
first_unadmitted p needs = find (λ need. not (admits (inventory_of p need.0) need.1)) needs

abbrev pub units_detail : Provider → List (List ℕ × ℕ) → List ℕ
units_detail p needs = option_map_or (λ need. units_text need (inventory_of p need.0)) (first_unadmitted p needs) []

-- a class with what is left of its capacity beside what is used, and the capacity
unfoldable pub room_text : List ℕ → Option InventoryNumbers → ℕ → List ℕ
room_text class None used = none_text class
room_text class (Some i) used =
    class ++ (codes ": " ++ (decimal (capacity i - used) ++ (codes " of " ++ (decimal (capacity i) ++ codes " left"))))

-- the first class of which the provider has no room for the amount
abbrev pub first_short : Provider → List (List ℕ × ℕ) → Option (List ℕ × ℕ)
first_short p needs = find (λ need. not (holds p need.0 need.1)) needs

abbrev pub room_detail : Provider → List (List ℕ × ℕ) → List ℕ
room_detail p needs = option_map_or (λ need. room_text need.0 (inventory_of p need.0) (used_of p need.0)) (first_short p needs) []

-- ---- Traits

abbrev pub missing_text : List ℕ → List ℕ
missing_text name = name ++ codes " missing"

abbrev pub forbidden_text : List ℕ → List ℕ
forbidden_text name = name ++ codes " forbidden"

-- how many more there are of so many, of which eight are told
unfoldable pub more_text : ℕ → List ℕ
more_text n = if nat_lt 8 n then codes " and " ++ (decimal (n - 8) ++ codes " more") else []

-- traits of which one is asked
unfoldable pub none_of_text : List (List ℕ) → List ℕ
none_of_text names = codes "none of " ++ (join_with_byte 44 (take 8 names) ++ more_text (length names))

-- a name of a list: behind a comma, but for the first
abbrev pub part_text : ℕ → List ℕ → List ℕ
part_text place name = if nat_lt 0 place then 44 ∷ name else name

-- the first of some traits that the provider hasn't, the first that it has, and the first of some lists none of whose traits it has
abbrev pub first_missing : Provider → List (List ℕ) → Option (List ℕ)
first_missing p names = find (λ name. not (has_trait p name)) names

abbrev pub first_had : Provider → List (List ℕ) → Option (List ℕ)
first_had p names = find (λ name. has_trait p name) names

abbrev pub first_unserved : Provider → List (List (List ℕ)) → Option (List (List ℕ))
first_unserved p lists = find (λ names. not (has_any p names)) lists

abbrev pub forbidden_detail : Provider → Group → List ℕ
forbidden_detail p g = option_map_or forbidden_text (first_had p g.forbidden) []

abbrev pub choice_detail : Provider → Group → List ℕ
choice_detail p g = option_map_or none_of_text (first_unserved p g.any_of) (forbidden_detail p g)

abbrev pub required_detail : Provider → Group → List ℕ
required_detail p g = option_map_or missing_text (first_missing p g.required) (choice_detail p g)

-- in a suffixed group first what it requires; then, in each group, what it forbids
abbrev pub traits_detail : Provider → Option (List ℕ) → Group → List ℕ
traits_detail p suffix g = if is_some suffix then required_detail p g else forbidden_detail p g

-- ---- Aggregates, and the tree

abbrev pub forbids_mark : Bool → List ℕ
forbids_mark true = codes "!"
forbids_mark false = []

-- a list has a mark, one aggregate has none
abbrev pub list_mark : List ℕ → List ℕ
list_mark ids = if nat_lt 1 (length ids) then codes "in:" else []

-- a rule as `member_of` is written, with the first of a long list
abbrev pub rule_text : AggregateRule → List ℕ
rule_text rule = codes "member_of=" ++ (forbids_mark rule.forbids ++ (list_mark rule.ids ++ (ids_text (take 8 rule.ids) ++ more_text (length rule.ids))))

-- the first rule that isn't met
abbrev pub first_unmet : List Provider → Placed → List AggregateRule → Option AggregateRule
first_unmet all x rules = find (λ rule. not (meets_rule all x rule)) rules

abbrev pub aggregates_detail : List Provider → Placed → List AggregateRule → List ℕ
aggregates_detail all x rules = option_map_or rule_text (first_unmet all x rules) []

abbrev pub tree_detail : Option ℕ → List ℕ
tree_detail tree = option_map_or (λ id. codes "in_tree=" ++ id_text id) tree []

-- ---- The root

-- a host that is disabled has a trait of its own
abbrev pub disabled_note : List ℕ → List ℕ
disabled_note name = if bytes_eq name (codes "COMPUTE_STATUS_DISABLED") then codes ": the host is disabled" else []

abbrev pub root_forbidden_text : List ℕ → List ℕ
root_forbidden_text name = name ++ (codes " forbidden" ++ disabled_note name)

-- of what the query asks of a root: the first required trait that it hasn't, else the first forbidden one that it has
abbrev pub root_forbidden_detail : Provider → Asked → List ℕ
root_forbidden_detail p asked = option_map_or root_forbidden_text (first_had p asked.root_forbidden) []

abbrev pub root_detail : Provider → Asked → List ℕ
root_detail p asked = option_map_or missing_text (first_missing p asked.root_required) (root_forbidden_detail p asked)
