-- What a group asks of the provider of a slot besides its classes, as a query says it, each rule behind a blank: traits, aggregates and a tree. Of a long list
-- the first are told, and how many more there are.
use Rattle.std.specs.Prelude.{ℕ, if◌then◌else◌, List, [], ◌++◌, length, map, nat_lt, codes, Option, None, Some, take}
use Rattle.std.specs.List.{flat_map}
use Rattle.ac_base.specs.Texts.{id_text}
use Rattle.ac_base.specs.Writing.Pieces.{listed, marked}
use Rattle.ac_find.specs.Details.{more_text}
use Rattle.ac_query.specs.Asked.{Group}
use Rattle.ac_query.specs.Pairs.Values.{AggregateRule}

-- texts of a list: the first behind a mark
abbrev pub some_listed : List ℕ → List (List ℕ) → List ℕ
some_listed mark texts = listed mark (take 8 texts) ++ more_text (length texts)

-- ---- Traits

-- what is required of a slot's provider: the group without a suffix requires it of all its providers together
abbrev pub required_asked : Option (List ℕ) → Group → List ℕ
required_asked None g = []
required_asked (Some _) g =
    some_listed (codes " required=") g.required ++ flat_map (λ names. some_listed (codes " required=in:") names) g.any_of

abbrev pub forbidden_asked : List (List ℕ) → List ℕ
forbidden_asked names = flat_map (λ name. marked (codes " required=!") name) (take 8 names) ++ more_text (length names)

abbrev pub traits_asked : Option (List ℕ) → Group → List ℕ
traits_asked suffix g = required_asked suffix g ++ forbidden_asked g.forbidden

-- ---- Aggregates and a tree

-- what stands before the ids of a rule: of several of them one is asked, or none
abbrev pub rule_mark : AggregateRule → List ℕ
rule_mark rule =
    if rule.forbids then (if nat_lt 1 (length rule.ids) then codes " member_of=!in:" else codes " member_of=!")
    else if nat_lt 1 (length rule.ids) then codes " member_of=in:" else codes " member_of="

abbrev pub rule_asked : AggregateRule → List ℕ
rule_asked rule = some_listed (rule_mark rule) (map id_text rule.ids)

abbrev pub aggregates_asked : Group → List ℕ
aggregates_asked g = flat_map rule_asked g.member_of

abbrev pub tree_asked : Option ℕ → List ℕ
tree_asked None = []
tree_asked (Some id) = marked (codes " in_tree=") (id_text id)
