-- A query written plainly: its parameters, decoded and in one order, each with its value.
use Rattle.std.specs.Prelude.{ℕ, Bool, true, false, if◌then◌else◌, List, [], ◌∷◌, ◌++◌, codes, map, Option}
use Rattle.std.specs.Fmt.{decimal}
use Rattle.std.specs.List.{flat_map, join_with_byte, list_any}
use Rattle.std.specs.Option.{option_to_list}
use Rattle.ac_base.specs.Texts.{id_text}
use Rattle.ac_base.specs.Writing.Pieces.{printed}
use Rattle.ac_find.specs.Details.{forbids_mark, list_mark}
use Rattle.ac_query.specs.Asked.{Asked, Group}
use Rattle.ac_query.specs.Pairs.Values.{AggregateRule}
use Rattle.ac_query.specs.Texts.{has_text}
use Rattle.ac_query.specs.Tokens.{ids_text}

-- ---- Values, as a query writes them

-- a class with its amount
abbrev pub need_text : List ℕ × ℕ → List ℕ
need_text need = need.0 ++ (codes ":" ++ decimal need.1)

-- a trait that is forbidden
abbrev pub forbidden_text : List ℕ → List ℕ
forbidden_text name = codes "!" ++ name

-- a list of traits of which one is asked
abbrev pub choice_text : List (List ℕ) → List ℕ
choice_text names = codes "in:" ++ join_with_byte 44 names

-- a rule on aggregates: `U`, `in:U,..`, `!U` or `!in:U,..`
abbrev pub rule_text : AggregateRule → List ℕ
rule_text rule = forbids_mark rule.forbids ++ (list_mark rule.ids ++ ids_text rule.ids)

-- whether some may be isolated
abbrev pub policy_text : Bool → List ℕ
policy_text true = codes "isolate"
policy_text false = codes "none"

-- ---- Values of a parameter: one for each time that it is given

-- items of one value, where there are any
abbrev pub value_of : List (List ℕ) → List (List ℕ)
value_of [] = []
value_of (item ∷ items) = join_with_byte 44 (item ∷ items) ∷ []

-- traits that are required and traits that are forbidden
abbrev pub traits_value : List (List ℕ) → List (List ℕ) → List (List ℕ)
traits_value required forbidden = value_of (required ++ map forbidden_text forbidden)

-- a trait is required and forbidden, which one value can't say
abbrev pub is_torn : Group → Bool
is_torn g = list_any (has_text g.forbidden) g.required

-- the traits of a group, in one value if that can say them
abbrev pub traits_values : Group → List (List ℕ)
traits_values g =
    if is_torn g then traits_value g.required [] ++ traits_value [] g.forbidden else traits_value g.required g.forbidden

-- ---- Parameters, each by its name and its value

-- a parameter, with each of its values
abbrev pub given : List ℕ → List (List ℕ) → List (List ℕ × List ℕ)
given name values = map (λ value. (name, value)) values

-- of a group: its suffix stands behind each name
abbrev pub group_parameters : Option (List ℕ) × Group → List (List ℕ × List ℕ)
group_parameters (suffix, g) =
    given (codes "resources" ++ printed suffix) (value_of (map need_text g.needs))
    ++ (given (codes "required" ++ printed suffix) (traits_values g ++ map choice_text g.any_of)
    ++ (given (codes "member_of" ++ printed suffix) (map rule_text g.member_of)
    ++ given (codes "in_tree" ++ printed suffix) (map id_text (option_to_list g.in_tree))))

-- of the whole query
abbrev pub whole_parameters : Asked → List (List ℕ × List ℕ)
whole_parameters asked =
    given (codes "group_policy") (map policy_text (option_to_list asked.policy))
    ++ (given (codes "same_subtree") (map (λ names. join_with_byte 44 names) asked.subtrees)
    ++ (given (codes "root_required") (traits_value asked.root_required asked.root_forbidden)
    ++ given (codes "limit") (map decimal (option_to_list asked.limit))))

-- all: group by group, then those of the whole
abbrev pub all_parameters : Asked → List (List ℕ × List ℕ)
all_parameters asked = flat_map group_parameters asked.groups ++ whole_parameters asked

-- a parameter in a query
abbrev pub pair_text : List ℕ × List ℕ → List ℕ
pair_text p = p.0 ++ (codes "=" ++ p.1)

-- the query of all of them
unfoldable pub plain_query : Asked → List ℕ
plain_query asked = join_with_byte 38 (map pair_text (all_parameters asked))
