-- What is wanted of the value of a parameter.
use Rattle.std.specs.Prelude.{ℕ, Bool, ◌&&◌, nat_eq, nat_le, nat_lt, List, [], ◌∷◌, drop, find, length, map, codes, Option, Some, None, unwrap_or, if◌then◌else◌}
use Rattle.std.specs.Char.{to_ascii_uppercase}
use Rattle.std.specs.List.{filter_map, list_all, list_any, range_with_len, starts_with}
use Rattle.std.specs.Option.{option_map, option_map_or}
use Rattle.ac_base.specs.Texts.{is_name}
use Rattle.ac_query.specs.declared.version.Version.{Version}
use Rattle.ac_query.specs.Pairs.Values.{need_value}
use Rattle.ac_query.specs.Texts.{behind, has_text, items_of}
use Rattle.ac_query.specs.Versions.{has_any_of}
use Rattle.ac_remedies.specs.declared.queries.wanted.Form.{Form}
use Rattle.ac_remedies.specs.declared.queries.wanted.Form.TheVariants as form
use Rattle.ac_remedies.specs.Quoted.{quoted, said}

-- The form of the values of a parameter; a suffix may stand behind its word.
unfoldable pub form_of : List ℕ → Form
form_of name =
    if starts_with nat_eq name (codes "resources") then form.Resources
    else if starts_with nat_eq name (codes "required") then form.Traits
    else if starts_with nat_eq name (codes "root_required") then form.RootTraits
    else if starts_with nat_eq name (codes "member_of") then form.Aggregates
    else if starts_with nat_eq name (codes "in_tree") then form.Tree
    else if starts_with nat_eq name (codes "group_policy") then form.Policy
    else if starts_with nat_eq name (codes "same_subtree") then form.Suffixes
    else if starts_with nat_eq name (codes "limit") then form.Limit
    else form.Unknown

-- ---- a value that hasn't its form

-- what the form is
unfoldable pub wanted : Form → List ℕ
wanted form.Resources = codes "CLASS:AMOUNT between commas, with : where the client has =; each class once, in A-Z, 0-9 and _; amounts from 1 to 2147483647"
wanted form.Traits = codes "a trait is written A-Z, 0-9 and _"
wanted form.RootTraits = codes "a trait is written A-Z, 0-9 and _"
wanted form.Aggregates = codes "UUIDs of aggregates (names with --names): one, or several between commas behind in:, and ! before what is forbidden"
wanted form.Tree = codes "the UUID of a provider (its name with --names)"
wanted form.Policy = codes "none or isolate"
wanted form.Suffixes = codes "suffixes of groups between commas, in A-Z, a-z, 0-9, _ and -"
wanted form.Limit = codes "a number from 1 to 2147483647"
wanted form.Unknown = codes "docs/REFERENCE.md says how values are written"

-- the class of an item `CLASS:AMOUNT`
abbrev pub class_in : List ℕ → Option (List ℕ)
class_in item = option_map (λ need. need.0) (need_value item)

-- the first of these items that isn't `CLASS:AMOUNT`, or whose class is one of these or an earlier item's
unfoldable pub wrong_after : List (List ℕ) → List (List ℕ) → Option (List ℕ)
wrong_after seen [] = None
wrong_after seen (item ∷ items) =
    option_map_or (λ class. if has_text seen class then Some item else wrong_after (class ∷ seen) items) (class_in item) (Some item)

abbrev pub first_wrong : List ℕ → Option (List ℕ)
first_wrong value = wrong_after [] (items_of value)

-- the item that is named: where a value has several, the first that is wrong
abbrev pub named_wrong : List ℕ → Option (List ℕ)
named_wrong value = if nat_lt 1 (length (items_of value)) then first_wrong value else None

unfoldable pub wrong_text : Option (List ℕ) → List ℕ
wrong_text None = []
wrong_text (Some item) = said (quoted item ∷ codes " is wrong: " ∷ [])

abbrev pub resources_remedy : List ℕ → List ℕ
resources_remedy value = said (wrong_text (named_wrong value) ∷ wanted form.Resources ∷ [])

-- whether each item is the name of a trait, perhaps behind `!`
abbrev pub is_marked : List ℕ → Bool
is_marked item = is_name (unwrap_or (behind (codes "!") item) item)

abbrev pub are_traits : List ℕ → Bool
are_traits list = list_all is_marked (items_of list)

abbrev pub in_capitals : List ℕ → List ℕ
in_capitals value = map to_ascii_uppercase value

-- what is proposed in place of traits: the same in capitals, if those are traits and not too long to be read; else a word on lists
unfoldable pub proposed : List ℕ → List ℕ
proposed value =
    if nat_le (length value) 64 && are_traits (in_capitals value) then said (codes "; " ∷ in_capitals value ∷ codes "?" ∷ [])
    else codes ", between commas, with ! before what is forbidden"

abbrev pub traits_remedy : List ℕ → List ℕ
traits_remedy value = said (wanted form.Traits ∷ proposed value ∷ [])

-- whether a value is a list of which one trait is asked; what is said of one, which only the later version has
abbrev pub is_list : List ℕ → Bool
is_list value = starts_with nat_eq value (codes "in:")

unfoldable pub list_remedy : Version → List ℕ
list_remedy version =
    if has_any_of version then codes "behind in: stand traits between commas, in A-Z, 0-9 and _, and none with !"
    else codes "in: is read by --microversion 1.39"

-- the remedy, by the form of the parameter
abbrev pub value_remedy : Version → List ℕ → Form → List ℕ
value_remedy version value form.Resources = resources_remedy value
value_remedy version value form.Traits = if is_list value then list_remedy version else traits_remedy value
value_remedy version value form.RootTraits = if is_list value then codes "root_required has no in: and asks for all its traits" else traits_remedy value
value_remedy version value f = wanted f

-- a value has `&` as JSON writes it
abbrev pub has_escape : List ℕ → Bool
has_escape value = list_any (λ at. starts_with nat_eq (drop at value) (codes "\\u0026")) (range_with_len 0 (length value))

unfoldable pub escape_remedy : List ℕ
escape_remedy = codes "the log wrote \\u0026 for &: put & in its place"

unfoldable pub bad_value_remedy : Version → List ℕ → List ℕ → List ℕ
bad_value_remedy version name value = if has_escape value then escape_remedy else value_remedy version value (form_of name)

-- ---- a parameter that is given again

unfoldable pub once : Form → List ℕ
once form.Resources = codes "given once: join the classes by commas in one"
once form.Traits = codes "given once: join the traits by commas in one, or read the query by --microversion 1.39"
once form.RootTraits = codes "given once: join the traits by commas in one"
once _ = codes "given once: leave out all but one"

abbrev pub repeated_remedy : List ℕ → List ℕ
repeated_remedy name = once (form_of name)

-- ---- a trait that is required and forbidden

-- the names that a list forbids
abbrev pub forbidden_in : List ℕ → List (List ℕ)
forbidden_in list = filter_map (behind (codes "!")) (items_of list)

-- the first trait that is required and forbidden
abbrev pub opposed : List ℕ → Option (List ℕ)
opposed list = find (has_text (forbidden_in list)) (items_of list)

unfoldable pub opposed_remedy : Option (List ℕ) → List ℕ
opposed_remedy None = codes "a trait is required and forbidden: leave one of the two out"
opposed_remedy (Some name) = said (quoted name ∷ codes " is required and forbidden: leave one of the two out" ∷ [])

abbrev pub conflict_remedy : List ℕ → List ℕ
conflict_remedy value = opposed_remedy (opposed value)
