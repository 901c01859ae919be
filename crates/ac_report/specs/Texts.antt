-- The texts of pages: what is shown of providers, the body of a list of lists, the pieces that it is written in, and a line for each list.
use Rattle.std.specs.Prelude.{ℕ, ◌==◌, Bool, true, false, List, [], ◌∷◌, ◌++◌, codes, map, length}
use Rattle.std.specs.List.{filter, flat_map, list_any, range_with_len}
use Rattle.serde_json.specs.Data.{Data, array, object, string, no_members, member}
use Rattle.serde_json.specs.View.{items_of}
use Rattle.serde_json.specs.Written.{compact_text, comma_if}
use Rattle.ac_cloud.specs.World.{Provider, id_at, root_of}
use Rattle.ac_query.specs.Asked.{Asked}
use Rattle.ac_query.specs.Tokens.{ids_text}
use Rattle.ac_rules.specs.Pages.{ids_of}
use Rattle.ac_report.specs.Trees.{gathered, provider_text, summary, request}

-- ---- what is shown

-- a provider without its traits
abbrev pub without_traits : Provider → Provider
without_traits p = record p { traits = [] }

-- all providers as they are, or without their traits
abbrev pub shown_providers : Bool → List Provider → List Provider
shown_providers true all = all
shown_providers false all = map without_traits all

-- the text of a request
unfoldable pub request_text : List Provider → Asked → List ℕ → List ℕ
request_text all asked list = compact_text (request all asked list)

-- the text of a summary
unfoldable pub summary_text : List Provider → ℕ → List ℕ
summary_text all ix = compact_text (summary all ix)

-- ---- the body

-- a list has a provider with this root
abbrev pub meets_root : List Provider → ℕ → List ℕ → Bool
meets_root all root list = list_any (λ ix. root_of all (id_at all ix) == root) list

-- the places of all providers whose root is the root of a provider of one of the lists, rising
abbrev pub summarized : List Provider → List (List ℕ) → List ℕ
summarized all lists = filter (λ ix. list_any (meets_root all (root_of all (id_at all ix))) lists) (range_with_len 0 (length all))

-- the tree of the body
unfoldable pub body_tree : List Provider → Asked → List (List ℕ) → Data
body_tree all asked lists =
    object (member (codes "allocation_requests") (array (items_of (map (request all asked) lists)))
    (member (codes "provider_summaries") (object (gathered (map (λ ix. (provider_text all ix, summary all ix)) (summarized all lists)))) no_members))

-- its compact text, and a newline
unfoldable pub body : List Provider → Asked → List (List ℕ) → List ℕ
body all asked lists = compact_text (body_tree all asked lists) ++ 10 ∷ []

-- ---- its pieces

-- texts, each after a comma, but the first only where something stands before
abbrev pub with_commas : Bool → List (List ℕ) → List (List ℕ)
with_commas later [] = []
with_commas later (text ∷ more) = (comma_if later ++ text) ∷ with_commas true more

-- a summary after its quoted id and a colon
unfoldable pub summary_piece : List Provider → ℕ → List ℕ
summary_piece all ix = compact_text (string (provider_text all ix)) ++ 58 ∷ summary_text all ix

unfoldable pub head_text : List ℕ
head_text = codes "{\"allocation_requests\":["

unfoldable pub middle_text : List ℕ
middle_text = codes "],\"provider_summaries\":{"

unfoldable pub tail_text : List ℕ
tail_text = codes "}}\n"

-- the pieces of the body
abbrev pub pieces : List Provider → Asked → List (List ℕ) → List (List ℕ)
pieces all asked lists =
    head_text ∷ (with_commas false (map (request_text all asked) lists)
    ++ middle_text ∷ (with_commas false (map (summary_piece all) (summarized all lists)) ++ tail_text ∷ []))

-- texts, one after the other
abbrev pub joined : List (List ℕ) → List ℕ
joined ts = flat_map (λ t. t) ts

-- ---- lines

-- the ids of a list, joined by commas, and a newline
abbrev pub line : List Provider → List ℕ → List ℕ
line all list = ids_text (ids_of all list) ++ 10 ∷ []

-- a line for each list
abbrev pub lines : List Provider → List (List ℕ) → List ℕ
lines all lists = flat_map (line all) lists
