-- An answer of the service beside the candidates: its allocation requests, each in order, and what is told of the difference.
pub mod Answers
use Rattle.std.specs.Prelude.{ℕ, Bool, true, false, not, nat_lt, min, decimal, List, [], ◌∷◌, ◌++◌, map, length, codes, Option, Some, None, if◌then◌else◌}
use Rattle.std.specs.List.{filter, list_any}
use Rattle.std.specs.Option.{option_and_then, option_map}
use Rattle.std.specs.Str.{bytes_eq, is_utf8}
use Rattle.serde_json.specs.Data.{Data, object, Items, no_items, item, Members, no_members, member}
use Rattle.serde_json.specs.Find.{as_array, as_object, as_str, get}
use Rattle.serde_json.specs.Read.{read}
use Rattle.serde_json.specs.Written.{compact_text, has_float}
use Rattle.ac_base.specs.Sorted.{rising}
use Rattle.ac_base.specs.Texts.{text_cmp}
use Rattle.ac_cloud.specs.World.{Provider}
use Rattle.ac_query.specs.Asked.{Asked}
use Rattle.ac_rules.specs.Pages.{candidates}
use Rattle.ac_report.specs.Texts.{joined, line, request_text}
use Rattle.ac_report.specs.Trees.{gathered, texts}

-- ---- an allocation request in order

-- what a function gives of each item of a list, where it gives something of each
abbrev pub each : {A B : Type 0} → (A → Option B) → List A → Option (List B)
each f [] = Some []
each f (x ∷ xs) = option_and_then (λ y. option_map (λ ys. y ∷ ys) (each f xs)) (f x)

-- the items of an array, and the members of an object, as lists
abbrev pub items_listed : Items → List Data
items_listed no_items = []
items_listed (item d ds) = d ∷ items_listed ds

abbrev pub members_listed : Members → List (List ℕ × Data)
members_listed no_members = []
members_listed (member name d ms) = (name, d) ∷ members_listed ms

-- the strings of an array that has strings alone
abbrev pub strings : Data → Option (List (List ℕ))
strings d = option_and_then (λ ds. each as_str (items_listed ds)) (as_array d)

-- an array of strings, put in byte order, each string once
unfoldable pub in_order : Data → Option Data
in_order d = option_map (λ ts. texts (rising text_cmp ts)) (strings d)

-- members that are arrays of strings, each put in order
abbrev pub member_in_order : List ℕ × Data → Option (List ℕ × Data)
member_in_order m = option_map (λ d. (m.0, d)) (in_order m.1)

unfoldable pub mappings_in_order : Members → Option Data
mappings_in_order ms = option_map object (option_map gathered (each member_in_order (members_listed ms)))

-- the members of the object that stands at a name of a value
abbrev pub object_at : List ℕ → Data → Option Members
object_at name d = option_and_then as_object (get name d)

-- the request that allocations and mappings make
abbrev pub request_of : Members → Data → Data
request_of allocations mappings = object (member (codes "allocations") (object allocations) (member (codes "mappings") mappings no_members))

-- A value as a request in order: its allocations as they are, and its mappings in order; its other members are left out. There is none where one of the two is
-- missing or isn't so, nor where the value has a float anywhere, whose text isn't known.
unfoldable pub request_in_order : Data → Option Data
request_in_order d =
    if has_float d then None
    else option_and_then (λ allocations. option_map (request_of allocations) (option_and_then mappings_in_order (object_at (codes "mappings") d)))
    (object_at (codes "allocations") d)

-- ---- the answer read

-- the value that bytes are as JSON
abbrev pub value_read : List ℕ → Option Data
value_read bytes = if is_utf8 bytes then read bytes else None

-- the items of the array of requests of an answer
abbrev pub requests_in : Data → Option Items
requests_in d = option_and_then as_array (get (codes "allocation_requests") d)

-- the text of a value as a request in order
abbrev pub text_in_order : Data → Option (List ℕ)
text_in_order d = option_map compact_text (request_in_order d)

-- the texts of the requests of an answer, in its order; none where it is malformed
unfoldable pub answer_read : List ℕ → Option (List (List ℕ))
answer_read bytes = option_and_then (λ ds. each text_in_order (items_listed ds)) (option_and_then requests_in (value_read bytes))

-- ---- what is told

-- a text is one of these
abbrev pub is_among : List (List ℕ) → List ℕ → Bool
is_among texts t = list_any (bytes_eq t) texts

-- The query has no limit, or an answer of so many requests has fewer than it. (A limit keeps some of the service's in an order of its own.)
abbrev pub is_whole : Option ℕ → ℕ → Bool
is_whole None count = true
is_whole (Some limit) count = nat_lt count limit

-- a list that the answer hasn't: its token
unfoldable pub here_line : List Provider → List ℕ → List ℕ
here_line all list = codes "only here: " ++ line all list

-- a text of the answer that is no list's
unfoldable pub there_line : List ℕ → List ℕ
there_line t = codes "only the service: " ++ t ++ 10 ∷ []

-- how many lists the answer has
unfoldable pub same_line : ℕ → List ℕ
same_line count = codes "the same: " ++ decimal count ++ 10 ∷ []

-- the greatest count that is told
abbrev pub most_told : ℕ
most_told = 18446744073709551615

-- the lines of those lists whose text isn't known, in order, where the answer is whole
abbrev pub lines_here : Bool → (List ℕ → Bool) → List Provider → Asked → List (List ℕ) → List (List ℕ)
lines_here false known all asked lists = []
lines_here true known all asked lists = map (here_line all) (filter (λ list. not (known (request_text all asked list))) lists)

-- how many lists have a text that is known
abbrev pub count_known : (List ℕ → Bool) → List Provider → Asked → List (List ℕ) → ℕ
count_known known all asked lists = length (filter (λ list. known (request_text all asked list)) lists)

-- the lines of those texts that aren't ours
abbrev pub lines_there : (List ℕ → Bool) → List (List ℕ) → List (List ℕ)
lines_there ours ts = map there_line (filter (λ t. not (ours t)) ts)

-- the lines that tell a difference of lists and the texts of an answer: the lists first, then the texts in byte order, each once
abbrev pub differences : List Provider → Asked → List (List ℕ) → List (List ℕ) → List (List ℕ)
differences all asked lists answer =
    lines_here (is_whole asked.limit (length answer)) (is_among answer) all asked lists
    ++ lines_there (is_among (map (request_text all asked) lists)) (rising text_cmp answer)

-- these, and how many lists the answer has
unfoldable pub told_lines : List Provider → Asked → List (List ℕ) → List (List ℕ) → List (List ℕ)
told_lines all asked lists answer = differences all asked lists answer ++ same_line (min (count_known (is_among answer) all asked lists) most_told) ∷ []

-- the status of a comparison with these differences
abbrev pub status_of : List (List ℕ) → ℕ
status_of [] = 0
status_of (text ∷ texts) = 1

unfoldable pub told_status : List Provider → Asked → List (List ℕ) → List (List ℕ) → ℕ
told_status all asked lists answer = status_of (differences all asked lists answer)

-- ---- the candidates beside an answer

-- what is told of all candidates, whatever the query's limit, and the texts of an answer
abbrev pub compared_text : List Provider → Asked → List (List ℕ) → List ℕ
compared_text all asked answer = joined (told_lines all asked (candidates all asked) answer)

-- 0 where no line tells a difference, else 1
abbrev pub compared_status : List Provider → Asked → List (List ℕ) → ℕ
compared_status all asked answer = told_status all asked (candidates all asked) answer
