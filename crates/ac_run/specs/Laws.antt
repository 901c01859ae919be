-- What holds of all that tables state and texts ask for.
use Rattle.std.specs.Prelude.{◌≡◌, ◌<◌, ◌^◌, ℕ, List, [], ◌∷◌, Ok}
use Rattle.std.specs.List.{AllByRecursion}
use Rattle.ac_cloud.specs.World.{Provider}
use Rattle.ac_fill.specs.Bounds.{most_placed}
use Rattle.ac_query.specs.Asked.{Asked}
use Rattle.ac_query.specs.declared.version.Version.{Version}
use Rattle.ac_query.specs.Laws.Gathered.{asked_by}
use Rattle.ac_query.specs.Pairs.{pairs_of}
use Rattle.ac_query.specs.Tokens.{ids_text}
use Rattle.ac_rules.specs.Pages.{candidates, ids_of}
use Rattle.ac_report.specs.Called.{named_line, providers_called}
use Rattle.ac_report.specs.Pages.{IsAssignment}
use Rattle.ac_report.specs.Trees.{request}
use Rattle.ac_run.specs.Capacity.{hosts_fitting, placed_first}
use Rattle.ac_run.specs.Wanted.Named.{Naming, pairs_with_ids, query_with_ids, token_with_ids}
use Rattle.ac_tables.specs.Tables.{Tables, world_stated}

-- two assignments with one request are the same, of the providers that tables state and for what pairs ask for, be they accepted or not
abbrev pub StatedRequestsDiffer : Type 0
StatedRequestsDiffer = (tables : Tables) (version : Version) (pairs : List (List ℕ × List ℕ)) (t u : List ℕ)
    → IsAssignment (world_stated tables).providers (asked_by version pairs) t
    → IsAssignment (world_stated tables).providers (asked_by version pairs) u
    → request (world_stated tables).providers (asked_by version pairs) t ≡ request (world_stated tables).providers (asked_by version pairs) u → t ≡ u

-- A query fits at no root exactly where it has no candidate; and then nothing can be placed.
pub record NoHostNoCandidate (all : List Provider) (asked : Asked) : Type 0 where
  pub none : hosts_fitting all asked ≡ 0 → candidates all asked ≡ []
  pub nowhere : candidates all asked ≡ [] → hosts_fitting all asked ≡ 0
  pub least : candidates all asked ≡ [] → placed_first all asked ≡ 0
  pub most : candidates all asked ≡ [] → most_placed all asked ≡ 0

abbrev pub HostsAreThere : Type 0
HostsAreThere = (all : List Provider) (asked : Asked) → NoHostNoCandidate all asked

-- the pairs of a query with UUIDs in place of names are its own, in their order, with UUIDs in place of names in the values of `in_tree` and `member_of`
abbrev pub NamesKeepPairs : Type 0
NamesKeepPairs = (naming : Naming) (query text : List ℕ) → query_with_ids naming query ≡ Ok text → pairs_with_ids naming (pairs_of query) ≡ Ok (pairs_of text)

-- a line by names is read as the token of its list
abbrev pub LinesAreRead : Type 0
LinesAreRead = (all : List Provider) (first : ℕ) (list : List ℕ)
    → AllByRecursion (λ id. id < 2 ^ 128) (ids_of all (first ∷ list))
    → token_with_ids (providers_called all) (named_line all (first ∷ list)) ≡ Ok (ids_text (ids_of all (first ∷ list)))
