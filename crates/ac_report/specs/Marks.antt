-- The parts of a body, as private clauses speak of them: texts of some requests and summaries, and marks of roots.
use Rattle.std.specs.Prelude.{◌≡◌, ◌<◌, ◌==◌, ℕ, Bool, false, List, [], ◌∷◌, ◌++◌, map, length, slice_index_or}
use Rattle.std.specs.List.{list_any}
use Rattle.ac_cloud.specs.World.{Provider, id_at, root_of}
use Rattle.ac_query.specs.Asked.{Asked}
use Rattle.ac_report.specs.Texts.{head_text, meets_root, middle_text, request_text, shown_providers, summarized, summary_piece, tail_text, with_commas}

-- the requests of lists, the first after a comma where something stands before
abbrev pub requests : List Provider → Asked → Bool → List (List ℕ) → List (List ℕ)
requests all asked later lists = with_commas later (map (request_text all asked) lists)

-- the same of summaries
abbrev pub summaries : List Provider → Bool → List ℕ → List (List ℕ)
summaries all later places = with_commas later (map (summary_piece all) places)

-- the pieces of a body: the requests of some lists, and the summaries of their trees, with traits or without
abbrev pub body_pieces : Bool → List Provider → Asked → List (List ℕ) → List (List ℕ)
body_pieces traits all asked lists =
    head_text ∷ (requests all asked false lists ++ middle_text ∷ (summaries (shown_providers traits all) false (summarized all lists) ++ tail_text ∷ []))

-- whether some lists have a provider of the root of the provider at a place
abbrev pub is_summarized : List Provider → List (List ℕ) → ℕ → Bool
is_summarized all lists ix = list_any (meets_root all (root_of all (id_at all ix))) lists

-- the provider at a place has this root
abbrev pub has_root : List Provider → ℕ → ℕ → Bool
has_root all root ix = root_of all (id_at all ix) == root

-- a mark for each provider, at the roots of the providers of some lists
pub record IsMarked (all : List Provider) (lists : List (List ℕ)) (marks : List Bool) : Type 0 where
  pub long : length marks ≡ length all
  pub at_root : (r : ℕ) → r < length all → slice_index_or marks r false ≡ list_any (meets_root all (id_at all r)) lists
