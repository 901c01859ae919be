-- The candidates of a query in order, and pages of them.
use Rattle.std.specs.Prelude.{ℕ, Bool, true, List, map, length, take, Option, Some, None}
use Rattle.std.specs.List.{filter}
use Rattle.ac_query.specs.Asked.{Asked, slots_of}
use Rattle.ac_cloud.specs.World.{Provider, id_at}
use Rattle.ac_rules.specs.Lists.{all_lists, lex_lt}
use Rattle.ac_rules.specs.Judge.{is_candidate}

-- of all lists of one provider for each slot, those that are candidates
unfoldable pub candidates : List Provider → Asked → List (List ℕ)
candidates all asked = filter (λ t. is_candidate all asked t) (all_lists (length all) (length (slots_of asked)))

-- the ids of a list of providers
abbrev pub ids_of : List Provider → List ℕ → List ℕ
ids_of all t = map (λ ix. id_at all ix) t

-- the ids of a list are after these; without any, every list is
abbrev pub is_after : List Provider → Option (List ℕ) → List ℕ → Bool
is_after all None t = true
is_after all (Some x) t = lex_lt x (ids_of all t)

-- the candidates after a list of ids, which needs to be no candidate; without one, all
unfoldable pub rest : List Provider → Asked → Option (List ℕ) → List (List ℕ)
rest all asked x = filter (λ t. is_after all x t) (candidates all asked)

-- the first n of some lists; without a limit, all
abbrev pub cut : Option ℕ → List (List ℕ) → List (List ℕ)
cut None ts = ts
cut (Some n) ts = take n ts

-- a page: the first n candidates after a list of ids
abbrev pub page : List Provider → Asked → Option (List ℕ) → Option ℕ → List (List ℕ)
page all asked x n = cut n (rest all asked x)
