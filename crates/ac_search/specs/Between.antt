-- The least list of places that a token stands for, and the open lists between a token and a list.
use Rattle.std.specs.Prelude.{ℕ, ◌+◌, ◌&&◌, ◌==◌, zero, suc, Bool, true, not, nat_lt, cond, List, [], ◌∷◌, length, take, Option, Some, None}
use Rattle.ac_query.specs.Asked.{Asked, slots_of}
use Rattle.ac_cloud.specs.World.{Provider, id_at}
use Rattle.ac_rules.specs.Judge.{is_open}
use Rattle.ac_rules.specs.Lists.{lex_lt}
use Rattle.ac_rules.specs.Pages.{ids_of}
use Rattle.ac_search.specs.Search.{below, is_up_to}

-- ---- Tokens

-- the first place whose provider has no id below one; past the end where there is none
abbrev pub rank_of : List Provider → ℕ → ℕ
rank_of [] id = 0
rank_of (p ∷ all) id = cond (nat_lt p.id id) (suc (rank_of all id)) 0

-- some provider has an id
abbrev pub is_known : List Provider → ℕ → Bool
is_known all id = nat_lt (rank_of all id) (length all) && (id_at all (rank_of all id) == id)

-- the least list of places, of k at most, from which on the ids of lists come after these
abbrev pub least_after : List Provider → ℕ → List ℕ → List ℕ
least_after all k [] = []
least_after all zero (id ∷ ids) = []
least_after all (suc zero) (id ∷ ids) = cond (is_known all id) (rank_of all id + 1) (rank_of all id) ∷ []
least_after all (suc (suc k)) (id ∷ ids) = rank_of all id ∷ cond (is_known all id) (least_after all (suc k) ids) []

-- without a token, every list
abbrev pub least_of : List Provider → ℕ → Option (List ℕ) → List ℕ
least_of all k None = []
least_of all k (Some ids) = least_after all k ids

-- ---- Between a token and a list

-- not before some ids cut to its length; without ids, every list
abbrev pub is_from : List Provider → Option (List ℕ) → List ℕ → Bool
is_from all None q = true
is_from all (Some ids) q = not (lex_lt (ids_of all q) (take (length q) ids))

-- the open lists of fewer providers than slots, with all their fronts, that are neither before some ids nor after a list, each cut to their length
abbrev pub open_between : List Provider → Asked → Option (List ℕ) → Option (List ℕ) → List (List ℕ)
open_between all asked ids y = below (λ q. is_open all asked q && (is_from all ids q && is_up_to y q)) (length all) (length (slots_of asked)) []
