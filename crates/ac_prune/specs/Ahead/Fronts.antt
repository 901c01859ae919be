-- Which choices lead to nothing behind the path of a front.
use Rattle.std.specs.Prelude.{ℕ, ◌<◌, ◌≤◌, [], ◌∷◌, ◌++◌, slice_index}
use Rattle.ac_prune.specs.Left.Accounts.{providers_in, asked_in}
use Rattle.ac_prune.specs.Search.{Search, IsDead}
use Rattle.ac_prune.specs.QuerySearch.{search_of}
use Rattle.ac_prune.specs.declared.front.Front.{Front}

-- the search of its query
abbrev pub search_at : Front → Search
search_at f = search_of (providers_in f.ledger.now) (asked_in f.ledger.now)

-- no candidate goes on from its path by a provider
abbrev pub LeadsNowhere : Front → ℕ → Type 0
LeadsNowhere f p = IsDead (search_at f) (f.path.now ++ p ∷ [])

-- none goes on by a choice from one place on, up to another
abbrev pub LeadNowhere : Front → ℕ → ℕ → Type 0
LeadNowhere f from to = (i : ℕ) → from ≤ i → i < to → LeadsNowhere f (slice_index f.choices.now i)
