-- What a walk searches, where it stands, and what it has left.
use Rattle.std.specs.Prelude.{◌≡◌, ℕ, Bool, false, true, not, nat_lt, ◌+◌, ◌*◌, ◌<◌, ◌≤◌, ◌==◌, min, if◌then◌else◌, List, [], ◌∷◌, length, take, slice_index, Option, Some, None, IsSome, IfSome, Result, Ok, Err}
use Rattle.std.specs.Option.{option_map}
use Rattle.ac_base.specs.Devices.{last_count, Rises}
use Rattle.ac_query.specs.Asked.{Asked}
use Rattle.ac_query.specs.Shown.Queries.{asked_of}
use Rattle.ac_cloud.specs.Cloud.CloudWorld.{providers_of}
use Rattle.ac_cloud.specs.World.{Provider}
use Rattle.ac_prune.specs.Search.{Search, choices_at}
use Rattle.ac_search.specs.Search.{next_front, left_from}
use Rattle.ac_search.specs.Hosts.{search_at}
use Rattle.ac_search.specs.Between.{open_between}
use Rattle.ac_search.specs.declared.walk.Walk.{Walk}

-- the providers of its cloud
abbrev pub cloud_in : Walk → List Provider
cloud_in w = providers_of w.ledger.cloud.now

-- what its query asks
abbrev pub query_in : Walk → Asked
query_in w = asked_of w.ledger.query.now

-- the ids of its token
abbrev pub token_in : Walk → Option (List ℕ)
token_in w = option_map (λ ids. ids.items) w.after

-- how many tries it has made: one for each choice that it has looked at
abbrev pub probes_in : Walk → ℕ
probes_in w = w.probes

-- the most tries that it may make; none where it may make as many as it takes
abbrev pub most_in : Walk → Option ℕ
most_in w = w.most

-- it has made as many tries as it may
abbrev pub is_spent : Option ℕ → ℕ → Bool
is_spent None n = false
is_spent (Some most) n = not (nat_lt n most)

-- the list that it gave last, which is still its path; none where it has tried nothing yet
abbrev pub given_in : Walk → Option (List ℕ)
given_in w = if w.probes == 0 then None else Some w.path.items

-- how many items of a list stand from its first difference from another on
abbrev pub differing : List ℕ → List ℕ → ℕ
differing [] ys = length ys
differing (x ∷ xs) [] = 0
differing (x ∷ xs) (y ∷ ys) = if x == y then differing xs ys else length (y ∷ ys)

-- how many slots of a list are other than in the list before it, from the first such slot on; all of them where there was none
abbrev pub changed : Option (List ℕ) → List ℕ → ℕ
changed None y = length y
changed (Some x) y = differing x y

-- the marks of the roots that it looks at; none where it looks at all
abbrev pub roots_in : Walk → Option (List Bool)
roots_in w = option_map (λ marks. marks.items) w.roots

-- A search behind some ids may stop before its end: it may make fewer tries than there are providers, for each open list behind them.
abbrev pub MayStop : Option ℕ → List Provider → Asked → Option (List ℕ) → Type 0
MayStop None all asked ids = ⊥
MayStop (Some most) all asked ids = most < length all * length (open_between all asked ids None)

abbrev pub may_stop : Walk → Type 0
may_stop w = MayStop (most_in w) (cloud_in w) (query_in w) (token_in w)

-- its count of tries doesn't go past the most that it may make
abbrev pub StaysWithin : Walk → Walk → Type 0
StaysWithin old new = IfSome (most_in old) (λ most. old.probes ≤ most → new.probes ≤ most)

-- it is of the same cloud, query, token and roots, and may make as many tries
pub record IsSame (old new : Walk) : Type 0 where
  pub cloud : new.ledger.cloud ≡ old.ledger.cloud
  pub query : new.ledger.query ≡ old.ledger.query
  pub after : new.after ≡ old.after
  pub least : new.least.items ≡ old.least.items
  pub roots : new.roots ≡ old.roots
  pub most : new.most ≡ old.most

-- What a call of `next` does besides: it has made at most as many tries as there are providers, for each open list between its token and
-- the list that it gave, or the end, and no more than it may. Where it gave a list it has made a try, and one for each slot from the first on that differs from
-- the list before it, unless their count stands at its end.
pub record Tries (old : Walk) (given : Option (List ℕ)) (new : Walk) : Type 0 where
  pub cloud : cloud_in new ≡ cloud_in old
  pub query : query_in new ≡ query_in old
  pub token : token_in new ≡ token_in old
  pub bounded : probes_in new ≤ length (cloud_in old) * length (open_between (cloud_in old) (query_in old) (token_in old) given)
  pub most : most_in new ≡ most_in old
  pub within : StaysWithin old new
  pub kept : probes_in old ≤ probes_in new
  pub rises : IsSome given → Rises (probes_in old) (probes_in new)
  pub last : IfSome given (λ y. given_in new ≡ Some y)
  pub tried : IfSome given (λ y. min (probes_in old + changed (given_in old) y) last_count ≤ probes_in new)

-- a call that stops: it has made as many tries as it may
pub record Spends (old new : Walk) : Type 0 where
  pub tries : Tries old None new
  pub spent : is_spent (most_in new) (probes_in new) ≡ true

-- what a call of `next` does besides, by its answer
abbrev pub Moves : {E : Type 0} → Walk → Result (Option (List ℕ)) E → Walk → Type 0
Moves old (Ok given) new = Tries old given new
Moves old (Err e) new = Spends old new

-- ---- Private: where it stands

-- what it looks for
abbrev pub search_in : Walk → Search
search_in w = search_at (cloud_in w) (query_in w) (roots_in w)

-- the providers of its path
abbrev pub path_in : Walk → List ℕ
path_in w = take w.depth w.path.items

-- the place of the next choice, and all choices of its slot
abbrev pub place_in : Walk → ℕ
place_in w = slice_index w.places.items w.depth

abbrev pub slot_in : Walk → List ℕ
slot_in w = choices_at (search_in w) w.depth

-- the front that it tries next
abbrev pub front_in : Walk → List ℕ
front_in w = next_front (search_in w) (path_in w) w.depth (place_in w)

-- the candidates that it will still give
abbrev pub left_of : Walk → List (List ℕ)
left_of w = left_from (search_in w) w.least.items (front_in w)
