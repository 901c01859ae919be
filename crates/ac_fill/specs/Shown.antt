-- What placements have taken, beside the world as it was.
use Rattle.std.specs.Prelude.{◌≡◌, ◌+◌, ◌*◌, ◌<◌, ◌^◌, ℕ, Bool, List, map, length, slice_index}
use Rattle.ac_base.specs.Names.{class_bytes}
use Rattle.ac_cloud.specs.Amounts.{with_amounts}
use Rattle.ac_cloud.specs.World.{Provider, provider_at, used_of}
use Rattle.ac_query.specs.Asked.{Asked}
use Rattle.ac_query.specs.Shown.Queries.{asked_of}
use Rattle.ac_rules.specs.Room.{class_number}
use Rattle.ac_rules.specs.Placed.{Placed}
use Rattle.ac_rules.specs.Own.{inventory_of}
use Rattle.ac_rules.specs.Together.{has_room, sum_on}
use Rattle.ac_fill.specs.declared.takings.Takings.{Takings}

-- what its query asks
abbrev pub asked_in : Takings → Asked
asked_in t = asked_of t.query.now

-- how many providers it is of
abbrev pub count_in : Takings → ℕ
count_in t = t.count

-- the texts of its classes
abbrev pub texts_in : Takings → List (List ℕ)
texts_in t = map (λ c. class_bytes c.now) t.classes.items

-- how much is taken of a class of a provider
abbrev pub taken_in : Takings → ℕ → List ℕ → ℕ
taken_in t ix class = slice_index t.amounts.items (class_number (texts_in t) class * t.count + ix)

-- all providers, of which is used what was, and what is taken
unfoldable pub with_taken : Takings → List Provider → List Provider
with_taken t all = with_amounts (λ ix class had. had.used + taken_in t ix class) all

-- all providers, of which is used what was, what is taken, and what so many placements of the slots ask
unfoldable pub with_more : Takings → List Placed → ℕ → List Provider → List Provider
with_more t xs n all = with_amounts (λ ix class had. had.used + (taken_in t ix class + n * sum_on xs ix class)) all

-- of a class of a provider there is room for a sum where so much more is used
abbrev pub has_room_beside : Provider → List ℕ → ℕ → ℕ → Bool
has_room_beside p class more sum = has_room (inventory_of p class) (used_of p class + more) sum

-- it is of these providers, and where something is taken of one, what it then uses fits in 64 bits
pub record IsTakenOf (all : List Provider) (t : Takings) : Type 0 where
  pub count : count_in t ≡ length all
  pub small : (ix : ℕ) (class : List ℕ) → ix < length all → 0 < taken_in t ix class → used_of (provider_at all ix) class + taken_in t ix class < 2 ^ 64

-- it is of the same query, classes and providers
pub record IsSame (old new : Takings) : Type 0 where
  pub query : new.query ≡ old.query
  pub classes : new.classes.items ≡ old.classes.items
  pub count : new.count ≡ old.count

-- what a provider uses of a class fits in 64 bits, with what is taken, and what the slots ask of it
abbrev pub Fits : List Provider → Takings → List Placed → ℕ → List ℕ → Type 0
Fits all t xs ix class = used_of (provider_at all ix) class + (taken_in t ix class + sum_on xs ix class) < 2 ^ 64

-- it does so for a class that is needed
abbrev pub NeedFits : List Provider → Takings → List Placed → ℕ → List ℕ × ℕ → Type 0
NeedFits all t xs ix need = Fits all t xs ix need.0

-- it does so wherever something is asked
abbrev pub SumsFit : List Provider → Takings → List Placed → Type 0
SumsFit all t xs = (ix : ℕ) (class : List ℕ) → 0 < sum_on xs ix class → Fits all t xs ix class

-- what a provider uses of a class that is needed fits in 64 bits, with what is taken, and what so many placements of the slots ask of it
abbrev pub NeedTimesFit : List Provider → Takings → List Placed → ℕ → ℕ → List ℕ × ℕ → Type 0
NeedTimesFit all t xs n ix need = used_of (provider_at all ix) need.0 + (taken_in t ix need.0 + n * sum_on xs ix need.0) < 2 ^ 64

-- it does so wherever they ask something
abbrev pub TimesFit : List Provider → Takings → List Placed → ℕ → Type 0
TimesFit all t xs n =
    (ix : ℕ) (class : List ℕ) → 0 < n * sum_on xs ix class → used_of (provider_at all ix) class + (taken_in t ix class + n * sum_on xs ix class) < 2 ^ 64
