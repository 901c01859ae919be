-- Slots that have the same choices, and what these choices have for them.
use Rattle.std.specs.Prelude.{◌≡◌, ℕ, ◌/◌, ◌<◌, Bool, if◌then◌else◌, min, bytes_eq, List, length, slice_index}
use Rattle.ac_base.specs.Names.{class_bytes}
use Rattle.ac_query.specs.Asked.{Asked, Slot, slots_of}
use Rattle.ac_cloud.specs.World.{Provider}
use Rattle.ac_prune.specs.Ahead.{load_of, asks_much, lone_much}
use Rattle.ac_prune.specs.Left.Accounts.{providers_in, asked_in}
use Rattle.ac_prune.specs.QuerySearch.{choice_of}
use Rattle.ac_prune.specs.declared.hosts.column.Column.{Column}

-- so many pieces, or one at most where each is for a slot that is to have a provider for itself
abbrev pub piece : Bool → ℕ → ℕ
piece lone n = if lone then min n 1 else n

-- each of some choices has the pieces of an amount that its room has
abbrev pub ArePiecesAmong : List ℕ → List ℕ → ℕ → Bool → List ℕ → Type 0
ArePiecesAmong rooms choices amount lone pieces =
    (j : ℕ) → j < length choices → slice_index pieces (slice_index choices j) ≡ piece lone (slice_index rooms (slice_index choices j) / amount)

-- the weight of slots with these choices; others weigh nothing
abbrev pub weight_among : List Provider → Asked → List ℕ → (Slot → ℕ) → Slot → ℕ
weight_among all asked choices weight slot = if bytes_eq (choice_of all asked slot) choices then weight slot else 0

-- 1 for a slot that asks so much of a class or more, and is to have a provider for itself where that is wanted
abbrev pub asks_so : Asked → List ℕ → ℕ → Bool → Slot → ℕ
asks_so asked class amount lone slot = if lone then lone_much asked class amount slot else asks_much class amount slot

-- 1 for such a slot with these choices
abbrev pub asks_alike : Column → List ℕ → ℕ → Bool → Slot → ℕ
asks_alike column choices amount lone slot =
    weight_among (providers_in column.ledger.now) (asked_in column.ledger.now) choices (asks_so (asked_in column.ledger.now) (class_bytes column.class.now) amount lone) slot

-- how many there are
abbrev pub count_alike : Column → List ℕ → ℕ → Bool → ℕ
count_alike column choices amount lone = load_of (asks_alike column choices amount lone) (slots_of (asked_in column.ledger.now))
