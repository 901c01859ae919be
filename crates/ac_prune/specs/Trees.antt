-- The choices of slots by tree and by grove.
pub mod Keys
use Rattle.std.specs.Prelude.{◌≡◌, ℕ, ◌<◌, ◌≤◌, true, List, [], length, get_or, slice_index, slice_index_or}
use Rattle.std.specs.List.{list_any, range_with_len}
use Rattle.std.specs.Global.{Vec}
use Rattle.ac_query.specs.Asked.{Asked, slots_of}
use Rattle.ac_cloud.specs.World.{Provider, anchors_of, is_available_at}
use Rattle.ac_rules.specs.Placed.{slot_at}
use Rattle.ac_prune.specs.QuerySearch.{choice_of}
use Rattle.ac_prune.specs.Trees.Keys.{key_of, is_there, IsUnder}
use Rattle.ac_prune.specs.declared.trees.by_tree.Places.{Places}
use Rattle.ac_prune.specs.declared.trees.groves.Groves.{Groves}
use Rattle.ac_prune.specs.declared.trees.wide.Wide.{Wide}
use Rattle.ac_prune.specs.declared.ahead.Ahead.{Ahead}

-- the grove of each root of a list is among some groves
abbrev pub HaveGroves : List ℕ → List ℕ → List ℕ → Type 0
HaveGroves of_roots list groves = (r : ℕ) → is_there list r ≡ true → is_there groves (slice_index of_roots r) ≡ true

-- so it is among those of the list, of each list of roots
pub record AreGroves (lists : List (List ℕ)) (groves : Groves) : Type 0 where
  pub count : length groves.of_lists.items ≡ length lists
  pub each : (k : ℕ) (d : Vec ℕ) → k < length lists → HaveGroves groves.of_roots.items (get_or lists k []) (slice_index_or groves.of_lists.items k d).items

-- each choice has its place in each tree in which it is available, or in the tree's grove
pub record IsByTree (all : List Provider) (choices groves : List ℕ) (places : Places) : Type 0 where
  pub count : places.count ≡ length choices
  pub placed : (i r : ℕ) → i < length choices → r < length all → is_available_at all (slice_index choices i) r ≡ true → IsUnder places.keys.items (slice_index groves r) r i

-- it has the first providers by tree, each as the choice at its own place
abbrev pub HasProviders : List Provider → Ahead → Type 0
HasProviders all ahead = IsByTree all (range_with_len 0 ahead.trees.count) ahead.groves.items ahead.trees

-- each of the first choices has its place in its part
pub record IsByPart (choices parts : List ℕ) (places : Places) : Type 0 where
  pub count : places.count ≤ length choices
  pub placed : (i : ℕ) → i < places.count → is_there places.keys.items (key_of (slice_index parts (slice_index choices i)) i) ≡ true

-- so have those of each slot
pub record AreByPart (all : List Provider) (asked : Asked) (parts : List ℕ) (places : List Places) : Type 0 where
  pub count : length places ≡ length (slots_of asked)
  pub each : (s : ℕ) (d : Places) → s < length (slots_of asked) → IsByPart (choice_of all asked (slot_at asked s)) parts (slice_index_or places s d)

-- the choices of each slot but the first are by tree
pub record AreByTree (all : List Provider) (asked : Asked) (groves : List ℕ) (slots : List Places) : Type 0 where
  pub count : length slots ≡ length (slots_of asked)
  pub each : (s : ℕ) (d : Places) → 0 < s → s < length (slots_of asked) → IsByTree all (choice_of all asked (slot_at asked s)) groves (slice_index_or slots s d)

-- the groves of each provider's trees are among those that it has
pub record HaveAllGroves (all : List Provider) (of_roots : List ℕ) (of_providers : List (Vec ℕ)) : Type 0 where
  pub count : length of_providers ≡ length all
  pub each : (p : ℕ) (d : Vec ℕ) → p < length all → HaveGroves of_roots (anchors_of all p) (slice_index_or of_providers p d).items

-- each choice has its place in each of its groves
pub record IsByGrove (of_providers : List (Vec ℕ)) (choices : List ℕ) (places : Places) : Type 0 where
  pub count : places.count ≡ length choices
  pub placed : (i g : ℕ) → i < length choices → ((d : Vec ℕ) → is_there (slice_index_or of_providers (slice_index choices i) d).items g ≡ true) → is_there places.keys.items (key_of g i) ≡ true

-- each choice that is available in a tree of some provider has its place in a grove of that provider
pub record MeetInGroves (all : List Provider) (of_providers : List (Vec ℕ)) (choices : List ℕ) (places : Places) : Type 0 where
  pub count : places.count ≡ length choices
  pub met : (p r i : ℕ) (d : Vec ℕ) → p < length all → r < length all → i < length choices → is_there (anchors_of all p) r ≡ true → is_available_at all (slice_index choices i) r ≡ true
      → list_any (λ g. is_there places.keys.items (key_of g i)) (slice_index_or of_providers p d).items ≡ true

-- so it is with those of each slot
pub record AllMeetInGroves (all : List Provider) (asked : Asked) (wide : Wide) : Type 0 where
  pub providers : length wide.of_providers.items ≡ length all
  pub count : length wide.slots.items ≡ length (slots_of asked)
  pub each : (s : ℕ) (d : Places) → s < length (slots_of asked) → MeetInGroves all wide.of_providers.items (choice_of all asked (slot_at asked s)) (slice_index_or wide.slots.items s d)
