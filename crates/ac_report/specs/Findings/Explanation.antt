-- The text of an explanation: a line for each slot, one for the trees, what nobody has, whether there is a candidate; where there is none, whether
-- there would be one without one of the things that are asked of several slots together, and why there is none; and where the service may answer otherwise.
pub mod Candidates
pub mod Differing
pub mod Nobody
pub mod Shown
pub mod SlotRules
use Rattle.std.specs.Prelude.{ℕ, ◌+◌, ◌==◌, Bool, ◌&&◌, ◌||◌, true, false, if◌then◌else◌, List, [], ◌∷◌, ◌++◌, get_or, length, map, nat_lt, codes, position, Option, None, Some, unwrap_or}
use Rattle.std.specs.Fmt.{decimal}
use Rattle.std.specs.List.{flat_map, range_with_len}
use Rattle.ac_query.specs.Asked.{Asked, Group, Slot, slots_of}
use Rattle.ac_cloud.specs.World.{Provider}
use Rattle.ac_find.specs.Explained.{SlotCounts, SlotTold, TreeCounts, slot_counts, slot_told, tree_counts}
use Rattle.ac_find.specs.Apart.{first_apart}
use Rattle.ac_rules.specs.Placed.{slot_at}
use Rattle.ac_rules.specs.Together.{is_empty}
use Rattle.ac_report.specs.Findings.Asks.{needs_text}
use Rattle.ac_report.specs.Findings.Explanation.Candidates.{FoundWithout, candidates_line, found_without, without_lines}
use Rattle.ac_report.specs.Findings.Explanation.Nobody.{nobody_lines}
use Rattle.ac_base.specs.Writing.Pieces.{listed, newline, printed, said}
use Rattle.ac_report.specs.Findings.Explanation.Differing.{differs_lines}
use Rattle.ac_report.specs.Findings.Explanation.SlotRules.{aggregates_asked, traits_asked, tree_asked}

-- ---- A slot

-- a slot by its number and the suffix of its group, behind a mark
unfoldable pub slot_name : List ℕ → ℕ → Slot → List ℕ
slot_name mark number slot = said (mark ∷ codes "slot " ∷ decimal number ∷ codes " \"" ∷ printed slot.suffix ∷ codes "\"" ∷ [])

-- and by what it asks
abbrev pub slot_asked : List ℕ → ℕ → Slot → List ℕ
slot_asked mark number slot = slot_name mark number slot ++ needs_text (codes " ") slot.needs

-- how many of all providers meet what it asks
unfoldable pub slot_counted : ℕ → SlotCounts → List ℕ
slot_counted providers c =
    said
    (codes ": units " ∷ decimal c.units ∷ codes " of " ∷ decimal providers ∷ codes ", traits " ∷ decimal c.traits ∷ codes ", aggregates " ∷ decimal c.aggregates
    ∷ codes ", tree " ∷ decimal c.tree ∷ codes ", room " ∷ decimal c.room ∷ [])

-- the mark before the class at a place: a bracket before the first
abbrev pub room_mark : ℕ → List ℕ
room_mark k = if k == 0 then codes " (" else codes ", "

-- how many have room for a class, behind a mark
unfoldable pub room_text : List ℕ → List ℕ → ℕ → List ℕ
room_text mark class room = said (mark ∷ class ∷ codes " " ∷ decimal room ∷ [])

-- the most that is left of a class, behind a mark
unfoldable pub left_text : List ℕ → ℕ → List ℕ
left_text mark left = said (mark ∷ codes "largest left " ∷ decimal left ∷ [])

-- the class at a place with its room, where that is told
abbrev pub room_at : List (List ℕ × ℕ) → List ℕ → ℕ → List ℕ
room_at needs rooms k = if nat_lt k (length rooms) then room_text (room_mark k) (get_or needs k ([], 0)).0 (get_or rooms k 0) else []

-- the most that is left of it, where that is told: behind a bracket, or behind the room
abbrev pub left_mark : List ℕ → List ℕ
left_mark rooms = if is_empty rooms then codes " (" else codes ", "

abbrev pub left_at : SlotTold → ℕ → List ℕ
left_at told k = if nat_lt k (length told.lefts) then left_text (left_mark told.rooms) (get_or told.lefts k 0) else []

abbrev pub class_text : List (List ℕ × ℕ) → SlotTold → ℕ → List ℕ
class_text needs told k = room_at needs told.rooms k ++ left_at told k

abbrev pub classes_text : List (List ℕ × ℕ) → SlotTold → List ℕ
classes_text needs told = flat_map (class_text needs told) (range_with_len 0 (length needs))

-- the end of the line: a bracket, where classes are told
abbrev pub slot_end : SlotTold → List ℕ
slot_end told = if is_empty told.rooms && is_empty told.lefts then codes "\n" else codes ")\n"

abbrev pub slot_line : List Provider → ℕ → Slot → SlotTold → List ℕ
slot_line all number slot told =
    slot_asked [] number slot ++ (slot_counted (length all) told.counts ++ (classes_text slot.needs told ++ slot_end told))

-- a line for each slot, numbered from 1
abbrev pub slot_lines : List Provider → Asked → List ℕ
slot_lines all asked = flat_map (λ s. slot_line all (s + 1) (slot_at asked s) (slot_told all (slot_at asked s))) (range_with_len 0 (length (slots_of asked)))

-- ---- The trees

unfoldable pub trees_line : TreeCounts → List ℕ
trees_line c =
    said
    (codes "trees " ∷ decimal c.roots ∷ codes ": root traits " ∷ decimal c.root_traits ∷ codes ", each slot " ∷ decimal c.each_slot
    ∷ codes ", required traits " ∷ decimal c.required_traits ∷ newline ∷ [])

-- ---- Why there is no candidate, in one sentence: by the first of these numbers that is 0, with what is asked there

-- what none of those does that the number before counts
abbrev pub failing : SlotCounts → List ℕ
failing c =
    if c.units == 0 then codes " gives it" else if c.traits == 0 || (c.aggregates == 0 || c.tree == 0) then codes " meets" else codes " has room for it"

-- the rules that none of them meets
abbrev pub rules_failed : SlotCounts → Option (List ℕ) → Group → List ℕ
rules_failed c suffix g =
    if c.units == 0 then [] else if c.traits == 0 then traits_asked suffix g else if c.aggregates == 0 then aggregates_asked g
    else if c.tree == 0 then tree_asked g.in_tree else []

-- the last number of a slot that isn't 0, or else how many providers there are
abbrev pub last_counted : ℕ → SlotCounts → ℕ
last_counted providers c =
    if c.units == 0 then providers else if c.traits == 0 then c.units else if c.aggregates == 0 then c.traits else if c.tree == 0 then c.aggregates else c.tree

unfoldable pub fallen_text : ℕ → SlotCounts → List ℕ
fallen_text providers c = said (codes ": none of " ∷ decimal (last_counted providers c) ∷ failing c ∷ [])

-- the first slot that no provider serves, by its place
abbrev pub first_empty : List SlotTold → Option ℕ
first_empty told = position (λ t. t.counts.room == 0) told

-- a slot that no provider serves, and at which of its tests all fail
abbrev pub slot_reason : ℕ → ℕ → Slot → SlotCounts → List ℕ
slot_reason providers number slot c =
    slot_asked (codes "because ") number slot ++ (fallen_text providers c ++ (rules_failed c slot.suffix slot.group ++ newline))

-- a slot that no root serves, or two that none serves together
abbrev pub other_asked : Asked → ℕ × ℕ → List ℕ
other_asked asked pair = if pair.0 == pair.1 then [] else slot_asked (codes " and ") (pair.1 + 1) (slot_at asked pair.1)

abbrev pub apart_reason : Asked → ℕ × ℕ → List ℕ
apart_reason asked pair =
    slot_asked (codes "because no root has a provider for ") (pair.0 + 1) (slot_at asked pair.0) ++ (other_asked asked pair ++ newline)

abbrev pub each_slot_reason : Asked → Option (ℕ × ℕ) → List ℕ
each_slot_reason asked None = codes "because no root has a provider for each slot\n"
each_slot_reason asked (Some pair) = apart_reason asked pair

-- that no providers go together, and what keeps them from it, if it is one thing alone: the first of those without which there is a candidate
abbrev pub other_kept : FoundWithout → List ℕ
other_kept found =
    if unwrap_or found.policy false then codes "because no providers for the slots go together with group_policy=isolate"
    else if unwrap_or found.required false then codes "because no providers for the slots go together with all required traits"
    else codes "because no providers for the slots go together"

abbrev pub kept_by : Asked → FoundWithout → Option ℕ → List ℕ
kept_by asked found None = other_kept found
kept_by asked found (Some k) = listed (codes "because no providers for the slots go together with same_subtree=") (get_or asked.subtrees k [])

abbrev pub kept_text : Asked → FoundWithout → List ℕ
kept_text asked found = kept_by asked found (position (λ some. some) found.subtrees)

abbrev pub together_reason : Asked → FoundWithout → List ℕ
together_reason asked found = kept_text asked found ++ newline

-- where no root serves each slot: the first that none serves, or the first two
abbrev pub apart_told : List Provider → Asked → Option (ℕ × ℕ)
apart_told all asked = if (tree_counts all asked).each_slot == 0 then first_apart all asked else None

-- where each slot is served by some provider: what no root has
abbrev pub trees_reason : Asked → TreeCounts → Option (ℕ × ℕ) → FoundWithout → List ℕ
trees_reason asked c apart found =
    if c.root_traits == 0 then codes "because no root has the traits that are asked of it\n" else if c.each_slot == 0 then each_slot_reason asked apart
    else if c.required_traits == 0 then codes "because no root has all required traits\n" else together_reason asked found

abbrev pub reason_by : List Provider → Asked → FoundWithout → Option ℕ → List ℕ
reason_by all asked found (Some s) = slot_reason (length all) (s + 1) (slot_at asked s) (slot_counts all (slot_at asked s))
reason_by all asked found None = trees_reason asked (tree_counts all asked) (apart_told all asked) found

unfoldable pub reason : List Provider → Asked → FoundWithout → List ℕ
reason all asked found = reason_by all asked found (first_empty (map (slot_told all) (slots_of asked)))

-- the sentence; none where there is a candidate
unfoldable pub because_line : List Provider → Asked → Bool → List ℕ
because_line all asked true = []
because_line all asked false = reason all asked (found_without all asked false)

-- ---- The explanation

-- how far the query comes, up to whether there is a candidate
abbrev pub told_text : List Provider → Asked → Bool → List ℕ
told_text all asked found =
    slot_lines all asked ++ (trees_line (tree_counts all asked) ++ (nobody_lines all asked ++ candidates_line found))

unfoldable pub explanation_text : List Provider → Asked → Bool → List ℕ
explanation_text all asked found =
    told_text all asked found ++ (without_lines asked (found_without all asked found) ++ (because_line all asked found ++ differs_lines all asked found))

abbrev pub explanation_status : Bool → ℕ
explanation_status true = 0
explanation_status false = 1
