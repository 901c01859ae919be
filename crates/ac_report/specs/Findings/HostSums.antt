-- The text of `hosts --sum`: a header, a row for the roots that fit, and one for each thing that roots lack, with the number of roots.
use Rattle.std.specs.Prelude.{ℕ, Bool, ◌+◌, ◌-◌, ◌*◌, ◌==◌, nat_lt, List, [], ◌∷◌, ◌++◌, map, length, codes, Option, None, Some}
use Rattle.std.specs.Fmt.{decimal}
use Rattle.std.specs.List.{filter, flat_map, range_with_len}
use Rattle.csv.specs.Writing.{default_writer, row_text}
use Rattle.ac_cloud.specs.World.{Provider}
use Rattle.ac_query.specs.Asked.{Asked, slots_of}
use Rattle.ac_find.specs.Lacking.{lack_at}
use Rattle.ac_find.specs.declared.lacks.Stage.{Stage}
use Rattle.ac_find.specs.declared.lacks.Stage.TheVariants as stage
use Rattle.ac_find.specs.declared.lacks.Lack.{Lack}
use Rattle.ac_find.specs.declared.lacks.Lack.TheVariants as lack
use Rattle.ac_report.specs.Findings.HostRows.{asks_of, lack_name, roots_told, roots_within, slot_shown}

-- ---- What roots may lack

-- the tests of a slot, in their order
abbrev pub stages : List Stage
stages = stage.Inventory ∷ stage.Units ∷ stage.Traits ∷ stage.Aggregates ∷ stage.Tree ∷ stage.Room ∷ []

abbrev pub lacks_of_slot : ℕ → List Lack
lacks_of_slot number = map (λ test. lack.Slot number test) stages

-- all that a root may lack of so many slots: first what is of no slot, in the order in which it is tested; then slot by slot
abbrev pub possible_lacks : ℕ → List Lack
possible_lacks slots = lack.RootTraits ∷ lack.RequiredTraits ∷ lack.Together ∷ flat_map (λ s. lacks_of_slot (s + 1)) (range_with_len 0 slots)

-- ---- How many lack it

-- a number for each: two roots lack the same where it is the same
abbrev pub stage_number : Stage → ℕ
stage_number stage.Inventory = 0
stage_number stage.Units = 1
stage_number stage.Traits = 2
stage_number stage.Aggregates = 3
stage_number stage.Tree = 4
stage_number stage.Room = 5

abbrev pub lack_number : Option Lack → ℕ
lack_number None = 0
lack_number (Some lack.RootTraits) = 1
lack_number (Some lack.RequiredTraits) = 2
lack_number (Some lack.Together) = 3
lack_number (Some (lack.Slot slot test)) = 6 * slot + stage_number test

-- what each of these roots lacks
abbrev pub lacks_of_roots : List Provider → Asked → List ℕ → List (Option Lack)
lacks_of_roots all asked roots = map (lack_at all asked) roots

-- how many of these are this
abbrev pub count_lacks : List (Option Lack) → Option Lack → ℕ
count_lacks found lacks = length (filter (λ other. lack_number other == lack_number lacks) found)

-- ---- The rows

abbrev pub sum_columns : List (List ℕ)
sum_columns = codes "hosts" ∷ codes "slot" ∷ codes "lacks" ∷ codes "asks" ∷ []

abbrev pub fits_row : ℕ → List (List ℕ)
fits_row count = decimal count ∷ [] ∷ codes "fits" ∷ [] ∷ []

-- with what the slot asks that is lacked
abbrev pub sum_row : Asked → Lack × ℕ → List (List ℕ)
sum_row asked sum = decimal sum.1 ∷ slot_shown (Some sum.0) ∷ lack_name (Some sum.0) ∷ asks_of asked (Some sum.0) ∷ []

-- some things, each with the number of roots that lack it
abbrev pub counted : List (Option Lack) → List Lack → List (Lack × ℕ)
counted found kinds = map (λ kind. (kind, count_lacks found (Some kind))) kinds

-- those that so many roots lack, in their order
abbrev pub rows_of_count : Asked → List (Lack × ℕ) → ℕ → List (List (List ℕ))
rows_of_count asked sums count = map (sum_row asked) (filter (λ sum. sum.1 == count) sums)

-- from those that so many roots lack down to those that one lacks
abbrev pub rows_falling : Asked → List (Lack × ℕ) → ℕ → List (List (List ℕ))
rows_falling asked sums most = flat_map (λ i. rows_of_count asked sums (most - i)) (range_with_len 0 most)

abbrev pub sum_rows : Asked → List (Option Lack) → List Lack → List (List (List ℕ))
sum_rows asked found kinds = (sum_columns ∷ fits_row (count_lacks found None) ∷ []) ++ rows_falling asked (counted found kinds) (length found)

unfoldable pub sums_text : List Provider → Asked → Bool → Option ℕ → List ℕ
sums_text all asked fitting within =
    flat_map (row_text default_writer) (sum_rows asked (lacks_of_roots all asked (roots_told all asked fitting within)) (possible_lacks (length (slots_of asked))))

-- ---- What is lacking, as one text

-- a text behind a blank, where it isn't empty
abbrev pub behind_blank : List ℕ → List ℕ
behind_blank [] = []
behind_blank text = 32 ∷ text

-- with what the slot asks that is lacked
abbrev pub lack_text : Asked → Lack → List ℕ
lack_text asked kind = lack_name (Some kind) ++ behind_blank (asks_of asked (Some kind))

abbrev pub lack_told : Asked → Lack × ℕ → List ℕ × ℕ
lack_told asked sum = (lack_text asked sum.0, sum.1)

-- Each thing that roots lack, with the number of roots that lack it.
unfoldable pub lack_counts : List Provider → Asked → List (List ℕ × ℕ)
lack_counts all asked =
    map (lack_told asked) (filter (λ sum. nat_lt 0 sum.1) (counted (lacks_of_roots all asked (roots_within all None)) (possible_lacks (length (slots_of asked)))))
