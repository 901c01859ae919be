-- Private: how far placements have come, and how they end.
use Rattle.std.specs.Prelude.{Bool, ◌≡◌, ◌+◌, ◌-◌, ℕ, List, Option, Some, None, Result, Err, OnOk, IfOk, IfErr, length, min, false, ⊤}
use Rattle.std.specs.Option.{option_map}
use Rattle.std.specs.List.{filter}
use Rattle.ac_cloud.specs.World.{Provider}
use Rattle.ac_query.specs.Asked.{Asked}
use Rattle.ac_report.specs.Outcomes.{WritesEach}
use Rattle.ac_report.specs.Called.{line_by}
use Rattle.ac_report.specs.declared.fault.PageFault.{PageFault}
use Rattle.ac_rules.specs.Judge.{is_candidate}
use Rattle.ac_rules.specs.Pages.{candidates}
use Rattle.ac_rules.specs.Placed.{assigned}
use Rattle.ac_rules.specs.Together.{sums}
use Rattle.ac_fill.specs.Filled.{after, filled}
use Rattle.ac_fill.specs.Shown.{asked_in, with_taken, IsTakenOf}
use Rattle.ac_fill.specs.declared.placements.Filled.{Filled}
use Rattle.ac_fill.specs.declared.placements.Filling.{Filling}
use Rattle.ac_fill.specs.declared.takings.Takings.{Takings}

-- all candidates are among some lists, in their order
unfoldable pub AreAhead : List Provider → Asked → List (List ℕ) → Type 0
AreAhead all asked ls = candidates all asked ≡ filter (λ t. is_candidate all asked t) ls

-- how many placements are wanted in a world, and how many were made
pub record Stand : Type 0 where
  pub wanted : Option ℕ
  pub world : List Provider
  pub count : ℕ

-- the placements that are still to come
abbrev pub placements_at : Asked → Stand → List (List ℕ)
placements_at asked s = filled s.wanted s.world asked

-- where nothing is placed yet
abbrev pub start_of : Option ℕ → List Provider → Stand
start_of wanted all = record { wanted = wanted; world = all; count = 0 }

abbrev pub takings_of : Filling → Takings
takings_of f = f.filled.takings

-- how many placements were made
abbrev pub count_at : Filling → ℕ
count_at f = f.filled.count

-- the world after the placements so far
abbrev pub world_at : List Provider → Filling → List Provider
world_at all f = with_taken (takings_of f) all

abbrev pub stand_of : List Provider → Filling → Stand
stand_of all f = record { wanted = f.wanted; world = world_at all f; count = count_at f }

-- for the front that it keeps there is no room any more
abbrev pub IsFull : List Provider → Filling → Type 0
IsFull all f = sums (world_at all f) (assigned (asked_in (takings_of f)) f.full.items) ≡ false

-- The placements that are to come are written, by UUIDs or by names, counted and taken.
pub record Ends {W : Type 0} (taken : W → Option (List ℕ)) (fails : W → ℕ) (named : Bool) (all : List Provider) (asked : Asked) (s : Stand) (old new : W)
    (result : Result Filled PageFault) : Type 0 where
  pub writes : WritesEach taken fails ⊤ old new result (line_by named all) (placements_at asked s)
  pub count : IfOk result (λ f. f.count ≡ min (length (placements_at asked s) + s.count) 4294967295)
  pub world : IfOk result (λ f. with_taken f.takings all ≡ after s.world asked (placements_at asked s))
  pub fits : IfOk result (λ f. IsTakenOf all f.takings)

-- All placements of a list are made that are wanted: what ends well behind them ends well.
pub record PlacesAll {W : Type 0} (taken : W → Option (List ℕ)) (fails : W → ℕ) (named : Bool) (all : List Provider) (asked : Asked) (s then : Stand)
    (rest : List (List ℕ)) (old new : W) (result : Result ⊤ PageFault) : Type 0 where
  pub ahead : OnOk result ((then.wanted ≡ Some 0 → ⊥) → AreAhead then.world asked rest)
  pub goes : OnOk result ((r : Result Filled PageFault) (end : W) → Ends taken fails named all asked then new end r → Ends taken fails named all asked s old end r)
  pub stops : IfErr result (λ e. Ends taken fails named all asked s old new (Err e))

-- ---- what is counted alone

-- as many of a number of placements as are wanted
abbrev pub as_wanted : Option ℕ → ℕ → ℕ
as_wanted None n = n
as_wanted (Some wanted) n = min n wanted

-- how many are wanted behind so many
abbrev pub fewer : Option ℕ → ℕ → Option ℕ
fewer wanted n = option_map (λ w. w - n) wanted

-- From both, all placements together are as many, and leave the same world.
pub record LeadsTo (asked : Asked) (s then : Stand) : Type 0 where
  pub count : min (length (placements_at asked then) + then.count) 4294967295 ≡ min (length (placements_at asked s) + s.count) 4294967295
  pub world : after then.world asked (placements_at asked then) ≡ after s.world asked (placements_at asked s)

-- Placements of a list are counted: it may still be a candidate.
pub record CountsSome (asked : Asked) (s then : Stand) (ls : List (List ℕ)) : Type 0 where
  pub ahead : AreAhead then.world asked ls
  pub leads : LeadsTo asked s then

-- All placements of a list are counted that are wanted.
pub record CountsAll (asked : Asked) (s then : Stand) (rest : List (List ℕ)) : Type 0 where
  pub ahead : (then.wanted ≡ Some 0 → ⊥) → AreAhead then.world asked rest
  pub leads : LeadsTo asked s then
