-- The small outputs: the counts of the tables, the verdict on a list, and how many placements there are.
pub mod Parameters
pub mod Plain
pub mod QueryRows
pub mod Shown
use Rattle.std.specs.Prelude.{ℕ, ◌==◌, min, nat_le, List, [], ◌∷◌, ◌++◌, codes, length, Option, unwrap_or, if◌then◌else◌}
use Rattle.std.specs.List.{flat_map}
use Rattle.std.specs.Fmt.{decimal}
use Rattle.ac_base.specs.Writing.Pieces.{newline, said}
use Rattle.ac_cloud.specs.World.{Provider, Sizes}
use Rattle.ac_find.specs.Broken.{broken_detail}
use Rattle.ac_query.specs.Asked.{Asked}
use Rattle.ac_rules.specs.declared.verdict.Rule.{Rule}
use Rattle.ac_rules.specs.declared.verdict.Rule.TheVariants as rule
use Rattle.ac_rules.specs.declared.verdict.Verdict.{Verdict}
use Rattle.ac_rules.specs.declared.verdict.Verdict.TheVariants as verdict

-- the sizes of what the tables state
unfoldable pub counts : Sizes → List ℕ
counts s =
    said
    (codes "providers " ∷ decimal s.providers ∷ codes "\ninventories " ∷ decimal s.inventories ∷ codes "\nusages " ∷ decimal s.usages
    ∷ codes "\ntraits " ∷ decimal s.traits ∷ codes "\naggregates " ∷ decimal s.aggregates ∷ newline ∷ [])

-- a rule that is broken, by its number and its name
unfoldable pub broken_name : Rule → List ℕ
broken_name rule.Units = codes "no: rule 1 Units"
broken_name rule.SlotTraits = codes "no: rule 2 SlotTraits"
broken_name rule.Aggregates = codes "no: rule 3 Aggregates"
broken_name rule.Tree = codes "no: rule 4 Tree"
broken_name rule.Collective = codes "no: rule 5 Collective"
broken_name rule.Sums = codes "no: rule 6 Sums"
broken_name rule.Isolate = codes "no: rule 7 Isolate"
broken_name rule.Subtree = codes "no: rule 8 Subtree"
broken_name rule.Anchor = codes "no: rule 9 Anchor"

unfoldable pub broken_line : Rule → List ℕ
broken_line r = said (broken_name r ∷ newline ∷ [])

-- what is said of a list of providers
unfoldable pub verdict_text : Verdict → List ℕ
verdict_text verdict.Candidate = codes "candidate\n"
verdict_text (verdict.Broken r) = broken_line r

-- the same, with the first thing by which a rule is broken
unfoldable pub detailed_text : List Provider → Asked → List ℕ → Verdict → List ℕ
detailed_text all asked list verdict.Candidate = codes "candidate\n"
detailed_text all asked list (verdict.Broken r) = said (broken_name r ∷ codes ": " ∷ broken_detail all asked list r ∷ newline ∷ [])

abbrev pub verdict_status : Verdict → ℕ
verdict_status verdict.Candidate = 0
verdict_status (verdict.Broken r) = 1

-- how many placements are told of some: all, but no more than can be counted
abbrev pub counted : List (List ℕ) → ℕ
counted ts = min (length ts) 4294967295

-- the first class that roots are short of, with how many these are, and any later one
unfoldable pub first_short : List ℕ × ℕ → List ℕ
first_short short = said (codes ": short of " ∷ short.0 ∷ codes " at " ∷ decimal short.1 ∷ (if short.1 == 1 then codes " host" else codes " hosts") ∷ [])

unfoldable pub later_short : List ℕ × ℕ → List ℕ
later_short short = said (codes ", " ∷ short.0 ∷ codes " at " ∷ decimal short.1 ∷ [])

-- all that roots are short of
abbrev pub shorts_text : List (List ℕ × ℕ) → List ℕ
shorts_text [] = []
shorts_text (first ∷ later) = first_short first ++ flat_map later_short later

-- how many placements there are, how many there can be at most, and what roots are short of
unfoldable pub sum_text : ℕ → ℕ → List (List ℕ × ℕ) → List ℕ
sum_text least most shorts = said (codes "at least " ∷ decimal least ∷ codes ", at most " ∷ decimal most ∷ shorts_text shorts ∷ newline ∷ [])

-- 0 where as many are placed as the limit says, or without a limit one or more; else 1
abbrev pub fill_status : Option ℕ → List (List ℕ) → ℕ
fill_status limit ts = if nat_le (unwrap_or limit 1) (length ts) then 0 else 1
