-- The next list in order, and the lists that are still to come.
use Rattle.std.specs.Prelude.{ℕ, ◌+◌, ◌-◌, ◌==◌, ◌&&◌, Bool, true, false, nat_lt, List, [], ◌∷◌, ◌++◌, map, length, replicate, if◌then◌else◌, Option, None, Some}
use Rattle.std.specs.List.{flat_map, range_with_len}
use Rattle.ac_rules.specs.Lists.{all_lists}
use Rattle.ac_rules.specs.declared.plain.odometer.Stage.{Stage}
use Rattle.ac_rules.specs.declared.plain.odometer.Stage.TheVariants.{Fresh, Given, Ended}

-- what comes after a first number and k more: the same number before what comes after those, or the next number, below n, before zeros
abbrev pub successor_by : ℕ → ℕ → ℕ → Option (List ℕ) → Option (List ℕ)
successor_by n first k (Some more) = Some (first ∷ more)
successor_by n first k None = if nat_lt (first + 1) n then Some ((first + 1) ∷ replicate k 0) else None

-- the next list of as many numbers below n
abbrev pub successor : ℕ → List ℕ → Option (List ℕ)
successor n [] = None
successor n (first ∷ more) = successor_by n first (length more) (successor n more)

-- these lists, each behind a number from a on below n
abbrev pub headed : ℕ → List (List ℕ) → ℕ → List (List ℕ)
headed n lists a = flat_map (λ first. map (λ t. first ∷ t) lists) (range_with_len a (n - a))

-- the lists of as many numbers below n that come after a list: those with the same first number, and those with a later one
abbrev pub lists_after : ℕ → List ℕ → List (List ℕ)
lists_after n [] = []
lists_after n (first ∷ more) = map (λ t. first ∷ t) (lists_after n more) ++ headed n (all_lists n (length more)) (first + 1)

-- the lists of numbers below n that are still to come
abbrev pub ahead : ℕ → Stage → List ℕ → List (List ℕ)
ahead n Fresh list = list ∷ lists_after n list
ahead n Given list = lists_after n list
ahead n Ended list = []

abbrev pub has_ended : Stage → Bool
has_ended Fresh = false
has_ended Given = false
has_ended Ended = true

-- where a walk through the lists of k numbers below n begins: at its end where there are none
abbrev pub start : ℕ → ℕ → Stage
start n k = if (n == 0) && nat_lt 0 k then Ended else Fresh
