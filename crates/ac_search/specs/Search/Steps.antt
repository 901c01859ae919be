-- What one step of a walk does.
use Rattle.std.specs.Prelude.{◌≡◌, ℕ, ◌+◌, ◌<◌, ◌≤◌, min, suc, true, false, List, [], ◌∷◌, length, Option, None, Some}
use Rattle.ac_base.specs.Devices.{last_count, one_more}
use Rattle.ac_prune.specs.Search.{next_at}
use Rattle.ac_rules.specs.Lists.{PassesOver, lex_lt}
use Rattle.ac_search.specs.Shown.Walk.{search_in, place_in, slot_in, front_in, path_in, left_of, changed, is_spent, most_in, probes_in, may_stop, IsSame, Spends, Tries}
use Rattle.ac_search.specs.declared.walk.Walk.{Walk}
use Rattle.ac_search.specs.declared.walk.Step.{Step}
use Rattle.ac_search.specs.declared.walk.Step.TheVariants.{Given, Went, Stopped, Ended}

-- its slot has a next choice, which is p
pub record IsNext (w : Walk) (p : ℕ) : Type 0 where
  pub among : place_in w < length (slot_in w)
  pub is : p ≡ next_at (search_in w) w.depth (place_in w)

-- since its count stood at n, each slot of its path was tried, from the first difference from a list on
abbrev pub IsTried : Option (List ℕ) → ℕ → Walk → Type 0
IsTried x n w = min (n + changed x (path_in w)) last_count ≤ w.probes

-- it goes on, and nothing that is left is lost; it counts a try, unless it goes back
pub record Goes (old new : Walk) : Type 0 where
  pub same : IsSame old new
  pub left : left_of new ≡ left_of old
  pub up : lex_lt (front_in old) (front_in new) ≡ true
  pub kept : old.probes ≤ new.probes
  pub counted : old.depth ≤ new.depth → new.probes ≡ one_more old.probes
  pub tried : (x : Option (List ℕ)) (n : ℕ) → IsTried x n old → IsTried x n new

-- it takes the last provider of its path back: it passes over lists that begin with the path, and over none where it has tried all behind it
pub record Backs (old new : Walk) : Type 0 where
  pub same : IsSame old new
  pub depth : old.depth ≡ suc new.depth
  pub passes : PassesOver (path_in old) (left_of old) (left_of new)
  pub ended : length (slot_in old) ≤ place_in old → left_of new ≡ left_of old
  pub up : lex_lt (front_in old) (front_in new) ≡ true
  pub kept : new.probes ≡ old.probes
  pub tried : (x : Option (List ℕ)) (n : ℕ) → IsTried x n old → IsTried x n new

-- it goes on in its slot, over choices that lead to nothing
pub record Passes (old new : Walk) : Type 0 where
  pub same : IsSame old new
  pub path : path_in new ≡ path_in old
  pub depth : new.depth ≡ old.depth
  pub on : place_in old ≤ place_in new
  pub left : left_of new ≡ left_of old
  pub up : lex_lt (front_in new) (front_in old) ≡ false
  pub kept : old.probes ≤ new.probes

-- it goes on to the next choice of its slot, and counts the try
pub record Skips (old new : Walk) : Type 0 where
  pub same : IsSame old new
  pub path : path_in new ≡ path_in old
  pub depth : new.depth ≡ old.depth
  pub at : place_in new ≡ place_in old + 1
  pub counted : new.probes ≡ one_more old.probes

-- its path is whole, and the first list that was left
pub record Gives (old new : Walk) : Type 0 where
  pub skips : Skips old new
  pub last : suc new.depth ≡ (search_in new).width
  pub head : left_of old ≡ new.path.items ∷ left_of new

-- nothing is left
pub record Ends (old new : Walk) : Type 0 where
  pub stays : new ≡ old
  pub nothing : left_of old ≡ []

-- it has made as many tries as it may, and nothing is changed
pub record Halts (old new : Walk) : Type 0 where
  pub stays : new ≡ old
  pub may : may_stop old
  pub spent : is_spent (most_in old) (probes_in old) ≡ true

abbrev pub StepGives : Step → Walk → Walk → Type 0
StepGives Given old new = Gives old new
StepGives Went old new = Goes old new
StepGives Stopped old new = Halts old new
StepGives Ended old new = Ends old new

-- ---- Several steps

-- its path is the first list that was left
pub record Advances (old new : Walk) : Type 0 where
  pub roots : new.roots ≡ old.roots
  pub head : left_of old ≡ new.path.items ∷ left_of new
  pub tries : Tries old (Some new.path.items) new

-- it has made as many tries as it may, and nothing is lost
pub record Stops (old new : Walk) : Type 0 where
  pub may : may_stop old
  pub left : left_of new ≡ left_of old
  pub spends : Spends old new

-- nothing is left
pub record Finishes (old new : Walk) : Type 0 where
  pub roots : new.roots ≡ old.roots
  pub nothing : left_of old ≡ []
  pub none : left_of new ≡ []
  pub tries : Tries old None new
