-- What a walk through all lists still gives.
use Rattle.std.specs.Prelude.{ℕ, List}
use Rattle.ac_rules.specs.Shown.Odometer.{ahead}
use Rattle.ac_rules.specs.declared.plain.lists.AllLists.{AllLists}

-- its own list
abbrev pub list_of : AllLists → List ℕ
list_of l = l.list.items

-- what its numbers are below
abbrev pub bound_of : AllLists → ℕ
bound_of l = l.bound

-- the lists that are still to come
abbrev pub lists_left : AllLists → List (List ℕ)
lists_left l = ahead l.bound l.stage l.list.items
