-- The lists of all providers.
use Rattle.std.specs.Prelude.{List}
use Rattle.ac_cloud.specs.ListBounds.{lists_in}
use Rattle.ac_cloud.specs.declared.lists.Lists.{Lists}

abbrev pub lists_of : {X : Type 0} → Lists X → List (List X)
lists_of lists = lists_in lists.items.items lists.starts.items
