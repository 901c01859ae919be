-- What a query asks for, without one of the things that it asks of several slots together.
use Rattle.std.specs.Prelude.{ℕ, List, [], map, Option, Some, None}
use Rattle.std.specs.List.{remove}
use Rattle.ac_query.specs.Asked.{Asked, Group}

-- without its policy
abbrev pub without_policy : Asked → Asked
without_policy a = record a { policy = None }

-- without its k-th `same_subtree`
abbrev pub without_subtree : ℕ → Asked → Asked
without_subtree k a = record a { subtrees = remove a.subtrees k }

-- a group, which requires no trait if it has no suffix; what it forbids stays
abbrev pub relaxed : Option (List ℕ) × Group → Option (List ℕ) × Group
relaxed (None, g) = (None, record g { required = []; any_of = [] })
relaxed (Some s, g) = (Some s, g)

-- without the traits that the group without a suffix requires
abbrev pub without_required : Asked → Asked
without_required a = record a { groups = map relaxed a.groups }
