-- What providers have, list by list.
use Rattle.std.specs.Prelude.{◌≡◌, List, map}
use Rattle.ac_cloud.specs.ListsOf.{lists_of}
use Rattle.ac_change.specs.declared.draft.building.Columns.{Columns}
use Rattle.ac_change.specs.declared.draft.held.Held.{Held}

-- the entries, traits, aggregates and names of these providers
pub record AreColumns (list : List Held) (columns : Columns) : Type 0 where
  pub entries : lists_of columns.entries ≡ map (λ h. h.entries.items) list
  pub traits : lists_of columns.traits ≡ map (λ h. h.traits.items) list
  pub aggregates : lists_of columns.aggregates ≡ map (λ h. h.aggregates.items) list
  pub names : lists_of columns.names ≡ map (λ h. h.name.items) list
