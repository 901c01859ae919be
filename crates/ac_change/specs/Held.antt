-- Providers as they are held while they change.
use Rattle.std.specs.Prelude.{map}
use Rattle.ac_base.specs.Names.{trait_bytes}
use Rattle.ac_cloud.specs.Cloud.Entries.{entry_pair}
use Rattle.ac_cloud.specs.World.{Provider}
use Rattle.ac_change.specs.declared.draft.held.Held.{Held}

-- the provider that is held
abbrev pub provider_held : Held → Provider
provider_held h = record {
  id = h.id;
  name = h.name.items;
  parent = h.parent;
  entries = map entry_pair h.entries.items;
  traits = map trait_bytes h.traits.items;
  aggregates = h.aggregates.items;
}
