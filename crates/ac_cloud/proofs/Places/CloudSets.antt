-- A cloud's parts, as the accessors of a cloud ask of them.
use Rattle.ac_cloud.proofs.Common.{All, IsStrictlySortedBy, text_cmp, nat_cmp, entry_class, ◌≡◌, map, length, trait_bytes, lists_of, Cloud}
use Rattle.ac_cloud.proofs.Places.CloudFacts.{parts, size, id_here, place_here, parent_here, root_here, root_inside, inventory_records_here, traits_here, aggregates_here, name_here}

module _ (c : Cloud) where
  -- as many of each part as there are providers
  pub parents_sized : length c.parents.items ≡ length c.ids.ids.items
  parents_sized = (parts c).forest.with_parents

  pub roots_sized : length c.roots.items ≡ length c.ids.ids.items
  roots_sized = (parts c).forest.with_roots

  pub entries_sized : length (lists_of c.entries) ≡ length c.ids.ids.items
  entries_sized = (parts c).with_entries

  pub traits_sized : length (lists_of c.traits) ≡ length c.ids.ids.items
  traits_sized = (parts c).with_traits

  pub aggregates_sized : length (lists_of c.aggregates) ≡ length c.ids.ids.items
  aggregates_sized = (parts c).with_aggregates

  pub names_sized : length (lists_of c.names) ≡ length c.ids.ids.items
  names_sized = (parts c).with_names

  pub sharing_sized : length c.sharing.items ≡ length c.ids.ids.items
  sharing_sized = (parts c).with_sharing

  pub anchors_sized : length c.anchors.places.items ≡ length c.ids.ids.items
  anchors_sized = (parts c).with_anchors

  pub classes_rise : All (λ es. IsStrictlySortedBy text_cmp (map entry_class es)) (lists_of c.entries)
  classes_rise = (parts c).classes_rise

  pub names_rise : All (λ names. IsStrictlySortedBy text_cmp (map trait_bytes names)) (lists_of c.traits)
  names_rise = (parts c).names_rise

  pub ids_rise : All (λ all. IsStrictlySortedBy nat_cmp all) (lists_of c.aggregates)
  ids_rise = (parts c).aggregates_rise

-- what shows how the parts of a cloud are sized, and what they say
pub ruleset here = (size, id_here, place_here, parent_here, root_here, root_inside, inventory_records_here, traits_here, aggregates_here, name_here, parents_sized, roots_sized, entries_sized, traits_sized, aggregates_sized, names_sized, sharing_sized, anchors_sized, classes_rise, names_rise, ids_rise)
