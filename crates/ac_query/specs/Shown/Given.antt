-- What a pair gives, shown.
use Rattle.std.specs.Option.{option_map}
use Rattle.ac_base.specs.Names.{suffix_bytes}
use Rattle.ac_query.specs.declared.reading.given.Part as rust_part
use Rattle.ac_query.specs.declared.reading.given.Part.TheVariants as part
use Rattle.ac_query.specs.declared.reading.given.Given as rust
use Rattle.ac_query.specs.declared.reading.given.Given.TheVariants as variant
use Rattle.ac_query.specs.Shown.{needs_shown, traits_shown, suffixes_shown}
use Rattle.ac_query.specs.Shown.Groups.{rule_shown, any_of_shown}
use Rattle.ac_query.specs.Pairs.Values.{Part, needs, traits, any_of, aggregates, tree, Given, in_group, root_traits, policy, subtree, at_most}

abbrev pub part_shown : rust_part.Part → Part
part_shown (part.Needs m) = needs (needs_shown m)
part_shown (part.Traits t) = traits (traits_shown t)
part_shown (part.AnyOf a) = any_of (any_of_shown a)
part_shown (part.Aggregates r) = aggregates (rule_shown r)
part_shown (part.Tree id) = tree id

abbrev pub given_shown : rust.Given → Given
given_shown (variant.Group g p) = in_group (option_map suffix_bytes g) (part_shown p)
given_shown (variant.RootTraits t) = root_traits (traits_shown t)
given_shown (variant.Policy p) = policy p
given_shown (variant.Subtree s) = subtree (suffixes_shown s)
given_shown (variant.AtMost n) = at_most n
