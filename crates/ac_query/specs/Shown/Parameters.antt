-- What parameters show.
use Rattle.std.specs.Option.{option_map}
use Rattle.ac_base.specs.Names.{suffix_bytes}
use Rattle.ac_query.specs.declared.reading.parameter.Parameter as rust
use Rattle.ac_query.specs.declared.reading.parameter.Parameter.TheVariants as variant
use Rattle.ac_query.specs.Pairs.Parameters.{Parameter, of_group, root_required, group_policy, same_subtree, limit}

abbrev pub parameter_shown : rust.Parameter → Parameter
parameter_shown (variant.Group f g) = of_group f (option_map suffix_bytes g)
parameter_shown variant.RootRequired = root_required
parameter_shown variant.GroupPolicy = group_policy
parameter_shown variant.SameSubtree = same_subtree
parameter_shown variant.Limit = limit
