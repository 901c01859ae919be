-- Which parameter a decoded name is.
use Rattle.std.specs.Prelude.{ℕ, Bool, ◌==◌, true, false, List, length, codes, Option, Some, None, if◌then◌else◌}
use Rattle.std.specs.Option.{option_map, option_and_then}
use Rattle.std.specs.Str.{bytes_eq}
use Rattle.ac_base.specs.Texts.{suffix_value}
use Rattle.ac_query.specs.declared.reading.parameter.Field.{Field}
use Rattle.ac_query.specs.declared.reading.parameter.Field.TheVariants as field
use Rattle.ac_query.specs.declared.version.Version.{Version}
use Rattle.ac_query.specs.Texts.{behind}
use Rattle.ac_query.specs.Versions.{has_any_of}

-- A parameter. A field without a suffix is of the unsuffixed group.
pub data Parameter : Type 0 where
  of_group : Field → Option (List ℕ) → Parameter
  root_required : Parameter
  group_policy : Parameter
  same_subtree : Parameter
  limit : Parameter

-- The group that the end of a name says: nothing, or a suffix.
unfoldable pub group_of : List ℕ → Option (Option (List ℕ))
group_of end = if length end == 0 then Some None else option_map (λ s. Some s) (suffix_value end)

-- the field of a group, where a name is its word and perhaps a suffix directly behind it
unfoldable pub field_of : List ℕ → Field → List ℕ → Option Parameter
field_of word f name = option_map (of_group f) (option_and_then group_of (behind word name))

-- the first, and where there is none the second
abbrev pub or_else : Option Parameter → Option Parameter → Option Parameter
or_else (Some p) other = Some p
or_else None other = other

-- the parameters that have no suffix
unfoldable pub plain_parameter : List ℕ → Option Parameter
plain_parameter name =
    if bytes_eq name (codes "root_required") then Some root_required
    else if bytes_eq name (codes "group_policy") then Some group_policy
    else if bytes_eq name (codes "same_subtree") then Some same_subtree
    else if bytes_eq name (codes "limit") then Some limit
    else None

-- the parameters of groups
unfoldable pub group_parameter : List ℕ → Option Parameter
group_parameter name =
    or_else (field_of (codes "resources") field.Resources name)
    (or_else (field_of (codes "required") field.Required name)
    (or_else (field_of (codes "member_of") field.MemberOf name)
    (field_of (codes "in_tree") field.InTree name)))

-- the parameter that a name is, where it is one
unfoldable pub parameter : List ℕ → Option Parameter
parameter name = or_else (plain_parameter name) (group_parameter name)

-- whether a parameter may be given more than once
abbrev pub may_repeat : Version → Parameter → Bool
may_repeat v (of_group field.Resources g) = false
may_repeat v (of_group field.Required g) = has_any_of v
may_repeat v (of_group field.MemberOf g) = true
may_repeat v (of_group field.InTree g) = false
may_repeat v root_required = false
may_repeat v group_policy = false
may_repeat v same_subtree = true
may_repeat v limit = false
