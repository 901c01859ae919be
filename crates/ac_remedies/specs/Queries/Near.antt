-- Which parameter is meant by a name that is none.
use Rattle.std.specs.Prelude.{ℕ, ◌||◌, Bool, nat_eq, List, ◌++◌, map, codes, Option, Some, None, if◌then◌else◌}
use Rattle.std.specs.Char.{is_ascii_alphabetic, to_ascii_lowercase}
use Rattle.std.specs.List.{filter, starts_with}
use Rattle.std.specs.Str.{bytes_eq}

-- the letters of a name, as small ones; all else is left out
abbrev pub letters_of : List ℕ → List ℕ
letters_of name = map to_ascii_lowercase (filter is_ascii_alphabetic name)

-- the parameter of which these are the letters, perhaps with an `s` more or fewer at the end, or without its first word
unfoldable pub parameter_of : List ℕ → Option (List ℕ)
parameter_of letters =
    if bytes_eq letters (codes "resource") || bytes_eq letters (codes "resources") then Some (codes "resources")
    else if bytes_eq letters (codes "required") then Some (codes "required")
    else if bytes_eq letters (codes "memberof") then Some (codes "member_of")
    else if bytes_eq letters (codes "intree") then Some (codes "in_tree")
    else if bytes_eq letters (codes "rootrequired") then Some (codes "root_required")
    else if bytes_eq letters (codes "grouppolicy") || bytes_eq letters (codes "policy") then Some (codes "group_policy")
    else if bytes_eq letters (codes "samesubtree") || bytes_eq letters (codes "subtree") then Some (codes "same_subtree")
    else if bytes_eq letters (codes "limit") || bytes_eq letters (codes "limits") then Some (codes "limit")
    else None

-- the parameter that a name nearly is
abbrev pub near : List ℕ → Option (List ℕ)
near name = parameter_of (letters_of name)

-- the remedy, where the parameter is found or not
unfoldable pub meant : Option (List ℕ) → List ℕ
meant (Some parameter) = codes "no parameter; " ++ (parameter ++ codes "?")
meant None = codes "no parameter; there are resources, required, member_of, in_tree, root_required, group_policy, same_subtree and limit"

-- a name behind `&` as HTML writes it
abbrev pub is_behind_entity : List ℕ → Bool
is_behind_entity name = starts_with nat_eq name (codes "amp;")

unfoldable pub entity_remedy : List ℕ
entity_remedy = codes "the log wrote &amp; for &: put & in its place"

abbrev pub near_remedy : List ℕ → List ℕ
near_remedy name = if is_behind_entity name then entity_remedy else meant (near name)
