-- The record of the pairs of a query, gathered pair by pair. That it is the one that they ask for is the law `asks_once`.
use Rattle.std.specs.Prelude.{ℕ, Bool, List, [], ◌∷◌, ◌++◌, Option, Some, None, unwrap_or, map}
use Rattle.std.specs.List.{fold}
use Rattle.std.specs.Map.{lookup}
use Rattle.std.specs.BTreeMap.{insert_entry, is_at}
use Rattle.ac_base.specs.Texts.{text_cmp}
use Rattle.ac_query.specs.declared.version.Version.{Version}
use Rattle.ac_query.specs.Texts.{in_order_with}
use Rattle.ac_query.specs.Pairs.Values.{Traits, no_traits, Part, Given}
use Rattle.ac_query.specs.Pairs.{given}
use Rattle.ac_query.specs.Asked.{Group, Asked}
use Rattle.ac_query.specs.Asks.{needs_in, required_in, forbidden_in, any_of_in, rule_in, tree_in, group_part, root_required_in, root_forbidden_in, policy_in, subtree_in, limit_in}

-- what is gathered so far: the unsuffixed group, where it is there, and groups by suffix, in byte order
pub record Gathered : Type 0 where
  pub plain : Option Group
  pub suffixed : List (List ℕ × Group)
  pub policy : Option Bool
  pub subtrees : List (List (List ℕ))
  pub root : Traits
  pub limit : Option ℕ

abbrev pub empty_group : Group
empty_group = record { needs = []; required = []; forbidden = []; any_of = []; member_of = []; in_tree = None }

abbrev pub nothing : Gathered
nothing = record { plain = None; suffixed = []; policy = None; subtrees = []; root = no_traits; limit = None }

-- traits and more of them
abbrev pub joined_traits : Traits → Traits → Traits
joined_traits have more = record { required = in_order_with have.required more.required; forbidden = in_order_with have.forbidden more.forbidden }

-- what there was, with one more where there is one
abbrev pub with_some : {A B : Type 0} → (A → B → A) → A → Option B → A
with_some add a None = a
with_some add a (Some b) = add a b

-- the later of two
abbrev pub later : {A : Type 0} → A → A → A
later a b = b

-- a list with one more behind it
abbrev pub with_last : {A : Type 0} → List A → A → List A
with_last xs x = xs ++ x ∷ []

-- a group with one more part
abbrev pub with_part : Group → Part → Group
with_part g p = record {
  needs = with_some later g.needs (needs_in p);
  required = in_order_with g.required (required_in p);
  forbidden = in_order_with g.forbidden (forbidden_in p);
  any_of = with_some with_last g.any_of (any_of_in p);
  member_of = with_some with_last g.member_of (rule_in p);
  in_tree = with_some later g.in_tree (tree_in p);
}

-- a group that is perhaps there, with one more part
abbrev pub grown : Option Group → Part → Group
grown g p = with_part (unwrap_or g empty_group) p

-- groups, with one more part of the group of a suffix
abbrev pub with_suffixed : List (List ℕ × Group) → List ℕ → Part → List (List ℕ × Group)
with_suffixed groups s p = insert_entry text_cmp groups s (grown (lookup (is_at (text_cmp s)) groups) p)

-- the unsuffixed group, with one more part where that is its own
abbrev pub add_plain : Option Group → Option (List ℕ) × Part → Option Group
add_plain g (None, p) = Some (grown g p)
add_plain g (Some s, p) = g

-- the groups of suffixes, with one more part where that is of one of them
abbrev pub add_suffixed : List (List ℕ × Group) → Option (List ℕ) × Part → List (List ℕ × Group)
add_suffixed groups (None, p) = groups
add_suffixed groups (Some s, p) = with_suffixed groups s p

-- what is gathered, with what one more pair gives
abbrev pub with_given : Gathered → Given → Gathered
with_given a v = record {
  plain = with_some add_plain a.plain (group_part v);
  suffixed = with_some add_suffixed a.suffixed (group_part v);
  policy = with_some later a.policy (policy_in v);
  subtrees = with_some with_last a.subtrees (subtree_in v);
  root = record { required = in_order_with a.root.required (root_required_in v); forbidden = in_order_with a.root.forbidden (root_forbidden_in v) };
  limit = with_some later a.limit (limit_in v);
}

-- the unsuffixed group, where it is there
abbrev pub plain_groups : Option Group → List (Option (List ℕ) × Group)
plain_groups None = []
plain_groups (Some g) = (None, g) ∷ []

-- a group of a suffix
abbrev pub of_suffix : List ℕ × Group → Option (List ℕ) × Group
of_suffix e = (Some e.0, e.1)

-- what is gathered, as a record
abbrev pub as_asked : Gathered → Asked
as_asked a = record {
  groups = plain_groups a.plain ++ map of_suffix a.suffixed;
  policy = a.policy;
  subtrees = a.subtrees;
  root_required = a.root.required;
  root_forbidden = a.root.forbidden;
  limit = a.limit;
}

-- what pairs ask for
abbrev pub gathered : Version → List (List ℕ × List ℕ) → Gathered
gathered version pairs = fold with_given nothing (given version pairs)

unfoldable pub asked_by : Version → List (List ℕ × List ℕ) → Asked
asked_by version pairs = as_asked (gathered version pairs)
