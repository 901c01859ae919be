-- What a draft shows.
use Rattle.std.specs.Prelude.{ℕ, List, map, Option}
use Rattle.std.specs.Option.{option_map}
use Rattle.std.specs.BTreeMap.{BTreeMap}
use Rattle.ac_base.specs.declared.name.Suffix.{Suffix}
use Rattle.ac_base.specs.Names.{suffix_bytes}
use Rattle.ac_query.specs.declared.reading.draft.GroupDraft.{GroupDraft}
use Rattle.ac_query.specs.declared.reading.draft.Draft.{Draft}
use Rattle.ac_query.specs.Shown.{needs_shown, names_shown, traits_shown, suffixes_shown}
use Rattle.ac_query.specs.Shown.Groups.{rule_shown, any_of_shown}
use Rattle.ac_query.specs.Asked.{Group, Asked}
use Rattle.ac_query.specs.Laws.Gathered.{Gathered, plain_groups, of_suffix, as_asked}

-- what is asked of a group so far
abbrev pub group_drafted : GroupDraft → Group
group_drafted g = record {
  needs = needs_shown g.needs;
  required = names_shown g.traits.required;
  forbidden = names_shown g.traits.forbidden;
  any_of = map any_of_shown g.any_of.items;
  member_of = map rule_shown g.member_of.items;
  in_tree = g.in_tree;
}

-- a group and its suffix
abbrev pub entry_shown : Suffix × GroupDraft → List ℕ × Group
entry_shown e = (suffix_bytes e.0, group_drafted e.1)

abbrev pub entries_shown : BTreeMap Suffix GroupDraft → List (List ℕ × Group)
entries_shown m = map entry_shown m.entries

-- the groups of suffixes
abbrev pub suffixed_shown : BTreeMap Suffix GroupDraft → List (Option (List ℕ) × Group)
suffixed_shown m = map of_suffix (entries_shown m)

-- the unsuffixed group, where it is there
abbrev pub plain_shown : Option GroupDraft → List (Option (List ℕ) × Group)
plain_shown plain = plain_groups (option_map group_drafted plain)

abbrev pub draft_shown : Draft → Gathered
draft_shown d = record {
  plain = option_map group_drafted d.plain;
  suffixed = entries_shown d.suffixed;
  policy = d.policy;
  subtrees = map suffixes_shown d.subtrees.items;
  root = traits_shown d.root;
  limit = d.limit;
}

-- what a draft asks for
abbrev pub draft_asked : Draft → Asked
draft_asked d = as_asked (draft_shown d)
