-- What groups and their parts show.
use Rattle.std.specs.Prelude.{ℕ, List, map, Option}
use Rattle.std.specs.Option.{option_map}
use Rattle.ac_base.specs.Names.{class_bytes, trait_bytes, suffix_bytes}
use Rattle.ac_query.specs.declared.group.Need.{Need}
use Rattle.ac_query.specs.declared.group.AggregateRule as rule
use Rattle.ac_query.specs.declared.group.AnyOf.{AnyOf}
use Rattle.ac_query.specs.declared.group.Group as rust
use Rattle.ac_query.specs.Pairs.Values.{AggregateRule}
use Rattle.ac_query.specs.Asked.{Group}

-- the class of a need
abbrev pub need_class : Need → List ℕ
need_class n = class_bytes n.class

-- a need as its class and its amount
abbrev pub need_entry : Need → List ℕ × ℕ
need_entry n = (need_class n, n.amount.count)

abbrev pub rule_shown : rule.AggregateRule → AggregateRule
rule_shown r = record { forbids = r.forbids; ids = r.ids.items }

-- the traits of which one is asked
abbrev pub any_of_shown : AnyOf → List (List ℕ)
any_of_shown a = map trait_bytes a.names.items

-- the suffix of a group
abbrev pub suffix_of : rust.Group → Option (List ℕ)
suffix_of g = option_map suffix_bytes g.suffix

-- what is asked of a group
abbrev pub group_asked : rust.Group → Group
group_asked g = record {
  needs = map need_entry g.needs.items;
  required = map trait_bytes g.required.items;
  forbidden = map trait_bytes g.forbidden.items;
  any_of = map any_of_shown g.any_of.items;
  member_of = map rule_shown g.member_of.items;
  in_tree = g.in_tree;
}

-- a group by its suffix
abbrev pub group_entry : rust.Group → Option (List ℕ) × Group
group_entry g = (suffix_of g, group_asked g)
