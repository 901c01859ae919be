-- The record that a query stands for.
use Rattle.std.specs.Prelude.{map}
use Rattle.ac_base.specs.Names.{trait_bytes}
use Rattle.ac_query.specs.declared.query.Query.{Query}
use Rattle.ac_query.specs.Asked.{Asked}
use Rattle.ac_query.specs.Shown.{suffixes_shown}
use Rattle.ac_query.specs.Shown.Groups.{group_entry}

abbrev pub asked_of : Query → Asked
asked_of q = record {
  groups = map group_entry q.groups.items;
  policy = q.policy;
  subtrees = map suffixes_shown q.subtrees.items;
  root_required = map trait_bytes q.root_required.items;
  root_forbidden = map trait_bytes q.root_forbidden.items;
  limit = q.limit;
}
