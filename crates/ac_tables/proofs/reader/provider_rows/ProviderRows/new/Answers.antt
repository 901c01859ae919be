use Rattle.ac_tables.proofs.Common.{◌∙◌}
use Rattle.ac_tables.proofs.Gathered.OwnRows.{lists_long}
use Rattle.ac_tables.proofs.Gathered.RowOrder.{in_order_grouped}
use Rattle.ac_tables.proofs.reader.provider_rows.ProviderRows.new.Goals as goal

pub find_spans-requires-clause-grouped : goal.find_spans-requires-clause-grouped
find_spans-requires-clause-grouped g c = rw c.deref.ensures.value (in_order_grouped g.K.Ord.cmp c.args.rows.items g.met.K.Ord.total c.requires.sorted)

pub returns-clause-count : goal.returns-clause-count
returns-clause-count g c = lists_long _ _ ∙ c.in_ok-spans.ensures.count
