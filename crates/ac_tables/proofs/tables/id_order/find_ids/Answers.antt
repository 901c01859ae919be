use Rattle.ac_tables.proofs.Common.{sym, subst, ◌∙◌, All, IsRising}
use Rattle.ac_tables.proofs.Records.ProviderIds.{Fits, ids_fit}
use Rattle.ac_tables.proofs.Records.ProviderRecords.{ids_are, keys_rise}
use Rattle.ac_cloud.proofs.Rising.{rising_from_sorted}
use Rattle.ac_tables.proofs.tables.id_order.find_ids.Goals as goal

pub new-requires-clause-rising : goal.new-requires-clause-rising
new-requires-clause-rising c = subst IsRising (sym c.in_ok-ids.ensures) (rising_from_sorted _ (keys_rise c.requires.0 c.args.rows.now c.requires.1.table))

pub new-requires-clause-fit : goal.new-requires-clause-fit
new-requires-clause-fit c = subst (All Fits) (sym (c.in_ok-ids.ensures ∙ ids_are c.requires.0 c.args.rows.now c.requires.1.table)) (ids_fit c.requires.0 c.requires.1.fit)
