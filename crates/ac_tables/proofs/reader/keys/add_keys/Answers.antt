use Rattle.ac_tables.proofs.Gathered.OwnRows.{key_more}
use Rattle.ac_tables.proofs.reader.keys.add_keys.Goals as goal

pub loop-row-preserved : goal.loop-row-preserved
loop-row-preserved g c =
    rw c.in_ok-push.ensures.items
    (key_more g.K.Clone.is_clone c.args.rows.now c.loop-row.row-index c.row-item.result c.loop-row.keys.items c.in_ok-clone.field-0 c.loop-row-test.true c.row-item.is c.loop-row.invariant c.in_ok-clone.ensures.cases)
