use Rattle.ac_tables.proofs.Common.{◌≡◌, ◌+◌, false, length, refl, rules, is_past}
use Rattle.ac_tables.proofs.Gathered.RowsRead.{read_more}
use Rattle.ac_tables.proofs.reader.gather.read_rows.Goals as goal

pub loop-reader-preserved : goal.loop-reader-preserved
loop-reader-preserved g c =
    let gives = rw c.if-branch.true at c.in_ok-next_row.ensures.gives in
    let within : is_past g.T.Record.MOST (length c.loop-reader.rows.items) ≡ false = search rules in
    record {
      reading = c.in_ok-next_row.ensures.goes_on c.if-branch.true;
      placed = c.columns-columns.ensures;
      so_far = read_more _ _ _ _ _ _ _ _ _ _ (c.loop-reader.number + 1) _ _ _ _ c.loop-reader.invariant.so_far gives c.in_ok-place.ensures.ok c.in_ok-place.ensures.value c.in_ok-place.ensures.inside refl refl
          c.in_ok-reserve.ensures.items c.push_reserved.ensures.items within;
    }
