use Rattle.ac_tables.proofs.Common.{◌≡◌, ◌+◌, arith, rules, false, true, length, fields_of, is_past, length_permutation}
use Rattle.ac_tables.proofs.Gathered.GatheredRows.{gathered_table, gathered_fine, gathered_told, gathered_again, gathered_past, rows_read}
use Rattle.ac_tables.proofs.reader.gather.gather.Goals as goal

pub returns-in-Some-clause-fault : goal.returns-in-Some-clause-fault
returns-in-Some-clause-fault g c =
    rw c.TABLE.ensures
    (gathered_again _ _ _ _ _ _ _ _ _ _ g.met.T.Key.Ord.total (g.met.T.Record.keyed c.args.beside.now (fields_of c.args.header.now)) (g.met.T.Record.apart c.args.beside.now)
    _ _ _ _ c.read_rows-ended.ensures c.put_in_order.ensures.sorted c.put_in_order.ensures.ties c.put_in_order.ensures.same c.in-Some.row c.in-Some.ensures.unique (rw c.deref.ensures.value at (c.in-Some.ensures.least c.in-Some.ensures.unique)))

pub overflow_cast-last : goal.overflow_cast-last
overflow_cast-last g c = omega (arith, rows_read _ _ _ _ _ _ _ _ c.read_rows-ended.ensures, c.len.ensures, c.requires.few)

pub overflow_add-last : goal.overflow_add-last
overflow_add-last g c = omega (arith, rows_read _ _ _ _ _ _ _ _ c.read_rows-ended.ensures, c.len.ensures, c.requires.few)

pub returns-then-is_past-clause-fault : goal.returns-then-is_past-clause-fault
returns-then-is_past-clause-fault g c =
    let past : is_past g.T.Record.MOST (length c.put_in_order.new.rows.items) ≡ true = search rules in
    rw c.TABLE-then-is_past.ensures
    (gathered_past _ _ _ _ _ _ _ _ _ _ g.met.T.Key.Ord.total (g.met.T.Record.keyed c.args.beside.now (fields_of c.args.header.now)) (g.met.T.Record.apart c.args.beside.now)
    _ _ _ _ c.read_rows-ended.ensures c.put_in_order.ensures.sorted c.put_in_order.ensures.ties c.put_in_order.ensures.same (c.len.result + 1) past (λ is. rw c.deref.ensures.value at (c.in_default.ensures.least is)) (omega (arith, c.len.ensures)))

pub returns-in-Ok-clause-few : goal.returns-in-Ok-clause-few
returns-in-Ok-clause-few g c =
    omega (arith, rows_read _ _ _ _ _ _ _ _ c.read_rows-ended.ensures, length_permutation _ _ c.put_in_order.ensures.same, c.requires.few)

pub returns-in-Ok-clause-gathered : goal.returns-in-Ok-clause-gathered
returns-in-Ok-clause-gathered g c =
    let fits : is_past g.T.Record.MOST (length c.put_in_order.new.rows.items) ≡ false = search rules in
    gathered_table g.T.Record.TABLE _ _ _ _ _ _ _ _ _ g.met.T.Key.Ord.total (g.met.T.Record.keyed c.args.beside.now (fields_of c.args.header.now)) (g.met.T.Record.apart c.args.beside.now)
    _ _ _ _ c.read_rows-ended.ensures c.put_in_order.ensures.sorted c.put_in_order.ensures.ties c.put_in_order.ensures.same _ c.in-Ok.is fits (λ is. rw c.deref.ensures.value at (c.in_default.ensures.least is))

pub returns-in-Ok-clause-ok : goal.returns-in-Ok-clause-ok
returns-in-Ok-clause-ok g c =
    let fits : is_past g.T.Record.MOST (length c.put_in_order.new.rows.items) ≡ false = search rules in
    gathered_fine _ _ _ _ _ _ _ _ _ _ g.met.T.Key.Ord.total (g.met.T.Record.keyed c.args.beside.now (fields_of c.args.header.now)) (g.met.T.Record.apart c.args.beside.now)
    _ _ _ _ c.read_rows-ended.ensures c.put_in_order.ensures.sorted c.put_in_order.ensures.ties c.put_in_order.ensures.same _ c.in-Ok.is fits (λ is. rw c.deref.ensures.value at (c.in_default.ensures.least is))

pub overflow_add-last-in-Err : goal.overflow_add-last-in-Err
overflow_add-last-in-Err g c = omega (arith, rows_read _ _ _ _ _ _ _ _ c.read_rows-ended.ensures, c.len.ensures, c.requires.few)

pub returns-in-Err-clause-fault : goal.returns-in-Err-clause-fault
returns-in-Err-clause-fault g c =
    let fits : is_past g.T.Record.MOST (length c.put_in_order.new.rows.items) ≡ false = search rules in
    rw (c.fault_at.ensures, c.TABLE-in-Err.ensures)
    (gathered_told _ _ _ _ _ _ _ _ _ _ g.met.T.Key.Ord.total (g.met.T.Record.keyed c.args.beside.now (fields_of c.args.header.now)) (g.met.T.Record.apart c.args.beside.now)
    _ _ _ _ c.read_rows-ended.ensures c.put_in_order.ensures.sorted c.put_in_order.ensures.ties c.put_in_order.ensures.same c.in-Err.fault (c.len.result + 1 + 1) c.in-Err.is fits (λ is. rw c.deref.ensures.value at (c.in_default.ensures.least is)) (omega (arith, c.len.ensures)))
