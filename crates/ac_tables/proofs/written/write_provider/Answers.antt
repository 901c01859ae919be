use Rattle.std.proofs.Common.{◌≡◌, ◌<◌, true, false, length, map, arith, sym}
use Rattle.std.proofs.lemmas.Bool.Decides.{nat_tests}
use Rattle.std.proofs.lemmas.List.{length-map}
use Rattle.ac_cloud.specs.Cloud.Entries.{entry_pair}
use Rattle.ac_tables.specs.UsageRows.{is_used}
use Rattle.ac_tables.proofs.UsageRows.Written.{item_at, row_more, row_same}
use Rattle.ac_tables.proofs.written.write_provider.Goals as goal
use Rattle.ac_tables.proofs.written.write_provider.Goals.{then-used-gt0+in_ok-write_usage, else-used-gt0}

pub loop-entry-preserved : goal.loop-entry-preserved
loop-entry-preserved c =
    let entries = c.entries-entries.result.now in
    let i = c.loop-entry.entry-index in
    let x = c.entry-item.result in
    let low : i < length entries = omega arith in
    let inside : i < length (map entry_pair entries) = omega (arith, length-map entries entry_pair) in
    let is = item_at entry_pair entries i x low c.entry-item.is in
    elim c.if-used-gt0.branch [
      | then-used-gt0+in_ok-write_usage w ↦ λ before h.
          let here : is_used (entry_pair x) ≡ true = let some = w.if-used-gt0.true in let same = c.used.ensures in grind (arith, nat_tests) in
          rw (w.rows-is, sym (row_more c.id-id.result before (map entry_pair entries) i (entry_pair x) inside is here)) (w.in_ok-write_usage.ensures _ (c.loop-entry.invariant before h))
      | else-used-gt0 w ↦ λ before h.
          let away : is_used (entry_pair x) ≡ false = let none = w.if-used-gt0.false in let same = c.used.ensures in grind (arith, nat_tests) in
          rw (w.rows-is, sym (row_same c.id-id.result before (map entry_pair entries) i (entry_pair x) inside is away)) (c.loop-entry.invariant before h)
    ]
