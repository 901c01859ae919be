use Rattle.ac_query.proofs.WrittenIds.{id_is_text}
use Rattle.ac_report.proofs.ids.write_id.Goals as goal

pub unreachable-requires : goal.unreachable-requires
unreachable-requires c = c.in-Err.ensures.cases.0 (rw c.text.ensures (id_is_text c.args.id))
