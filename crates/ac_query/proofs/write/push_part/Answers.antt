use Rattle.ac_query.proofs.WrittenIds.{id_is_text}
use Rattle.ac_query.proofs.write.push_part.Goals as goal

pub unreachable-requires : goal.unreachable-requires
unreachable-requires c = c.in-Err.ensures.cases.0 (rw c.text-bytes.ensures (id_is_text c.args.id))
