use Rattle.std.specs.List.{join_with_byte}
use Rattle.ac_run.specs.Wanted.Named.{query_with_ids}
use Rattle.ac_run.proofs.EachFound.{pair_mapped}
use Rattle.ac_run.proofs.wanted.named.query.query_with_ids.Goals as goal

pub returns-in-Err-clause-fault : goal.returns-in-Err-clause-fault
unfolding query_with_ids
returns-in-Err-clause-fault c called are = pair_mapped (join_with_byte 38) _ c.in-Err.fault (c.in-Err.ensures.fault called are)
