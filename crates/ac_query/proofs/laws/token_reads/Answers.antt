use Rattle.ac_query.proofs.WrittenIds.{token_reads}
use Rattle.ac_query.proofs.laws.token_reads.Goals as goal

pub returns : goal.returns
returns c = token_reads
