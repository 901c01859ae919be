use Rattle.std.proofs.Common.{codes}
use Rattle.ac_base.proofs.Small.{handed_on}
use Rattle.clap.specs.Words.{found_of, rows_of}
use Rattle.ac_words.specs.Words.{aggregate_kinds, aggregate_of}
use Rattle.ac_words.proofs.Faulted.{tells_first}
use Rattle.ac_words.proofs.words.entries.check_aggregates.Goals as goal

pub returns-in_err-check_aggregate-clause-fault : goal.returns-in_err-check_aggregate-clause-fault
returns-in_err-check_aggregate-clause-fault c =
    let rows = rows_of (found_of c.args.entries.now) in
    handed_on c.from_residual.result _ _ c.from_residual.ensures.1
    (tells_first (aggregate_kinds (aggregate_of (codes "in") rows)) (aggregate_kinds (aggregate_of (codes "zone") rows)) c.in_err-check_aggregate.field-0.0
    c.in_err-check_aggregate.ensures.fault)
