-- Assignments with one request are the same, over the providers that tables state and for what pairs ask for.
use Rattle.ac_query.specs.Laws.Gathered.{asked_by}
use Rattle.ac_query.proofs.Pairs.Ordered.{query_in_order}
use Rattle.ac_report.proofs.Assigning.{requests_differ}
use Rattle.ac_run.specs.Laws.{StatedRequestsDiffer}
use Rattle.ac_tables.specs.Tables.{world_stated}
use Rattle.ac_tables.proofs.ProvidersStated.{providers_in_order}

pub stated_requests_differ : StatedRequestsDiffer
stated_requests_differ tables version pairs t u =
    requests_differ (world_stated tables).providers (asked_by version pairs) t u (providers_in_order tables) (query_in_order version pairs)
