-- The providers that tables state are in order.
use Rattle.ac_tables.proofs.Common.{List, map, ap, All, nat_cmp_total, get_or-map, length-map, Row, IsRising, providers_said, gathered, no_provider}
use Rattle.ac_tables.specs.Laws.{ProvidersInOrder}
use Rattle.ac_tables.specs.Tables.{ids_of, world_stated}
use Rattle.ac_cloud.proofs.InOrder.{in_order}
use Rattle.ac_tables.proofs.Records.ProviderIds.{Fits, said_fit, ids_fit}
use Rattle.ac_cloud.proofs.Rising.{rising_from_sorted}
use Rattle.ac_base.proofs.Sorted.SortedSets.{rising_sorted}

rise_stated : (rows : List Row) → IsRising (ids_of rows)
unfolding ids_of
rise_stated rows = rising_from_sorted _ (rising_sorted nat_cmp_total (map (λ p. p.id) (providers_said rows)))

fit_stated : (rows : List Row) → All Fits (ids_of rows)
unfolding ids_of
fit_stated rows = ids_fit (providers_said rows) (said_fit rows)

pub providers_in_order : ProvidersInOrder
unfolding world_stated
providers_in_order t =
    let ids = ids_of t.providers in
    in_order (map (gathered t) ids) ids (length-map ids (gathered t)) (λ i h. ap (λ p. p.id) (get_or-map (gathered t) ids i 0 no_provider h)) (rise_stated t.providers) (fit_stated t.providers)
