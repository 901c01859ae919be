-- The providers of a cloud are in order, and the classes of each.
use Rattle.ac_cloud.proofs.Common.{◌≡◌, ◌<◌, ◌∙◌, ℕ, List, [], length, get_or, sym, ap, subst, arith, map-map, All, IsStrictlySortedBy, text_cmp, entry_pair, providers_of, provider_at, IsRising, Provider, UsedInventory, Cloud, id_at}
use Rattle.std.specs.Prelude.{◌^◌}
use Rattle.std.specs.Map.{keys_of}
use Rattle.ac_cloud.specs.Laws.{AreProviders, CloudInOrder}
use Rattle.ac_cloud.proofs.Places.CloudFacts.{id_here, inside, inventory_records_here, parts, size}

-- providers whose ids are these
pub in_order : (all : List Provider) (ids : List ℕ) → length all ≡ length ids → ((i : ℕ) → i < length ids → id_at all i ≡ get_or ids i 0) → IsRising ids → All (λ id. id < 2 ^ 128) ids → AreProviders all
in_order all ids long same rise fit = record {
  order = λ p q less inside.
      let k : q < length ids = omega (arith, inside, long) in
      omega (arith, same p (omega (arith, less, k)), same q k, rise p q less k);
  fit = λ i inside.
      let k : i < length ids = omega (arith, inside, long) in
      omega (arith, same i k, fit i 0 k);
}

pub cloud_in_order : CloudInOrder
cloud_in_order cloud = in_order (providers_of cloud) cloud.ids.ids.items (size cloud) (id_here cloud) cloud.ids.rising cloud.ids.fit

pub entries_rise : (cloud : Cloud) (ix : ℕ) → ix < length (providers_of cloud) → IsStrictlySortedBy text_cmp (keys_of (provider_at (providers_of cloud) ix).entries)
entries_rise cloud ix h =
    let k = inside cloud ix h in
    subst (IsStrictlySortedBy text_cmp) (sym (map-map (λ (e : List ℕ × UsedInventory). e.0) entry_pair _) ∙ ap keys_of (inventory_records_here cloud ix k))
    ((parts cloud).classes_rise ix [] (omega (arith, k, (parts cloud).with_entries)))
