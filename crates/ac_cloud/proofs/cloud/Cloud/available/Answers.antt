use Rattle.ac_cloud.proofs.Common.{◌∙◌, ℕ, length, nat_cmp_total, providers_of, anchors_of, is_available_at, map-id}
use Rattle.ac_cloud.proofs.Places.KeptFacts.{kept_has, kept_rise}
use Rattle.ac_base.proofs.Sorted.SearchFacts.{found, found_any}
use Rattle.ac_cloud.proofs.cloud.Cloud.available.Goals as goal

pub returns : goal.returns
returns c =
    let all = providers_of c.args.self.now in
    let list = anchors_of all c.args.ix in
    let test = is_available_at all c.args.ix in
    let place = found (λ (x : ℕ). x) nat_cmp_total list c.args.root c.binary_search.result (rw (map-id list) (kept_rise (length all) test))
    (rw c.anchors.ensures at c.binary_search.ensures.bound) (rw c.anchors.ensures at c.binary_search.ensures.position) in
    c.is_ok.ensures.value ∙ found_any (λ (x : ℕ). x) nat_cmp_total list c.args.root c.binary_search.result place
    ∙ kept_has (length all) test c.args.root (λ e. c.requires.root)
