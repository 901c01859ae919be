use Rattle.ac_cloud.proofs.Common.{◌≡◌, ◌<◌, ℕ, None, Some, Option, [], length, get_or, sym, ap, arith, get_or_read, length-map, list_items, Cloud, providers_of, anchors_of}
use Rattle.std.specs.Prelude.{MatchOption}
use Rattle.ac_cloud.specs.Cloud.CloudWorld.{root_lists_of}
use Rattle.ac_cloud.proofs.Places.CloudFacts.{inside, parts}
use Rattle.ac_cloud.proofs.Places.AnchorFacts.{anchors_listed, anchors_unlisted}
use Rattle.ac_cloud.proofs.cloud.Cloud.root_list.Goals as goal

listed : (cloud : Cloud) (ix : ℕ) (place : Option ℕ) → ix < length cloud.ids.ids.items → get_or cloud.anchors.places.items ix None ≡ place
    → MatchOption place (length (anchors_of (providers_of cloud) ix) ≡ 1)
    (λ k. (k < length (root_lists_of cloud)) × (get_or (root_lists_of cloud) k [] ≡ anchors_of (providers_of cloud) ix))
unfolding root_lists_of
listed cloud ix None h here = sym (ap length (anchors_unlisted cloud ix h here))
listed cloud ix (Some k) h here =
    let list = anchors_listed cloud ix k h here in
    (omega (arith, list.0, length-map cloud.anchors.lists.items list_items), list.1)

pub returns : goal.returns
returns c =
    let cloud = c.args.self.now in
    let places = cloud.anchors.places.items in
    let h = inside cloud c.args.ix c.requires in
    listed cloud c.args.ix _ h (sym (get_or_read places _ _ (omega (arith, h, (parts cloud).with_anchors)) c.index.ensures None))
