use Rattle.ac_cloud.proofs.Common.{◌≡◌, ◌∙◌, ◌<◌, ◌+◌, ◌-◌, ℕ, List, None, [], length, take, drop, drop-cons, sym, ap, arith, get_or-map, get_or_read, list_items}
use Rattle.ac_cloud.proofs.Places.CloudFacts.{inside, parts}
use Rattle.ac_cloud.proofs.Places.AnchorFacts.{anchors_listed, anchors_unlisted}
use Rattle.ac_cloud.proofs.cloud.Cloud.anchors.Goals as goal

pub index-requires-in-Some : goal.index-requires-in-Some
index-requires-in-Some c =
    let cloud = c.args.self.now in
    let list = anchors_listed cloud c.args.ix c.in-Some.place (inside cloud c.args.ix c.requires) (sym (get_or_read cloud.anchors.places.items _ _ (omega (arith, inside cloud c.args.ix c.requires, (parts cloud).with_anchors)) c.index.ensures None) ∙ c.in-Some.is) in
    omega (arith, list.0, cloud.anchors.lists.ok.0)

pub returns-in-Some : goal.returns-in-Some
returns-in-Some c =
    let cloud = c.args.self.now in
    let places = cloud.anchors.places.items in
    let h = inside cloud c.args.ix c.requires in
    let k : c.args.ix < length places = omega (arith, h, (parts cloud).with_anchors) in
    let list = anchors_listed cloud c.args.ix c.in-Some.place h (sym (get_or_read places _ _ k c.index.ensures None) ∙ c.in-Some.is) in
    c.as_slice.ensures.value ∙ ap list_items c.index-in-Some.ensures ∙ sym (get_or-map list_items cloud.anchors.lists.items c.in-Some.place c.index-in-Some.result.now [] list.0) ∙ list.1

pub returns-in-None : goal.returns-in-None
returns-in-None c =
    let cloud = c.args.self.now in
    let places = cloud.anchors.places.items in
    let h = inside cloud c.args.ix c.requires in
    let one : c.args.ix + 1 - c.args.ix ≡ 1 = omega arith in
    let room : c.args.ix < length cloud.roots.items = omega (arith, h, (parts cloud).forest.with_roots) in
    ap (λ (n : ℕ). take n (drop c.args.ix c.deref.result.now)) one
    ∙ ap (λ (l : List ℕ). take 1 (drop c.args.ix l)) c.deref.ensures.value
    ∙ ap (λ (l : List ℕ). take 1 l) (drop-cons cloud.roots.items c.args.ix 0 room)
    ∙ anchors_unlisted cloud c.args.ix h (sym (get_or_read places _ _ (omega (arith, h, (parts cloud).with_anchors)) c.index.ensures None) ∙ c.in-None.is)
