use Rattle.ac_cloud.proofs.Common.{◌≡◌, ◌<◌, ◌∙◌, ℕ, List, length, sym, ap, arith, is_some, Vec, lists_of, list_of}
use Rattle.ac_cloud.proofs.Places.WideAggregates.{asked_joined}
use Rattle.ac_cloud.proofs.cloud.anchors.find_anchors.Goals as goal

pub returns-clause-joined : goal.returns-clause-joined
returns-clause-joined c = λ (j k : ℕ) below is.
    let roots = c.args.roots.now in
    let aggregates = lists_of c.args.aggregates.now in
    let asked = c.in_ok-asked.asked.items in
    let inside : j < length c.args.roots.now = omega (arith, below, c.in_ok-anchors.ensures.length) in
    let same : list_of c.deref.result.now j ≡ list_of asked j = ap (λ (l : List (Vec ℕ)). list_of l j) c.deref.ensures.value in
    let some = sym (ap is_some is) ∙ c.in_ok-anchors.ensures.marked j inside in
    let list = c.in_ok-anchors.ensures.joined j k below is in (
      list.0,
      list.1 ∙ asked_joined roots aggregates c.in_ok-groups.groups.map c.in_ok-groups.ensures c.requires.inside c.args.sharing.now j inside (list_of c.deref.result.now j)
          (same ∙ c.in_ok-asked.ensures.each j (omega (arith, inside, c.requires.sharing))) (sym some),
    )
