use Rattle.ac_cloud.proofs.Common.{◌<◌, ◌∙◌, ℕ, Bool, false, List, [], get_or, length, sym, ap, subst, arith, AreParents, ArePlaces, length-map, get_or-map, shares_by, lists_of}
use Rattle.ac_cloud.specs.Cloud.CloudParts.{BelongTogether}
use Rattle.ac_cloud.proofs.Places.WorldFacts.{numbered_root, are_parents}
use Rattle.ac_cloud.proofs.cloud.Cloud.build.Goals as goal

pub find_anchors-requires-clause-inside : goal.find_anchors-requires-clause-inside
find_anchors-requires-clause-inside c =
    let ids = c.args.parts.ids.ids.items in
    let forest = c.requires.forest in
    subst (λ (l : List ℕ). ArePlaces (length l) l) (sym c.deref.ensures.value)
    (λ (i : ℕ) (h : i < length c.args.parts.roots.items).
    let inside : i < length ids = omega (arith, h, forest.with_roots) in
    let r = numbered_root ids c.args.parts.parents.items [] [] [] [] c.args.parts.ids.rising forest.within i inside in
    omega (arith, forest.rooted i inside, r.0, forest.with_roots))

pub walk-requires-clause-known : goal.walk-requires-clause-known
walk-requires-clause-known c =
    let forest = c.requires.forest in
    subst AreParents (sym c.deref-3.ensures.value) (are_parents c.args.parts.parents.items (length c.args.parts.ids.ids.items) forest.with_parents forest.within)

pub invariant_of-result : goal.invariant_of-result
unfolding BelongTogether
invariant_of-result c =
    let forest = c.requires.forest in
    let sized = forest.with_roots in
    let traits = lists_of c.args.parts.traits in
    let marked = rw (c.deref.ensures.value, c.deref-2.ensures.value) at c.in_ok-anchors.ensures.marked in
    let alone = rw (c.deref.ensures.value, c.deref-2.ensures.value) at c.in_ok-anchors.ensures.alone in
    record {
      whole = record {
        forest = forest;
        with_entries = c.requires.entries;
        with_traits = c.requires.traits;
        with_aggregates = c.requires.aggregates;
        with_names = c.requires.names;
        with_sharing = ap length c.in_ok-sharing.ensures ∙ length-map traits shares_by ∙ c.requires.traits;
        with_anchors = c.in_ok-anchors.ensures.length ∙ ap length c.deref.ensures.value ∙ sized;
        classes_rise = c.requires.classes_rise;
        names_rise = c.requires.names_rise;
        aggregates_rise = c.requires.aggregates_rise;
        visited = rw c.deref-3.ensures.value at c.in_ok-visits.ensures;
        shared = λ (i : ℕ) h. ap (λ (l : List Bool). get_or l i false) c.in_ok-sharing.ensures ∙ get_or-map shares_by traits i [] false (omega (arith, h, c.requires.traits));
        joined = rw c.deref.ensures.value at c.in_ok-anchors.ensures.joined;
        marked = λ (j : ℕ) h. marked j (omega (arith, h, sized));
        alone = λ (j : ℕ) h. alone j (omega (arith, h, sized));
      };
    }
