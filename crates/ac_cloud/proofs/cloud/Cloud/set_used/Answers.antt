use Rattle.ac_cloud.proofs.Common.{◌<◌, ◌∙◌, List, [], map, length, get_or, Some, None, refl, sym, ap, subst, arith, All, lists_of, class_bytes, trait_bytes, entry_class, Entry, text_cmp, IsStrictlySortedBy}
use Rattle.std.proofs.Common.{set, length-set}
use Rattle.std.proofs.lemmas.List.Elements.{All-set}
use Rattle.ac_cloud.specs.Cloud.CloudParts.{BelongTogether}
use Rattle.ac_cloud.specs.Cloud.CloudWorld.{providers_of, root_lists_of}
use Rattle.ac_cloud.specs.Cloud.Entries.{StandsAlone, entry_set}
use Rattle.ac_cloud.proofs.Places.AmountFacts.{classes_kept, providers_kept, providers_set, some_entry}
use Rattle.ac_cloud.proofs.Places.CloudFacts.{inside, parts}
use Rattle.ac_cloud.proofs.cloud.Cloud.set_used.Goals as goal

rises : List Entry → Type 0
rises es = IsStrictlySortedBy text_cmp (map entry_class es)

pub invariant_of-self : goal.invariant_of-self
unfolding BelongTogether rises
invariant_of-self c =
    let cloud = c.args.self.now in
    let p = parts cloud in
    let lists = lists_of cloud.entries in
    let here : c.args.ix < length lists = omega (arith, inside cloud c.args.ix c.requires, p.with_entries) in
    let alone = subst (λ es. StandsAlone (class_bytes c.args.class.now) es (Some c.in-Some.place)) c.of.ensures c.in-Some.ensures in
    let d = some_entry (get_or lists c.args.ix []) c.in-Some.place alone.inside in
    let e = c.set_used.ensures d in
    let news = set (get_or lists c.args.ix []) c.in-Some.place (entry_set c.args.used (get_or (get_or lists c.args.ix []) c.in-Some.place d)) in
    record {
      whole = record {
        forest = p.forest;
        with_entries = ap length e ∙ length-set lists c.args.ix news ∙ p.with_entries;
        with_traits = p.with_traits;
        with_aggregates = p.with_aggregates;
        with_names = p.with_names;
        with_sharing = p.with_sharing;
        with_anchors = p.with_anchors;
        classes_rise = subst (All rises) (sym e)
            (All-set rises lists c.args.ix news
            (subst (IsStrictlySortedBy text_cmp) (sym (classes_kept c.args.used (get_or lists c.args.ix []) c.in-Some.place d alone.inside)) (p.classes_rise c.args.ix [] here))
            p.classes_rise);
        names_rise = p.names_rise;
        aggregates_rise = p.aggregates_rise;
        visited = p.visited;
        shared = p.shared;
        joined = p.joined;
        marked = p.marked;
        alone = p.alone;
      };
    }

pub returns-in-Some-clause-providers : goal.returns-in-Some-clause-providers
unfolding providers_of
returns-in-Some-clause-providers c =
    let cloud = c.args.self.now in
    let lists = lists_of cloud.entries in
    let alone = subst (λ es. StandsAlone (class_bytes c.args.class.now) es (Some c.in-Some.place)) c.of.ensures c.in-Some.ensures in
    let d = some_entry (get_or lists c.args.ix []) c.in-Some.place alone.inside in
    rw (c.set_used.ensures d)
    (providers_set cloud.ids.ids.items cloud.parents.items lists (map (map trait_bytes) (lists_of cloud.traits)) (lists_of cloud.aggregates) (lists_of cloud.names)
    c.args.ix (omega (arith, inside cloud c.args.ix c.requires, (parts cloud).with_entries)) (class_bytes c.args.class.now) c.args.used c.in-Some.place d alone)

pub returns-in-Some-clause-root_lists : goal.returns-in-Some-clause-root_lists
unfolding root_lists_of
returns-in-Some-clause-root_lists c = refl

pub returns-in_default-clause-providers : goal.returns-in_default-clause-providers
unfolding providers_of
returns-in_default-clause-providers c =
    let cloud = c.args.self.now in
    let lists = lists_of cloud.entries in
    let here : c.args.ix < length lists = omega (arith, inside cloud c.args.ix c.requires, (parts cloud).with_entries) in
    let alone = subst (λ es. StandsAlone (class_bytes c.args.class.now) es None) c.of.ensures c.in_default.ensures in
    providers_kept cloud.ids.ids.items cloud.parents.items lists (map (map trait_bytes) (lists_of cloud.traits)) (lists_of cloud.aggregates) (lists_of cloud.names)
    c.args.ix here (class_bytes c.args.class.now) c.args.used alone
