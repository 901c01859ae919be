use Rattle.ac_tables.proofs.Common.{IsStrictlySortedBy, text_cmp, TextMap, UsedInventory, ◌≡◌, ◌∙◌, ℕ, Option, List, map, length, refl, sym, ap, subst, sum_by, length-map, trait_bytes, records_of, providers_said, said_name, said_parent, inventories_said, traits_said, aggregates_said, inventories_of, names_of, aggregates_of, gathered, option_and_then, rank, AreKin, class_pair, with_used_lists, lists_of, own_rows, map-id, length_permutation}
use Rattle.ac_tables.specs.Tables.{ids_of, world_stated}
use Rattle.ac_cloud.specs.Cloud.Numbered.{numbered}
use Rattle.ac_cloud.specs.Cloud.CloudWorld.{sizes_of}
use Rattle.ac_tables.specs.Source.{tables_of}
use Rattle.ac_cloud.specs.Cloud.Forests.{IsForest}
use Rattle.ac_tables.proofs.Places.BuildFacts.{forest}
use Rattle.ac_tables.proofs.Places.JoinFacts.{entries_rise}
use Rattle.ac_tables.proofs.StatedWorld.{stated, counted, same_sizes}
use Rattle.ac_tables.proofs.read.CloudFromTables.read.Goals as goal
use Rattle.ac_tables.proofs.read.CloudFromTables.read.Goals.{In_ok-usages}

pub build-requires-clause-forest : goal.build-requires-clause-forest
build-requires-clause-forest c =
    let said = providers_said (records_of c.args.src.now.providers.now) in
    let kin = c.in_ok-providers.ensures.kin in
    subst (λ (l : List ℕ). IsForest (length l) c.in_ok-providers.providers.parents.items c.in_ok-providers.providers.roots.items) (sym c.in_ok-inventories.ensures.ids)
    (forest c.in_ok-providers.providers.ids.ids.items said kin.known c.in_ok-providers.providers.parents.items c.in_ok-providers.ensures.parents c.in_ok-providers.providers.roots.items c.in_ok-providers.ensures.count c.in_ok-providers.ensures.roots kin.ends)

pub build-requires-clause-classes_rise : goal.build-requires-clause-classes_rise
build-requires-clause-classes_rise c =
    entries_rise (IsStrictlySortedBy text_cmp) (lists_of c.in_ok-entries.entries) (map (map class_pair) (own_rows c.in_ok-usages.usages)) (own_rows c.in_ok-inventories.inventories.rows) c.in_ok-entries.ensures.entries c.in_ok-inventories.inventories.rise

pub returns-clause-world : goal.returns-clause-world
unfolding ids_of world_stated
returns-clause-world c =
    let t = tables_of c.args.src.now in
    let ids = c.in_ok-inventories.inventories.ids.ids.items in
    let first = c.in_ok-providers.providers.ids.ids.items in
    let same : ids ≡ first = c.in_ok-inventories.ensures.ids in
    let all : ids ≡ ids_of t.providers = same ∙ c.in_ok-providers.ensures.ids in
    let inventories = c.in_ok-inventories.ensures.value ∙ ap (map (inventories_of (inventories_said t.inventories))) (sym same) in
    let usages = c.in_ok-usages.ensures.value in
    let names = c.in_ok-traits.ensures.value in
    let aggregates = c.in_ok-aggregates.ensures.value in
    let said = providers_said t.providers in
    let kin = subst (λ (l : List ℕ). AreKin l said) (sym same) c.in_ok-providers.ensures.kin in
    let entries = c.in_ok-entries.ensures.entries in
    let parents = subst (λ (l : List ℕ). c.in_ok-providers.providers.parents.items ≡ map (λ id. option_and_then (rank l) (said_parent said id)) l) (sym same) c.in_ok-providers.ensures.parents in
    let us = map (map class_pair) (own_rows c.in_ok-usages.usages) in
    let ss = map (map class_pair) (own_rows c.in_ok-inventories.inventories.rows) in
    let ns = map (map trait_bytes) (lists_of c.in_ok-traits.traits) in
    let gs = lists_of c.in_ok-aggregates.aggregates in
    let ls = lists_of c.in_ok-providers.providers.names in
    let called = c.in_ok-providers.ensures.names ∙ ap (map (said_name said)) (sym same) in
    let providers =
    c.in_ok-build.ensures.providers
    ∙ ap (λ (l : List (TextMap UsedInventory)). numbered ids c.in_ok-providers.providers.parents.items l ns gs ls) entries
    ∙ ap (λ (l : List (Option ℕ)). numbered ids l (with_used_lists us ss) ns gs ls) parents
    ∙ stated t ids us ss ns gs ls kin usages inventories names aggregates called
    ∙ ap (map (gathered t)) all in
    let s1 = c.len.ensures.value ∙ ap length all in
    let s2 = c.count.ensures ∙ sym (length-map c.in_ok-inventories.inventories.rows.rows.items _) ∙ length_permutation _ _ c.in_ok-inventories.ensures.said in
    let s3 = c.count-2.ensures ∙ c.in_ok-usages.ensures.count in
    let s4 = c.count-3.ensures.sum
    ∙ counted (map trait_bytes) (λ l. length-map l trait_bytes) (lists_of c.in_ok-traits.traits) (names_of (traits_said t.traits)) ids names
    ∙ ap (sum_by (λ id. length (names_of (traits_said t.traits) id))) all in
    let s5 = c.count-4.ensures.sum
    ∙ counted (λ (l : List ℕ). l) (λ l. refl) (lists_of c.in_ok-aggregates.aggregates) (aggregates_of (aggregates_said t.aggregates)) ids (map-id gs ∙ aggregates)
    ∙ ap (sum_by (λ id. length (aggregates_of (aggregates_said t.aggregates) id))) all in
    let sizes = c.in_ok-build.ensures.sizes ∙ same_sizes (sizes_of _) (world_stated t).sizes s1 s2 s3 s4 s5 in
    λ i. record { providers = providers i; sizes = sizes i }
