-- What was gathered is the world that the tables state.
use Rattle.ac_tables.proofs.Common.{◌≡◌, ◌<◌, ◌+◌, ◌∙◌, ℕ, List, [], ◌∷◌, map, length, get_or, refl, sym, ap, ap₂, option_and_then, sum_by, fold, get_or-map, InventoryNumbers, TextMap, rank, providers_said, said_name, said_parent, inventories_said, usages_said, traits_said, aggregates_said, AreKin, Provider, with_used_lists, numbered_at, Tables, inventories_of, amounts_of, names_of, aggregates_of, with_used, gathered}
use Rattle.std.proofs.lemmas.List.Folds.{fold-map}
use Rattle.ac_cloud.specs.World.{Sizes}
use Rattle.ac_cloud.specs.Cloud.Numbered.{numbered}
use Rattle.ac_tables.proofs.Places.BuildFacts.{agree}
use Rattle.ac_tables.proofs.Places.JoinFacts.{zip_maps}
use Rattle.ac_tables.proofs.Sorted.RowLists.{by_places}

same_provider : (p q : Provider) → p.id ≡ q.id → p.parent ≡ q.parent → p.entries ≡ q.entries → p.traits ≡ q.traits → p.aggregates ≡ q.aggregates → p.name ≡ q.name → p ≡ q
same_provider p q e1 e2 e3 e4 e5 e6 = λ i. record { id = e1 i; parent = e2 i; entries = e3 i; traits = e4 i; aggregates = e5 i; name = e6 i }

pub stated : (t : Tables) (ids : List ℕ) (us : List (TextMap ℕ)) (ss : List (TextMap InventoryNumbers)) (ns : List (List (List ℕ))) (gs ls : List (List ℕ)) → AreKin ids (providers_said t.providers)
    → us ≡ map (amounts_of (usages_said t.usages)) ids → ss ≡ map (inventories_of (inventories_said t.inventories)) ids → ns ≡ map (names_of (traits_said t.traits)) ids
    → gs ≡ map (aggregates_of (aggregates_said t.aggregates)) ids → ls ≡ map (said_name (providers_said t.providers)) ids
    → numbered ids (map (λ id. option_and_then (rank ids) (said_parent (providers_said t.providers) id)) ids) (with_used_lists us ss) ns gs ls ≡ map (gathered t) ids
unfolding numbered
stated t ids us ss ns gs ls kin eu es en ea el =
    let parents = map (λ id. option_and_then (rank ids) (said_parent (providers_said t.providers) id)) ids in
    let own_entry : with_used_lists us ss ≡ map (λ id. with_used (amounts_of (usages_said t.usages) id) (inventories_of (inventories_said t.inventories) id)) ids =
    ap₂ with_used_lists eu es ∙ zip_maps (amounts_of (usages_said t.usages)) (inventories_of (inventories_said t.inventories)) ids in
    by_places (numbered_at ids parents (with_used_lists us ss) ns gs ls) (gathered t) ids
    (λ (i : ℕ) (h : i < length ids).
    same_provider (numbered_at ids parents (with_used_lists us ss) ns gs ls i) (gathered t (get_or ids i 0)) refl
    (sym (agree ids (providers_said t.providers) kin.known parents refl i h))
    (ap (λ l. get_or l i []) own_entry ∙ get_or-map (λ id. with_used (amounts_of (usages_said t.usages) id) (inventories_of (inventories_said t.inventories) id)) ids i 0 [] h)
    (ap (λ l. get_or l i []) en ∙ get_or-map (names_of (traits_said t.traits)) ids i 0 [] h)
    (ap (λ l. get_or l i []) ea ∙ get_or-map (aggregates_of (aggregates_said t.aggregates)) ids i 0 [] h)
    (ap (λ l. get_or l i []) el ∙ get_or-map (said_name (providers_said t.providers)) ids i 0 [] h))

-- how many items there are in all lists
pub counted : {X Y : Type 0} (show : List X → List Y) (same : (l : List X) → length (show l) ≡ length l) (lists : List (List X)) (gather : ℕ → List Y) (ids : List ℕ) → map show lists ≡ map gather ids
    → sum_by length lists ≡ sum_by (λ id. length (gather id)) ids
counted show same lists gather ids e = same_sums show same 0 lists ∙ sym (fold-map (λ a x. a + length x) show 0 lists) ∙ ap (sum_by length) e ∙ fold-map (λ a x. a + length x) gather 0 ids
  where
    same_sums : {X Y : Type 0} (show : List X → List Y) (same : (l : List X) → length (show l) ≡ length l) (k : ℕ) (lists : List (List X))
        → fold (λ a l. a + length l) k lists ≡ fold (λ a l. a + length (show l)) k lists
    same_sums show same k [] = refl
    same_sums show same k (l ∷ lists) = ap (λ (n : ℕ). fold (λ a x. a + length x) (k + n) lists) (sym (same l)) ∙ same_sums show same (k + length (show l)) lists

pub same_sizes : (a b : Sizes) → a.providers ≡ b.providers → a.inventories ≡ b.inventories → a.usages ≡ b.usages → a.traits ≡ b.traits → a.aggregates ≡ b.aggregates → a ≡ b
same_sizes a b e1 e2 e3 e4 e5 = λ i. record { providers = e1 i; inventories = e2 i; usages = e3 i; traits = e4 i; aggregates = e5 i }
