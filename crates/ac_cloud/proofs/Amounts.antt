-- The same providers with other amounts used: what each has of its classes, and all else as it was.
use Rattle.ac_cloud.proofs.Common.{◌≡◌, ◌∙◌, ◌<◌, ◌≤◌, ◌+◌, ◌&&◌, ◌||◌, ◌==◌, ℕ, Bool, true, false, List, [], ◌∷◌, map, length, get_or-map, Option, None, Some, refl, sym, ap, ap₂, arith, inl, inr, if◌then◌else◌, length-map, get_or-map-range_with_len, length-range_with_len, range_with_len, option_map, option_and_then, is_some, is_none, bytes_eq, lookup, list_any, position_from, Provider, UsedInventory, no_provider, provider_at, id_at, place_of, parent_of, root_of, is_root, is_available_at, top}
use Rattle.ac_cloud.proofs.Common.{cases_Bool, cases_lt, is_eq, is_eq-slice_cmp, map-id, map-map, text_cmp, IsStrictlySortedBy}
use Rattle.std.specs.List.{AllByRecursion}
use Rattle.std.specs.Map.{keys_of}
use Rattle.std.proofs.Common.{Less}
use Rattle.std.proofs.lemmas.Map.Entries.{lookup_head}
use Rattle.std.proofs.lemmas.Map.Keys.{sorted_head, sorted_tail}
use Rattle.std.proofs.Math.Path.{fun_ext}
use Rattle.std.proofs.lemmas.List.{ext_get_or, get_or_past}
use Rattle.std.proofs.lemmas.Slice.Eq.{bytes_eq-Decides}
use Rattle.ac_cloud.specs.Amounts.{entry_using, provider_using, with_amounts}
use Rattle.ac_cloud.specs.Laws.{AmountsAlone}
use Rattle.ac_cloud.specs.Trees.{is_in_chain}
use Rattle.ac_cloud.specs.World.{entry_in, is_above, is_associated, is_available, is_provider, have_common_aggregate, shares}
use Rattle.ac_cloud.proofs.ListFacts.{map_same, range_same}
use Rattle.std.proofs.lemmas.Grind.{common_steps}

-- tests along a list, by what they answer
position_answers : (test : Provider → Bool) (k : ℕ) (all : List Provider) → position_from test k all ≡ position_from (λ b. b) k (map test all)
position_answers test k [] = refl
position_answers test k (p ∷ all) = ap (λ o. if test p then Some k else o) (position_answers test (k + 1) all)

any_answers : (test : Provider → Bool) (all : List Provider) → list_any test all ≡ list_any (λ b. b) (map test all)
any_answers test [] = refl
any_answers test (p ∷ all) = ap (λ b. test p || b) (any_answers test all)

-- what a provider has of a class, with another amount used
pub entry_using_in : (amount : List ℕ → UsedInventory → ℕ) (class : List ℕ) (es : List (List ℕ × UsedInventory))
    → lookup (bytes_eq class) (map (entry_using amount) es) ≡ option_map (λ had. record { inventory = had.inventory; used = amount class had }) (lookup (bytes_eq class) es)
entry_using_in amount class [] = refl
entry_using_in amount class (e ∷ es) = grind (arith, common_steps, cases_Bool, entry_using_in amount class es, bytes_eq, bytes_eq-Decides)

-- amounts that give the same of whatever there is
pub same_entries : (f g : List ℕ → UsedInventory → ℕ) → ((class : List ℕ) (had : UsedInventory) → f class had ≡ g class had) → (es : List (List ℕ × UsedInventory)) → map (entry_using f) es ≡ map (entry_using g) es
same_entries f g same es = map_same (entry_using f) (entry_using g) (λ e. ap (λ used. (e.0, record { inventory = e.1.inventory; used = used })) (same e.0 e.1)) es

-- a class below all others is none of them
below_all : (class : List ℕ) (es : List (List ℕ × UsedInventory)) → AllByRecursion (λ k. text_cmp class k ≡ Less) (keys_of es) → lookup (bytes_eq class) es ≡ None
below_all class [] h = refl
below_all class (e ∷ es) h =
    rw (sym (is_eq-slice_cmp class e.0) ∙ ap is_eq h.0) (below_all class es h.1)

some_none : (had : UsedInventory) → Some had ≡ None → ⊥
some_none had e = cc

-- amounts that give the same of what is there
same_found : (f g : List ℕ → UsedInventory → ℕ) (es : List (List ℕ × UsedInventory)) → IsStrictlySortedBy text_cmp (keys_of es)
    → ((class : List ℕ) (had : UsedInventory) → lookup (bytes_eq class) es ≡ Some had → f class had ≡ g class had) → map (entry_using f) es ≡ map (entry_using g) es
same_found f g [] h same = refl
same_found f g (e ∷ es) h same =
    let here : bytes_eq e.0 e.0 ≡ true = (bytes_eq-Decides e.0 e.0).1 refl in
    ap₂ (λ used l. (e.0, record { inventory = e.1.inventory; used = used }) ∷ l) (same e.0 e.1 (lookup_head (bytes_eq e.0) e es here))
    (same_found f g es (sorted_tail text_cmp e.0 (keys_of es) h) (λ class had found. same class had (elim (cases_Bool (bytes_eq class e.0)) [
      | inl met ↦
          absurd (some_none had (sym found ∙ (rw ((bytes_eq-Decides class e.0).0 met) (below_all e.0 es (sorted_head text_cmp e.0 (keys_of es) h)))))
      | inr other ↦ rw other found
    ])))

module _ (amount : ℕ → List ℕ → UsedInventory → ℕ) (all : List Provider) where
  pub amounts_size : length (with_amounts amount all) ≡ length all
  unfolding with_amounts
  amounts_size = length-map (range_with_len 0 (length all)) (λ ix. provider_using (amount ix) (provider_at all ix)) ∙ length-range_with_len 0 (length all)

  here_inside : (ix : ℕ) → ix < length all → provider_at (with_amounts amount all) ix ≡ provider_using (amount ix) (provider_at all ix)
  unfolding with_amounts
  here_inside ix inside = get_or-map-range_with_len (λ ix. provider_using (amount ix) (provider_at all ix)) 0 (length all) ix ix no_provider inside (omega arith)

  here_past : (ix : ℕ) → length all ≤ ix → provider_at (with_amounts amount all) ix ≡ provider_using (amount ix) (provider_at all ix)
  here_past ix past = get_or_past (with_amounts amount all) ix no_provider (omega (arith, amounts_size, past)) ∙ sym (ap (provider_using (amount ix)) (get_or_past all ix no_provider past))

  pub amounts_here : (ix : ℕ) → provider_at (with_amounts amount all) ix ≡ provider_using (amount ix) (provider_at all ix)
  amounts_here ix = elim (cases_lt ix (length all)) [ inl inside ↦ here_inside ix inside | inr past ↦ here_past ix past ]

  -- what is told of a provider beside its amounts
  same_map : {X : Type 0} (tell : Provider → X) (d : X) → ((f : List ℕ → UsedInventory → ℕ) (p : Provider) → tell (provider_using f p) ≡ tell p) → map tell (with_amounts amount all) ≡ map tell all
  same_map tell d same =
      ext_get_or d (map tell (with_amounts amount all)) (map tell all) (length-map (with_amounts amount all) tell ∙ amounts_size ∙ sym (length-map all tell))
      (λ ix inside.
      let there : ix < length (with_amounts amount all) = omega (arith, inside, length-map (with_amounts amount all) tell) in
      let here : ix < length all = omega (arith, there, amounts_size) in
      get_or-map tell (with_amounts amount all) ix no_provider d there ∙ ap tell (amounts_here ix) ∙ same (amount ix) (provider_at all ix) ∙ sym (get_or-map tell all ix no_provider d here))

  pub places : (id : ℕ) → place_of (with_amounts amount all) id ≡ place_of all id
  places id =
      position_answers (is_provider id) 0 (with_amounts amount all)
      ∙ ap (position_from (λ b. b) 0) (same_map (is_provider id) false (λ f p. refl)) ∙ sym (position_answers (is_provider id) 0 all)

  pub parents : (id : ℕ) → parent_of (with_amounts amount all) id ≡ parent_of all id
  parents id = ap₂ option_and_then (fun_ext (λ (ix : ℕ). ap (λ p. p.parent) (amounts_here ix))) (places id)

  pub roots : (id : ℕ) → root_of (with_amounts amount all) id ≡ root_of all id
  roots id = ap₂ (λ (parent : ℕ → Option ℕ) (n : ℕ). top parent n id) (fun_ext parents) amounts_size

  pub above : (a b : ℕ) → is_above (with_amounts amount all) a b ≡ is_above all a b
  above a b = ap₂ (λ (parent : ℕ → Option ℕ) (n : ℕ). is_in_chain parent n a b) (fun_ext parents) amounts_size

  pub are_roots : (r : ℕ) → is_root (with_amounts amount all) r ≡ is_root all r
  are_roots r = ap₂ (λ o m. is_some o && is_none m) (places r) (parents r)

  associated : (p : Provider) (r : ℕ) → is_associated (with_amounts amount all) p r ≡ is_associated all p r
  associated p r =
      let test : (ℕ → ℕ) → Provider → Bool = λ root q. (root q.id == r) && have_common_aggregate p q in
      ap (λ root. list_any (test root) (with_amounts amount all)) (fun_ext roots)
      ∙ any_answers (test (root_of all)) (with_amounts amount all)
      ∙ ap (list_any (λ b. b)) (same_map (test (root_of all)) false (λ f q. refl)) ∙ sym (any_answers (test (root_of all)) all)

  available_to : (p : Provider) (r : ℕ) → is_available (with_amounts amount all) p r ≡ is_available all p r
  available_to p r =
      ap₂ (λ a b. a && b) (are_roots r) (ap₂ (λ a b. a || b) (ap (λ (root : ℕ). root == r) (roots p.id)) (ap (λ b. shares p && b) (associated p r)))

  pub available : (ix root : ℕ) → is_available_at (with_amounts amount all) ix root ≡ is_available_at all ix root
  available ix root =
      ap₂ (is_available (with_amounts amount all)) (amounts_here ix) (ap (λ p. p.id) (amounts_here root))
      ∙ available_to (provider_using (amount ix) (provider_at all ix)) (id_at all root)

  pub entries : (ix : ℕ) (class : List ℕ)
      → entry_in (provider_at (with_amounts amount all) ix) class ≡ option_map (λ had. record { inventory = had.inventory; used = amount ix class had }) (entry_in (provider_at all ix) class)
  entries ix class = ap (λ p. entry_in p class) (amounts_here ix) ∙ entry_using_in (amount ix) class (provider_at all ix).entries

-- ---- amounts beside amounts

module _ (f g : ℕ → List ℕ → UsedInventory → ℕ) (all : List Provider) where
  by_entries : ((ix : ℕ) → ix < length all → map (entry_using (f ix)) (provider_at all ix).entries ≡ map (entry_using (g ix)) (provider_at all ix).entries) → with_amounts f all ≡ with_amounts g all
  unfolding with_amounts
  by_entries same =
      range_same (λ ix. provider_using (f ix) (provider_at all ix)) (λ ix. provider_using (g ix) (provider_at all ix)) 0 (length all)
      (λ ix low high. ap (λ l. record (provider_at all ix) { entries = l }) (same ix (omega arith)))

  -- the same amounts
  pub amounts_same : ((ix : ℕ) (class : List ℕ) (had : UsedInventory) → f ix class had ≡ g ix class had) → with_amounts f all ≡ with_amounts g all
  amounts_same same = by_entries (λ ix inside. same_entries (f ix) (g ix) (same ix) (provider_at all ix).entries)

  -- the same of what each provider has, where its classes rise
  pub amounts_same_found : ((ix : ℕ) → ix < length all → IsStrictlySortedBy text_cmp (keys_of (provider_at all ix).entries))
      → ((ix : ℕ) (class : List ℕ) (had : UsedInventory) → ix < length all → entry_in (provider_at all ix) class ≡ Some had → f ix class had ≡ g ix class had) → with_amounts f all ≡ with_amounts g all
  amounts_same_found rise same = by_entries (λ ix inside. same_found (f ix) (g ix) (provider_at all ix).entries (rise ix inside) (λ class had. same ix class had inside))

  -- one after another
  pub amounts_again : with_amounts g (with_amounts f all) ≡ with_amounts (λ ix class had. g ix class (record had { used = f ix class had })) all
  unfolding with_amounts
  amounts_again =
      range_same (λ ix. provider_using (g ix) (provider_at (with_amounts f all) ix)) (λ ix. provider_using (λ class had. g ix class (record had { used = f ix class had })) (provider_at all ix)) 0 (length (with_amounts f all))
      (λ ix low high. ap (provider_using (g ix)) (amounts_here f all ix) ∙ ap (λ l. record (provider_at all ix) { entries = l }) (map-map (entry_using (g ix)) (entry_using (f ix)) (provider_at all ix).entries))
      ∙ ap (λ n. map (λ ix. provider_using (λ class had. g ix class (record had { used = f ix class had })) (provider_at all ix)) (range_with_len 0 n)) (amounts_size f all)

-- amounts that stay
pub amounts_kept : (all : List Provider) → with_amounts (λ ix class had. had.used) all ≡ all
amounts_kept all =
    let f : ℕ → List ℕ → UsedInventory → ℕ = λ ix class had. had.used in
    ext_get_or no_provider (with_amounts f all) all (amounts_size f all)
    (λ ix inside. amounts_here f all ix ∙ ap (λ l. record (provider_at all ix) { entries = l }) (map-id (provider_at all ix).entries))

pub amounts_alone : AmountsAlone
amounts_alone amount all =
    let here : (ix : ℕ) → provider_at (with_amounts amount all) ix ≡ provider_using (amount ix) (provider_at all ix) = amounts_here amount all in
    record {
      count = amounts_size amount all;
      ids = λ ix. ap (λ p. p.id) (here ix);
      names = λ ix. ap (λ p. p.name) (here ix);
      places = places amount all;
      parents = parents amount all;
      roots = roots amount all;
      above = above amount all;
      available = available amount all;
      traits = λ ix. ap (λ p. p.traits) (here ix);
      aggregates = λ ix. ap (λ p. p.aggregates) (here ix);
      inventories = λ ix class. inventories ix class (entry_in (provider_at all ix) class) (entries amount all ix class);
    }
  where
    inventories : (ix : ℕ) (class : List ℕ) (o : Option UsedInventory)
        → entry_in (provider_at (with_amounts amount all) ix) class ≡ option_map (λ had. record { inventory = had.inventory; used = amount ix class had }) o
        → option_map (λ had. had.inventory) (entry_in (provider_at (with_amounts amount all) ix) class) ≡ option_map (λ had. had.inventory) o
    inventories ix class o e = grind (arith, common_steps)
