-- The rows of the table of providers say what its records say: their ids, who is whose parent, and what is wrong with a provider.
use Rattle.ac_tables.proofs.Common.{◌≡◌, ◌∙◌, ◌+◌, ◌<◌, ℕ, zero, suc, Bool, true, false, List, [], ◌∷◌, map, length, get_or, Option, Some, None, refl, sym, ap, ap₂, subst, arith, rules, ◌==◌, ◌&&◌, not, nat_cmp, eq_by_cmp, is_some, is_none, unwrap_or, option_map, option_and_then, position_from, IsPermutation, IsStrictlySortedBy, cases_Bool, get_or-map, length-map, All-weaker, recursion_from_All, Contains-permutation, IsPermutation-sym, IsPermutation-map, length_permutation, IsDistinct-from_sorted, eq_by_cmp_equiv, exact_unsigned, is_one_of, rank, parent_in, AreParents, name_bytes, provider_shown, ProviderRecord, is_known, no_record, record_at, said_name, said_parent, has_unknown_parent, has_endless_chain, has_wrong_root, rising, row_shown, IsTable, top, TableRow, Named, map-map}
use Rattle.std.specs.Cmp.{nat_cmp_total, unsigned_tied}
use Rattle.std.specs.List.{IsDistinct}
use Rattle.std.proofs.lemmas.Map.Keys.{IsDistinct-IsPermutation, apart_from_distinct}
use Rattle.ac_tables.specs.Tables.ProviderTable.{is_at, place_of}
use Rattle.ac_cloud.proofs.Places.WorldFacts.{are_parents}
use Rattle.ac_tables.proofs.Places.BuildFacts.{agree, are_within, same_size, has_rank}
use Rattle.ac_tables.proofs.Places.KinFacts.{kin_known, place_member}
use Rattle.ac_tables.proofs.Records.ProviderFaults.{are_trees}
use Rattle.ac_tables.proofs.Records.Marks.{record_of, said_at, size}
use Rattle.ac_cloud.proofs.Trees.PlaceTrees.{steps}
use Rattle.ac_cloud.proofs.Rising.{rank_none}
use Rattle.ac_base.proofs.Sorted.SameItems.{is_rising, member_rising}
use Rattle.ac_tables.proofs.Gathered.ProviderRows.{keys_sorted}
use Rattle.ac_tables.proofs.Records.TreeFaults.{AreDistinct, AreTrees, unknown_fault}

abbrev ListingRow : Type 0
ListingRow = TableRow ℕ Named

-- a row for the places past the end
pub no_row : ListingRow
no_row = record { place = 0; number = 0; key = 0; value = record { root = 0; parent = None; name = None } }

abbrev pub key : ListingRow → ℕ
key r = r.key

abbrev pub parent_of : ListingRow → Option ℕ
parent_of r = r.value.parent

shown_ids : (rs : List ListingRow) → map (λ (p : ProviderRecord). p.id) (map (row_shown provider_shown) rs) ≡ map key rs
shown_ids [] = refl
shown_ids (r ∷ rs) = ap (λ l. r.key ∷ l) (shown_ids rs)

position_at : {X : Type 0} (p : X → Bool) (k : ℕ) (xs : List X) (i : ℕ) (d : X) → i < length xs → p (get_or xs i d) ≡ true → ((j : ℕ) → j < i → p (get_or xs j d) ≡ false) → position_from p k xs ≡ Some (k + i)
position_at p k [] i d h e before = absurd (omega (arith, h))
position_at p k (x ∷ xs) zero d h e before = let same : k ≡ k + zero = omega arith in rw e (ap (λ (n : ℕ). Some n) same)
position_at p k (x ∷ xs) (suc i) d h e before =
    let more : k + 1 + i ≡ k + suc i = omega arith in
    rw (before zero (omega arith)) (position_at p (k + 1) xs i d (omega arith) e (λ j less. before (suc j) (omega arith)) ∙ ap (λ (n : ℕ). Some n) more)

map_at : {A B : Type 0} (f g : A → B) (xs : List A) (d : A) → ((k : ℕ) → k < length xs → f (get_or xs k d) ≡ g (get_or xs k d)) → map f xs ≡ map g xs
map_at f g [] d same = refl
map_at f g (x ∷ xs) d same = ap₂ (λ a l. a ∷ l) (same zero (omega arith)) (map_at f g xs d (λ k h. same (suc k) (omega arith)))

module _ (said : List ProviderRecord) (rows : List ListingRow) (t : IsTable nat_cmp provider_shown 1 true said rows) where
  abbrev ids : List ℕ
  ids = map key rows

  key_at : (k : ℕ) → k < length rows → get_or ids k 0 ≡ (get_or rows k no_row).key
  key_at k h = get_or-map key rows k no_row 0 h

  pub keys_rise : IsStrictlySortedBy nat_cmp ids
  keys_rise =
      keys_sorted nat_cmp nat_cmp (λ (q : ℕ). q) (λ a b. refl) t.order.turn 0 rows (recursion_from_All (λ (r : ListingRow). r.place ≡ 0) rows (All-weaker (λ r. r.place < 1) (λ r. r.place ≡ 0) (λ r h. omega (arith, h)) rows t.inside)) (t.strict refl)

  said_ids : map (λ (p : ProviderRecord). p.id) said ≡ map key t.read
  said_ids = ap (map (λ (p : ProviderRecord). p.id)) (sym t.shows) ∙ shown_ids t.read

  -- the ids of all providers
  pub ids_are : map (λ r. r.key) rows ≡ rising nat_cmp (map (λ p. p.id) said)
  ids_are =
      let moved : IsPermutation (map key t.read) ids = IsPermutation-map key t.read rows t.same in
      is_rising nat_cmp_total exact_unsigned ids (map key t.read) keys_rise
      (λ y. Contains-permutation ids (map key t.read) y (IsPermutation-sym (map key t.read) ids moved)) (λ y. Contains-permutation (map key t.read) ids y moved)
      ∙ ap (rising nat_cmp) (sym said_ids)

  pub count : length (map (λ (r : ListingRow). r.key) rows) ≡ length said
  count = length_permutation (map key t.read) ids (IsPermutation-map key t.read rows t.same) ∙ ap length (sym said_ids) ∙ length-map said (λ (p : ProviderRecord). p.id)

  -- all ids are different
  pub distinct : AreDistinct said
  unfolding place_of
  distinct i h =
      let all : List ℕ = map (λ (p : ProviderRecord). p.id) said in
      let apart : IsDistinct (eq_by_cmp nat_cmp) (map (λ (p : ProviderRecord). p.id) said) =
      subst (IsDistinct (eq_by_cmp nat_cmp)) (sym said_ids)
      (IsDistinct-IsPermutation (eq_by_cmp nat_cmp) turned ids (map key t.read) (IsPermutation-sym (map key t.read) ids (IsPermutation-map key t.read rows t.same)) (IsDistinct-from_sorted nat_cmp ids keys_rise)) in
      position_at (is_at (record_at said i).id) 0 said i no_record h (equal (record_at said i).id) (λ j less.
      ap₂ (λ a b. a == b) (sym (get_or-map (λ (p : ProviderRecord). p.id) said j no_record 0 (omega arith))) (sym (get_or-map (λ (p : ProviderRecord). p.id) said i no_record 0 h))
      ∙ sym (unsigned_tied (get_or all j 0) (get_or all i 0))
      ∙ apart_from_distinct (eq_by_cmp nat_cmp) all j i 0 apart less (omega (arith, h, length-map said (λ (p : ProviderRecord). p.id))))
      ∙ ap (λ (n : ℕ). Some n) (omega arith)
    where
      equal : (a : ℕ) → (a == a) ≡ true
      equal a = search (arith, rules)

      turned : (a b : ℕ) → eq_by_cmp nat_cmp a b ≡ eq_by_cmp nat_cmp b a
      turned a b = (eq_by_cmp_equiv nat_cmp_total).symm a b

  -- the record of a row's provider
  record_here : (k : ℕ) → k < length rows → (i : ℕ) × (place_of said (get_or rows k no_row).key ≡ Some i) × (record_at said i ≡ row_shown provider_shown (get_or rows k no_row))
  record_here k h =
      let r = record_of said rows t k no_row h in
      let at : record_at said r.0 ≡ row_shown provider_shown (get_or rows k no_row) = said_at said rows t r.0 no_row no_record r.1 ∙ ap (row_shown provider_shown) r.2 in
      (r.0, ap (λ (p : ProviderRecord). place_of said p.id) (sym at) ∙ distinct r.0 (let i = r.1 in omega (arith, i, size said rows t)), at)

  -- the parent of a row's provider
  pub parent_here : (k : ℕ) → k < length rows → said_parent said (get_or rows k no_row).key ≡ (get_or rows k no_row).value.parent
  parent_here k h =
      let r = record_here k h in
      ap (option_and_then (λ (i : ℕ). (record_at said i).parent)) r.1 ∙ ap (λ (p : ProviderRecord). p.parent) r.2

  -- its name
  name_here : (k : ℕ) → k < length rows → said_name said (get_or rows k no_row).key ≡ name_bytes (get_or rows k no_row).value.name
  name_here k h =
      let r = record_here k h in
      ap (λ (o : Option ℕ). unwrap_or (option_map (λ (i : ℕ). (record_at said i).name) o) []) r.1 ∙ ap (λ (p : ProviderRecord). p.name) r.2

  pub names_are : map (λ r. name_bytes r.value.name) rows ≡ map (said_name said) (map (λ r. r.key) rows)
  names_are =
      map_at (λ (r : ListingRow). name_bytes r.value.name) (λ (r : ListingRow). said_name said r.key) rows no_row (λ k h. sym (name_here k h))
      ∙ sym (map-map (said_name said) key rows)

  module _ (parents : List (Option ℕ)) (are : parents ≡ map (λ r. option_and_then (rank (map (λ r. r.key) rows)) r.value.parent) rows) where
    pub parents_are : parents ≡ map (λ id. option_and_then (rank (map (λ r. r.key) rows)) (said_parent said id)) (map (λ r. r.key) rows)
    parents_are =
        are
        ∙ map_at (λ r. option_and_then (rank ids) (parent_of r)) (λ r. option_and_then (rank ids) (said_parent said r.key)) rows no_row (λ k h. ap (option_and_then (rank ids)) (sym (parent_here k h)))
        ∙ sym (map-map (λ id. option_and_then (rank ids) (said_parent said id)) key rows)

    parent_at : (k : ℕ) → k < length rows → get_or parents k None ≡ option_and_then (rank ids) (get_or rows k no_row).value.parent
    parent_at k h = ap (λ (l : List (Option ℕ)). get_or l k None) are ∙ get_or-map (λ r. option_and_then (rank ids) (parent_of r)) rows k no_row None h

    there : (q : ℕ) → is_one_of ids q ≡ is_some (place_of said q)
    there q = ap (λ l. is_one_of l q) ids_are ∙ member_rising q (map (λ (p : ProviderRecord). p.id) said) ∙ sym (place_member said q)

    no_rank : (q : ℕ) → is_none (rank ids q) ≡ not (is_some (place_of said q))
    no_rank q = grind (arith, cases_Bool, has_rank, rank_none, there)

    by_parent : (o p : Option ℕ) → p ≡ option_and_then (rank ids) o → (is_some o && is_none p) ≡ (is_some o && not (is_known said (unwrap_or o 0)))
    by_parent None p e = refl
    by_parent (Some q) p e = ap is_none e ∙ no_rank q

    -- what is wrong with a provider, by its row
    pub unknown_same : (k : ℕ) → k < length rows → (is_some (get_or rows k no_row).value.parent && is_none (get_or parents k None)) ≡ has_unknown_parent said (row_shown provider_shown (get_or rows k no_row))
    unknown_same k h = by_parent (get_or rows k no_row).value.parent (get_or parents k None) (parent_at k h)

    module _ (known : unknown_fault said ≡ None) where
      pub trees : AreTrees said
      trees = are_trees said distinct known

      known_here : (i q : ℕ) → i < length ids → said_parent said (get_or ids i 0) ≡ Some q → is_one_of ids q ≡ true
      known_here = kin_known said ids ids_are count trees

      pub as_many : length parents ≡ length (map (λ (r : ListingRow). r.key) rows)
      as_many = same_size ids said known_here parents parents_are

      pub are_places : AreParents parents
      are_places = are_parents parents (length ids) (same_size ids said known_here parents parents_are) (are_within ids said known_here parents parents_are)

      some_map : (f : ℕ → ℕ) (o : Option ℕ) → is_some (option_map f o) ≡ is_some o
      some_map f None = refl
      some_map f (Some q) = refl

      abbrev top_of : ℕ → ℕ
      top_of i = top (parent_in parents) (length parents) i

      within : (i : ℕ) → i < length rows → i < length ids
      within i h = omega (arith, h, length-map rows key)

      pub top_inside : (i : ℕ) → i < length rows → top (parent_in parents) (length parents) i < length (map (λ (r : ListingRow). r.key) rows)
      top_inside i h =
          let s = steps (said_parent said) (λ (j : ℕ). get_or ids j 0) (length ids) parents (are_within ids said known_here parents parents_are) (agree ids said known_here parents parents_are) (length ids) i (within i h) in
          subst (λ (n : ℕ). top (parent_in parents) n i < length ids) (sym as_many) s.0

      top_at : (i : ℕ) → i < length rows → top (said_parent said) (length said) (get_or rows i no_row).key ≡ get_or ids (top_of i) 0
      top_at i h =
          let s = steps (said_parent said) (λ (j : ℕ). get_or ids j 0) (length ids) parents (are_within ids said known_here parents parents_are) (agree ids said known_here parents parents_are) (length ids) i (within i h) in
          ap₂ (λ (n q : ℕ). top (said_parent said) n q) (sym count) (sym (key_at i h)) ∙ s.1 ∙ ap (λ (n : ℕ). get_or ids (top (parent_in parents) n i) 0) (sym as_many)

      pub endless_same : (i : ℕ) → i < length rows → is_some (get_or parents (top (parent_in parents) (length parents) i) None) ≡ has_endless_chain said (row_shown provider_shown (get_or rows i no_row))
      endless_same i h = grind (arith, agree, known_here, parents_are, some_map, top_at, top_inside)

      pub wrong_same : (i : ℕ) → i < length rows → not (get_or (map (λ (r : ListingRow). r.key) rows) (top (parent_in parents) (length parents) i) 0 == (get_or rows i no_row).value.root) ≡ has_wrong_root said (row_shown provider_shown (get_or rows i no_row))
      wrong_same i h = ap (λ (q : ℕ). not (q == (get_or rows i no_row).value.root)) (sym (top_at i h))
