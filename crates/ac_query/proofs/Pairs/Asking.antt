-- Where no pair has a fault, exactly one record is what the pairs ask for.
use Rattle.std.proofs.Common.{arith}
use Rattle.std.proofs.lemmas.Grind.{common_steps}
use Rattle.std.proofs.Common.{◌≡◌, ℕ, suc, List, [], ◌∷◌, ◌++◌, map, Option, Some, None, refl, sym, ap, ap₂, ◌∙◌, subst}
use Rattle.std.specs.List.{fold, filter_map, slice_get, AllByRecursion}
use Rattle.std.specs.List.Sorted.{IsStrictlySortedBy}
use Rattle.std.specs.Map.{keys_of}
use Rattle.std.proofs.lemmas.Cmp.{nat_list_cmp_total, eq_by_cmp_equiv}
use Rattle.std.proofs.lemmas.List.{map-append}
use Rattle.std.proofs.lemmas.Simd.{map-map}
use Rattle.std.proofs.lemmas.Map.Entries.{lookup_from_place}
use Rattle.std.proofs.lemmas.Map.Keys.{IsDistinct-from_sorted}
use Rattle.ac_base.specs.Texts.{text_cmp}
use Rattle.ac_base.proofs.Sorted.SameItems.{name_rising}
use Rattle.ac_base.proofs.Sorted.SortedSets.{rising_sorted}
use Rattle.ac_query.specs.declared.version.Version.{Version}
use Rattle.ac_query.specs.Pairs.Values.{Part, Given}
use Rattle.ac_query.specs.Pairs.{given}
use Rattle.ac_query.specs.Asked.{Group, Asked}
use Rattle.ac_query.specs.Asks.{IsTold, AsksOfGroup, group_parts, parts_of, unsuffixed, root_required_in, root_forbidden_in, policy_in, subtree_in, limit_in, Asks}
use Rattle.ac_query.specs.Laws.Gathered.{empty_group, with_part, add_plain, add_suffixed, plain_groups, of_suffix, as_asked, gathered, asked_by}
use Rattle.ac_query.specs.Faults.{first_fault, pairs_conditions}
use Rattle.ac_query.specs.Laws.{AsksOnce, OrderHolds}
use Rattle.ac_query.proofs.Pairs.Once.{policy_once, limit_once, needs_once, tree_once}
use Rattle.ac_query.proofs.Pairs.Gathering.{told_once, all_read, all_listed, gathered_is, group_asks, grown_all, grown_there, plain_grown, suffixes_all, found_grown}

-- ---- texts in byte order
pub order_holds : OrderHolds
order_holds texts = (rising_sorted nat_list_cmp_total texts, λ t. name_rising t texts)

-- ---- all of a list
all_from_places : {X : Type 0} (P : X → Type 0) (xs : List X) → ((i : ℕ) (x : X) → slice_get xs i ≡ Some x → P x) → AllByRecursion P xs
all_from_places P [] h = tt
all_from_places P (x ∷ xs) h = (h 0 x refl, all_from_places P xs (λ i y is. h (suc i) y is))

all_map : {X Y : Type 0} (f : X → Y) (P : Y → Type 0) (xs : List X) → AllByRecursion (λ x. P (f x)) xs → AllByRecursion P (map f xs)
all_map f P [] all = tt
all_map f P (x ∷ xs) all = (all.0, all_map f P xs all.1)

pub all_append : {X : Type 0} (P : X → Type 0) (xs ys : List X) → AllByRecursion P xs → AllByRecursion P ys → AllByRecursion P (xs ++ ys)
all_append P [] ys a b = b
all_append P (x ∷ xs) ys a b = (a.0, all_append P xs ys a.1 b)

-- ---- the groups that are there
-- a group of parts is the one that grew from them
grown_is : (ps : List Part) (g : Group) → Some g ≡ grown_all None ps → g ≡ fold with_part empty_group ps
grown_is [] g h = absurd (cc)
grown_is (p ∷ ps) g h = let e : Some g ≡ Some (fold with_part (with_part empty_group p) ps) = h ∙ grown_there (with_part empty_group p) ps in cc

plain_named : (ps : List Part) → map (λ e. e.0) (plain_groups (grown_all None ps)) ≡ unsuffixed ps
plain_named ps = grind (arith, common_steps, grown_there)

suffixes_named : (es : List (List ℕ × Group)) → map (λ e. e.0) (map of_suffix es) ≡ map (λ s. Some s) (keys_of es)
suffixes_named es = map-map (λ e. e.0) of_suffix es ∙ sym (map-map (λ s. Some s) (λ e. e.0) es)

module _ (version : Version) (pairs : List (List ℕ × List ℕ)) (fine : first_fault (pairs_conditions version 1 [] pairs) ≡ None) where
  abbrev all : List Given
  all = given version pairs

  abbrev es : List (Option (List ℕ) × Part)
  es = group_parts (given version pairs)

  group_fits : (s : Option (List ℕ)) (g : Group) → Some g ≡ grown_all None (parts_of s all) → AsksOfGroup (parts_of s all) g
  group_fits s g is =
      subst (AsksOfGroup (parts_of s all)) (sym (grown_is (parts_of s all) g is)) (group_asks (parts_of s all) (needs_once version pairs fine s) (tree_once version pairs fine s))

  plain_fits : (o : Option Group) → o ≡ grown_all None (parts_of None all) → AllByRecursion (λ e. AsksOfGroup (parts_of e.0 all) e.1) (plain_groups o)
  plain_fits o is = grind (arith, common_steps, group_fits)

  sorted : IsStrictlySortedBy text_cmp (keys_of (fold add_suffixed [] es))
  sorted = subst (IsStrictlySortedBy text_cmp) (sym (suffixes_all [] es)) (rising_sorted nat_list_cmp_total (filter_map (λ e. e.0) es))

  suffixed_fits : AllByRecursion (λ e. AsksOfGroup (parts_of e.0 all) e.1) (map of_suffix (fold add_suffixed [] es))
  suffixed_fits =
      all_map of_suffix (λ e. AsksOfGroup (parts_of e.0 all) e.1) (fold add_suffixed [] es)
      (all_from_places _ (fold add_suffixed [] es)
      (λ i e is. group_fits (Some e.0) e.1
      (sym (lookup_from_place (eq_by_cmp_equiv nat_list_cmp_total) (fold add_suffixed [] es) i e.0 e.1 (IsDistinct-from_sorted text_cmp _ sorted) is)
      ∙ found_grown e.0 [] es)))

  pub asks : Asks version pairs (as_asked (gathered version pairs))
  asks = subst (λ d. Asks version pairs (as_asked d)) (sym (gathered_is all)) record {
    groups =
        map-append (λ e. e.0) (plain_groups (fold add_plain None es)) (map of_suffix (fold add_suffixed [] es))
        ∙ ap₂ (λ a b. a ++ b)
        (ap (λ o. map (λ e. e.0) (plain_groups o)) (plain_grown None es) ∙ plain_named (parts_of None all))
        (suffixes_named (fold add_suffixed [] es) ∙ ap (map (λ s. Some s)) (suffixes_all [] es));
    parts = all_append _ (plain_groups (fold add_plain None es)) _ (plain_fits (fold add_plain None es) (plain_grown None es)) suffixed_fits;
    policy = told_once policy_in None all (policy_once version pairs fine);
    subtrees = all_listed subtree_in all;
    root_required = all_read root_required_in [] all;
    root_forbidden = all_read root_forbidden_in [] all;
    limit = told_once limit_in None all (limit_once version pairs fine);
  }

-- ---- no other record
told_same : {A : Type 0} (n a b : A) (xs : List A) → IsTold n a xs → IsTold n b xs → a ≡ b
told_same n a b xs h k = grind (arith, common_steps)

group_same : (ps : List Part) (g h : Group) → AsksOfGroup ps g → AsksOfGroup ps h → g ≡ h
group_same ps g h a b = grind (arith, common_steps, told_same)

groups_same : (gs : List Given) (es fs : List (Option (List ℕ) × Group)) → map (λ e. e.0) es ≡ map (λ e. e.0) fs
    → AllByRecursion (λ e. AsksOfGroup (parts_of e.0 gs) e.1) es → AllByRecursion (λ e. AsksOfGroup (parts_of e.0 gs) e.1) fs → es ≡ fs
groups_same gs [] [] same a b = refl
groups_same gs [] (f ∷ fs) same a b = absurd (cc)
groups_same gs (e ∷ es) [] same a b = absurd (cc)
groups_same gs (e ∷ es) (f ∷ fs) same a b =
    let first : e.0 ≡ f.0 = cc in
    let later : map (λ d. d.0) es ≡ map (λ d. d.0) fs = cc in
    let group : e.1 ≡ f.1 = group_same (parts_of f.0 gs) e.1 f.1 (subst (λ s. AsksOfGroup (parts_of s gs) e.1) first a.0) b.0 in
    ap₂ (λ d l. d ∷ l) (ap₂ (λ s g. (s, g)) first group) (groups_same gs es fs later a.1 b.1)

pub asked_same : (version : Version) (pairs : List (List ℕ × List ℕ)) (a b : Asked) → Asks version pairs a → Asks version pairs b → a ≡ b
asked_same version pairs a b h k =
    ap (λ v. record a { groups = v }) (groups_same (given version pairs) a.groups b.groups (h.groups ∙ sym k.groups) h.parts k.parts)
    ∙ ap (λ v. record a { groups = b.groups; policy = v }) (told_same None a.policy b.policy (filter_map policy_in (given version pairs)) h.policy k.policy)
    ∙ ap (λ v. record a { groups = b.groups; policy = b.policy; subtrees = v }) (h.subtrees ∙ sym k.subtrees)
    ∙ ap (λ v. record b { root_required = v; root_forbidden = a.root_forbidden; limit = a.limit }) (h.root_required ∙ sym k.root_required)
    ∙ ap (λ v. record b { root_forbidden = v; limit = a.limit }) (h.root_forbidden ∙ sym k.root_forbidden)
    ∙ ap (λ v. record b { limit = v }) (told_same None a.limit b.limit (filter_map limit_in (given version pairs)) h.limit k.limit)

pub asks_once : AsksOnce
unfolding asked_by
asks_once version pairs fine = (asks version pairs fine, λ a h. asked_same version pairs a (as_asked (gathered version pairs)) h (asks version pairs fine))
