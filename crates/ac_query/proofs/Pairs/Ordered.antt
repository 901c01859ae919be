-- What pairs ask for is in order.
use Rattle.std.proofs.lemmas.Grind.{common_steps}
use Rattle.std.proofs.Common.{rules, ◌≡◌, ◌<◌, ℕ, suc, false, List, [], ◌∷◌, ◌++◌, map, length, Option, Some, None, IfSome, refl, sym, subst, arith}
use Rattle.std.specs.List.{All, AllByRecursion, fold, cons_option}
use Rattle.std.specs.List.Sorted.{IsStrictlySortedBy}
use Rattle.std.specs.Map.{lookup, keys_of, values_of}
use Rattle.std.specs.BTreeMap.{is_at}
use Rattle.std.specs.Str.{bytes_eq}
use Rattle.std.proofs.lemmas.Cmp.{nat_list_cmp_total}
use Rattle.std.proofs.lemmas.Map.Views.{All-keys-insert_entry, All-values-insert_entry, IfSome-lookup_from_All}
use Rattle.std.proofs.lemmas.Simd.{map-map}
use Rattle.std.proofs.lemmas.Option.{IfSome_then}
use Rattle.ac_base.specs.Texts.{text_cmp}
use Rattle.ac_base.proofs.Sorted.SortedSets.{empty_sorted}
use Rattle.ac_query.specs.declared.version.Version.{Version}
use Rattle.ac_query.specs.Pairs.Parameters.{parameter}
use Rattle.ac_query.specs.Pairs.Values.{Part, Given, given_of}
use Rattle.ac_query.specs.Pairs.{read_pair, given}
use Rattle.ac_query.specs.Asked.{Group}
use Rattle.ac_query.specs.Asks.{needs_in, group_part, group_parts}
use Rattle.ac_query.specs.Laws.Gathered.{Gathered, empty_group, with_some, later, grown, with_suffixed, add_plain, add_suffixed, plain_groups, of_suffix, as_asked, asked_by}
use Rattle.ac_query.specs.Laws.InOrder.{group_name, AreApart, AreNeeds, AreSuffixed, IsFirstPlain, IsInOrder, QueryInOrder}
use Rattle.ac_query.proofs.Pairs.Gathering.{gathered_is}
use Rattle.ac_query.proofs.Pairs.Once.{IsSound, value_given}
use Rattle.ac_query.proofs.Pairs.ParameterNames.{Names, named}
use Rattle.ac_query.proofs.Values.Choosing.{then_some, one_more}
use Rattle.ac_query.proofs.Values.Inserts.{still_sorted}
use Rattle.ac_query.proofs.Values.PositiveNeeds.{apart_from_sorted}

-- ---- what pairs give
sound_pair : (version : Version) (p : List ℕ × List ℕ) → IfSome (read_pair version p) (λ v. IfSome (group_part v) IsSound)
sound_pair version p =
    then_some (Names p.0) _ (λ q. given_of version q p.1) (parameter p.0) (named p.0) (λ q h. IfSome_then (given_of version q p.1) (value_given version q p.1 h.long) (λ v k. k.sound))

sound_parts : (version : Version) (pairs : List (List ℕ × List ℕ)) → AllByRecursion IsSound (group_parts (given version pairs))
sound_parts version [] = tt
sound_parts version (p ∷ ps) = of (read_pair version p) (sound_pair version p) (sound_parts version ps)
  where
    of : (o : Option Given) → IfSome o (λ v. IfSome (group_part v) IsSound) → AllByRecursion IsSound (group_parts (given version ps))
        → AllByRecursion IsSound (group_parts (cons_option o (given version ps)))
    of o h later = grind (arith, common_steps, one_more)

-- ---- the groups that are gathered
abbrev HasNeeds : Group → Type 0
HasNeeds g = AreNeeds g.needs

record AreOrdered (plain : Option Group) (suffixed : List (List ℕ × Group)) : Type 0 where
  first : IfSome plain HasNeeds
  long : All (λ s. 0 < length s) (keys_of suffixed)
  sorted : IsStrictlySortedBy text_cmp (keys_of suffixed)
  groups : All HasNeeds (values_of suffixed)

served : (needs : List (List ℕ × ℕ)) (o : Option (List (List ℕ × ℕ))) → AreNeeds needs → IfSome o AreNeeds → AreNeeds (with_some later needs o)
served needs o h k = grind (arith, common_steps)

grown_served : (o : Option Group) (p : Part) → IfSome o HasNeeds → IfSome (needs_in p) AreNeeds → HasNeeds (grown o p)
grown_served o p h k = grind (arith, common_steps, served)

all_ordered : (plain : Option Group) (suffixed : List (List ℕ × Group)) (es : List (Option (List ℕ) × Part)) → AreOrdered plain suffixed → AllByRecursion IsSound es
    → AreOrdered (fold add_plain plain es) (fold add_suffixed suffixed es)
all_ordered plain suffixed [] h all = h
all_ordered plain suffixed ((None, p) ∷ es) h all =
    all_ordered (Some (grown plain p)) suffixed es (record { first = grown_served plain p h.first all.0.1; long = h.long; sorted = h.sorted; groups = h.groups }) all.1
all_ordered plain suffixed ((Some s, p) ∷ es) h all =
    let found = IfSome-lookup_from_All HasNeeds (is_at (text_cmp s)) suffixed h.groups in
    let more = grown (lookup (is_at (text_cmp s)) suffixed) p in
    all_ordered plain (with_suffixed suffixed s p) es (record {
      first = h.first;
      long = All-keys-insert_entry text_cmp s more (λ s. 0 < length s) suffixed h.long all.0.0;
      sorted = still_sorted suffixed s more h.sorted;
      groups = All-values-insert_entry text_cmp s more HasNeeds suffixed h.groups (grown_served (lookup (is_at (text_cmp s)) suffixed) p found all.0.1);
    }) all.1

none_ordered : AreOrdered None []
none_ordered = record { first = tt; long = λ i d h. absurd (omega (arith, h)); sorted = empty_sorted nat_list_cmp_total; groups = λ i d h. absurd (omega (arith, h)) }

-- ---- the groups
suffixed : (es : List (List ℕ × Group)) → AreSuffixed (map of_suffix es)
suffixed [] = tt
suffixed (e ∷ es) = (refl, suffixed es)

first_plain : (o : Option Group) (es : List (List ℕ × Group)) → IsFirstPlain (plain_groups o ++ map of_suffix es)
first_plain None [] = tt
first_plain None (e ∷ es) = suffixed es
first_plain (Some g) es = suffixed es

long_differs : (s : List ℕ) → 0 < length s → bytes_eq [] s ≡ false
long_differs s h = grind (arith, common_steps)

all_differ : (ss : List (List ℕ)) → All (λ s. 0 < length s) ss → AllByRecursion (λ s. bytes_eq [] s ≡ false) ss
all_differ [] all = tt
all_differ (s ∷ ss) all = (long_differs s (all 0 [] (omega arith)), all_differ ss (λ i d h. all (suc i) d (omega (arith, h))))

names_apart : (o : Option Group) (es : List (List ℕ × Group)) → All (λ s. 0 < length s) (keys_of es) → IsStrictlySortedBy text_cmp (keys_of es)
    → AreApart (map group_name (plain_groups o ++ map of_suffix es))
names_apart None es long sorted = subst AreApart (sym (map-map group_name of_suffix es)) (apart_from_sorted (keys_of es) sorted)
names_apart (Some g) es long sorted = subst (λ l. AreApart ([] ∷ l)) (sym (map-map group_name of_suffix es)) (all_differ (keys_of es) long, apart_from_sorted (keys_of es) sorted)

needs_served : (es : List (List ℕ × Group)) → All HasNeeds (values_of es) → AllByRecursion (λ g. AreNeeds g.1.needs) (map of_suffix es)
needs_served [] all = tt
needs_served (e ∷ es) all = (all 0 empty_group (omega arith), needs_served es (λ i d h. all (suc i) d (omega (arith, h))))

all_served : (o : Option Group) (es : List (List ℕ × Group)) → IfSome o HasNeeds → All HasNeeds (values_of es) → AllByRecursion (λ g. AreNeeds g.1.needs) (plain_groups o ++ map of_suffix es)
all_served None es h all = needs_served es all
all_served (Some g) es h all = (h, needs_served es all)

in_order : (d : Gathered) → AreOrdered d.plain d.suffixed → IsInOrder (as_asked d)
in_order d h = record { first = first_plain d.plain d.suffixed; names = names_apart d.plain d.suffixed h.long h.sorted; needs = all_served d.plain d.suffixed h.first h.groups }

pub query_in_order : QueryInOrder
unfolding asked_by
query_in_order version pairs = search (rules, arith, gathered_is, in_order, all_ordered, none_ordered, sound_parts)
