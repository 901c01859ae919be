-- In a candidate, the providers that a list of `same_subtree` names stand in one part.
use Rattle.std.proofs.Common.{inl, inr, rules, ◌≡◌, ◌∙◌, ℕ, ◌<◌, zero, suc, Bool, true, false, List, [], ◌∷◌, ◌++◌, length, map, take, drop, Option, None, Some, refl, sym, ap, subst, arith, slice_index, slice_index_or, get_or, length-take-le}
use Rattle.std.specs.Prelude.{◌==◌, IfSome}
use Rattle.std.specs.Option.{option_map, unwrap_or}
use Rattle.std.specs.List.{list_any}
use Rattle.std.proofs.Math.Seq.{drop-cons}
use Rattle.std.proofs.lemmas.Bool.{cases_eq, eq-eqb, ne_eqb, false≢true}
use Rattle.std.proofs.lemmas.List.{get_or_past, take-append-drop, get_or-map}
use Rattle.std.proofs.lemmas.List.Folds.{list_all_at}
use Rattle.std.proofs.lemmas.List.Elements.{recursion_from_All}
use Rattle.ac_query.specs.Asked.{Asked, Slot, slots_of, lists_suffix}
use Rattle.ac_cloud.specs.Trees.{chain}
use Rattle.ac_cloud.specs.World.{Provider, id_at, parent_of, is_above}
use Rattle.ac_rules.specs.Laws.{AreInOrder}
use Rattle.ac_rules.specs.Lists.{IsListBelow, lex_lt}
use Rattle.ac_rules.specs.Placed.{Placed, placed, slot_at, no_slot, assigned}
use Rattle.ac_rules.specs.Together.{listed, is_top, subtree}
use Rattle.ac_rules.specs.Judge.{tests, all_hold, is_candidate}
use Rattle.ac_prune.specs.Trees.Keys.{is_there}
use Rattle.ac_prune.specs.Search.{choices_at}
use Rattle.ac_prune.specs.QuerySearch.{choice_of, search_of}
use Rattle.ac_prune.specs.Parts.{IsNamed, AreParts, AreTops, AreLinked, KeepSeen}
use Rattle.ac_rules.proofs.Elements.{Among}
use Rattle.ac_rules.proofs.SlotLemmas.{each_at}
use Rattle.ac_prune.proofs.Search.SoughtLemmas.{IsSought, choice_in, place_of}
use Rattle.ac_prune.proofs.Search.OpenLemmas.{choices_here, is_search}
use Rattle.ac_prune.proofs.Roots.TreeLemmas.{all_there, any_found, or_right}
use Rattle.std.proofs.lemmas.Bool.Decides.{nat_tests}

-- the part of a choice that is marked, by any provider of it; past the end all marks are set
pub seen_part : (old new : List Bool) (parts list : List ℕ) (p j : ℕ) → length new ≡ length old
    → (slice_index parts (slice_index list j) < length old → slice_index_or new (slice_index parts (slice_index list j)) true ≡ true)
    → slice_index parts (slice_index list j) ≡ slice_index parts p → slice_index_or new (slice_index parts p) true ≡ true
seen_part old new parts list p j count marked same = search (rules, get_or_past)

-- ---- Those that a list names

-- a slot that is named, with its provider
record IsOf (names : List (List ℕ)) (ss : List Slot) (t : List ℕ) (a : ℕ) : Type 0 where
  slot : ℕ
  within : slot < length ss
  named : lists_suffix names (slice_index_or ss slot no_slot).suffix ≡ true
  is : slice_index t slot ≡ a

named_there : (names : List (List ℕ)) (ss : List Slot) (t : List ℕ) (s : ℕ) → length t ≡ length ss → s < length ss → lists_suffix names (slice_index_or ss s no_slot).suffix ≡ true
    → is_there (listed names (placed ss t)) (slice_index t s) ≡ true
named_there names [] t s size h named = absurd (omega (arith, h))
named_there names (x ∷ ss) [] s size h named = absurd (omega (arith, size))
named_there names (x ∷ ss) (p ∷ t) zero size h named = let on = eq-eqb p p refl in rw (named, on) refl
named_there names (x ∷ ss) (p ∷ t) (suc s) size h named = search (rules, or_right, named_there names ss t s (omega (arith, size)) (omega (arith, h)) named)

later : (names : List (List ℕ)) (x : Slot) (ss : List Slot) (p : ℕ) (t : List ℕ) (a : ℕ) → IsOf names ss t a → IsOf names (x ∷ ss) (p ∷ t) a
later names x ss p t a more = record { slot = suc more.slot; within = omega (arith, more.within); named = more.named; is = more.is }

there_named : (names : List (List ℕ)) (ss : List Slot) (t : List ℕ) (a : ℕ) → is_there (listed names (placed ss t)) a ≡ true → IsOf names ss t a
there_named names [] t a h = absurd (false≢true h)
there_named names (x ∷ ss) [] a h = absurd (false≢true h)
there_named names (x ∷ ss) (p ∷ t) a h = search (rules, later, ne_eqb, there_named names ss t a)

-- ---- Links

same_place : (all : List Provider) → AreInOrder all → (a b : ℕ) → a < length all → b < length all → id_at all a ≡ id_at all b → a ≡ b
same_place all order a b h k e = search rules

linked_up : (all : List Provider) (tops : List Bool) (parts : List ℕ) (k a b : ℕ)
    → ((q : ℕ) → q < length all → list_any (λ p. p == id_at all a) (chain (parent_of all) k (id_at all q)) ≡ true → slice_index parts q ≡ slice_index parts a) → slice_index parts a < length all
    → (parent : Option ℕ) → option_map (id_at all) parent ≡ parent_of all (id_at all b) → IfSome parent (λ q. (q < length all) × (slice_index parts q < length all → slice_index parts b ≡ slice_index parts q))
    → list_any (λ p. p == id_at all a) (unwrap_or (option_map (λ p. chain (parent_of all) k p) (parent_of all (id_at all b))) []) ≡ true → slice_index parts b ≡ slice_index parts a
linked_up all tops parts k a b next has None is same more = absurd (false≢true (rw (← is) at more))
linked_up all tops parts k a b next has (Some q) is same more = let one = next q same.0 (rw (← is) at more) in same.1 (omega (arith, one, has)) ∙ one

-- who is below a provider that has a part is of that part
linked_chain : (all : List Provider) → AreInOrder all → (tops : List Bool) (parts : List ℕ) → AreLinked all tops parts → (k a b : ℕ) → a < length all → b < length all → slice_index parts a < length all
    → list_any (λ p. p == id_at all a) (chain (parent_of all) k (id_at all b)) ≡ true → slice_index parts b ≡ slice_index parts a
linked_chain all order tops parts links zero a b low here has above = grind (arith, nat_tests)
linked_chain all order tops parts links (suc k) a b low here has above = elim (cases_eq (id_at all b) (id_at all a)) [
  | inl e ↦ ap (slice_index parts) (same_place all order b a here low e)
  | inr e ↦ let other = ne_eqb (id_at all b) (id_at all a) e in let link = links b here in
      linked_up all tops parts k a b (λ q low' more. linked_chain all order tops parts links k a q low low' has more) has link.parent link.is link.same (rw other at above)
]

candidate_subtree : (all : List Provider) (asked : Asked) (xs : List Placed) → all_hold (tests all asked xs) ≡ true → subtree all asked xs ≡ true
unfolding tests
candidate_subtree all asked xs h = grind arith

-- a list has a top in a candidate
has_top : (all : List Provider) (asked : Asked) (t : List ℕ) (k : ℕ) → is_candidate all asked t ≡ true → k < length asked.subtrees
    → list_any (λ a. is_top all (listed (get_or asked.subtrees k []) (assigned asked t)) a) (listed (get_or asked.subtrees k []) (assigned asked t)) ≡ true
unfolding is_candidate subtree
has_top all asked t k candidate h =
    let each = candidate_subtree all asked (assigned asked t) candidate in
    grind (arith, nat_tests, list_all_at)

top_above : (all : List Provider) (ps : List ℕ) (a b : ℕ) → is_top all ps a ≡ true → is_there ps b ≡ true → is_above all (id_at all a) (id_at all b) ≡ true
unfolding is_top
top_above all ps a b h there = all_there (λ b. is_above all (id_at all a) (id_at all b)) ps b h there

-- the provider of a slot of a candidate is one of its choices
pub choice_there : (all : List Provider) (asked : Asked) (t : List ℕ) (s : ℕ) → IsListBelow (length all) (length (slots_of asked)) t → is_candidate all asked t ≡ true → s < length (slots_of asked)
    → Among (choice_of all asked (slot_at asked s)) (slice_index t s)
choice_there all asked t s list candidate h =
    let m = search_of all asked in
    let short : s < length t = omega (arith, h, list.long) in
    let parts : t ≡ take s t ++ slice_index t s ∷ drop (suc s) t = sym (take-append-drop s t) ∙ ap (λ (u : List ℕ). take s t ++ u) (drop-cons t s 0 short) in
    let sought : IsSought m [] t = record { after = none t; wanted = candidate; long = list.long; low = recursion_from_All (λ p. p < length all) t list.below } in
    let choice = choice_in m (is_search all asked) [] t (take s t) (drop (suc s) t) (slice_index t s) sought parts in
    let long : length (take s t) ≡ s = length-take-le s t (omega (arith, short)) in
    subst (λ (xs : List ℕ). Among xs (slice_index t s)) (choices_here all asked s h) (subst (λ (n : ℕ). Among (choices_at m n) (slice_index t s)) long choice.among)
  where
    none : (t : List ℕ) → lex_lt t [] ≡ false
    none [] = refl
    none (x ∷ t) = refl

each_low : (all : List Provider) (asked : Asked) (t : List ℕ) (s : ℕ) → IsListBelow (length all) (length (slots_of asked)) t → s < length (slots_of asked) → slice_index t s < length all
each_low all asked t s list h = each_at (λ p. p < length all) t s 0 (recursion_from_All (λ p. p < length all) t list.below) (omega (arith, h, list.long))

-- all that a list names in a candidate have the part of one of them
record HaveOne (all : List Provider) (asked : Asked) (names : List (List ℕ)) (parts t : List ℕ) : Type 0 where
  part : ℕ
  within : part < length all
  is : (s : ℕ) → IsNamed asked names s → slice_index parts (slice_index t s) ≡ part

have_one : (all : List Provider) → AreInOrder all → (asked : Asked) (k : ℕ) (tops : List Bool) (parts : List ℕ) → k < length asked.subtrees → AreTops all asked (get_or asked.subtrees k []) tops → AreLinked all tops parts
    → (t : List ℕ) → IsListBelow (length all) (length (slots_of asked)) t → is_candidate all asked t ≡ true → HaveOne all asked (get_or asked.subtrees k []) parts t
have_one all order asked k tops parts h marked links t list candidate =
    let names = get_or asked.subtrees k [] in
    let ps = listed names (assigned asked t) in
    let found = any_found (λ a. is_top all ps a) ps (has_top all asked t k candidate h) in
    let a = found.0 in
    let of = there_named names (slots_of asked) t a found.1 in
    let low : a < length all = subst (λ (x : ℕ). x < length all) of.is (each_low all asked t of.slot list of.within) in
    let place = place_of (choice_of all asked (slot_at asked of.slot)) (slice_index t of.slot) (choice_there all asked t of.slot list candidate of.within) in
    let top : slice_index_or tops a true ≡ true = subst (λ (x : ℕ). slice_index_or tops x true ≡ true) (place.2 0 ∙ of.is) (marked of.slot place.0 (of.within, of.named) place.1) in
    let has = (links a low).top top in
    record {
      part = slice_index parts a;
      within = has;
      is = λ s named.
          linked_chain all order tops parts links (length all) a (slice_index t s) low (each_low all asked t s list named.0) has
          (top_above all ps a (slice_index t s) found.2 (named_there names (slots_of asked) t s list.long named.0 named.1));
    }

pub linked_parts : (all : List Provider) → AreInOrder all → (asked : Asked) (k : ℕ) (tops : List Bool) (parts : List ℕ) → k < length asked.subtrees → length parts ≡ length all
    → AreTops all asked (get_or asked.subtrees k []) tops → AreLinked all tops parts → AreParts all asked (get_or asked.subtrees k []) parts
linked_parts all order asked k tops parts h size marked links = record {
  count = size;
  within = λ t s list candidate named. let one = have_one all order asked k tops parts h marked links t list candidate in omega (arith, one.is s named, one.within);
  one = λ t s u list candidate named other. let one = have_one all order asked k tops parts h marked links t list candidate in one.is s named ∙ sym (one.is u other);
}

-- ---- Parts in which each slot has a choice

pub seen_parts : (all : List Provider) (asked : Asked) (names : List (List ℕ)) (old new : List ℕ) (s : ℕ) → IsNamed asked names s → AreParts all asked names old
    → KeepSeen old (choice_of all asked (slot_at asked s)) new → AreParts all asked names new
seen_parts all asked names old new s named was keeps = record {
  count = keeps.count ∙ was.count;
  within = λ t u list candidate other. omega (arith, stays t u list candidate other, was.within t u list candidate other);
  one = λ t u v list candidate other third. stays t u list candidate other ∙ (was.one t u v list candidate other third ∙ sym (stays t v list candidate third));
}
  where
    stays : (t : List ℕ) (u : ℕ) → IsListBelow (length all) (length (slots_of asked)) t → is_candidate all asked t ≡ true → IsNamed asked names u → slice_index new (slice_index t u) ≡ slice_index old (slice_index t u)
    stays t u list candidate other =
        let place = place_of (choice_of all asked (slot_at asked s)) (slice_index t s) (choice_there all asked t s list candidate named.0) in
        keeps.kept (slice_index t u) place.0 (omega (arith, each_low all asked t u list other.0, was.count)) place.1 (ap (slice_index old) (place.2 0) ∙ was.one t s u list candidate named other)

-- ---- Who can't stand with a front

pub named_at : (names : List (List ℕ)) (ss : List Slot) (named : List Bool) (s : ℕ) (d : Bool) → named ≡ map (λ (x : Slot). lists_suffix names x.suffix) ss → s < length ss → slice_index_or named s d ≡ true
    → lists_suffix names (slice_index_or ss s no_slot).suffix ≡ true
named_at names ss named s d is h mark = sym (get_or-map (λ (x : Slot). lists_suffix names x.suffix) ss s no_slot d h) ∙ (ap (λ (bs : List Bool). slice_index_or bs s d) (sym is) ∙ mark)
