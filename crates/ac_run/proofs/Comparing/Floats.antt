-- A request in order has no float, so that its text is known.
use Rattle.std.proofs.Common.{◌≡◌, ◌∙◌, ◌∷◌, if◌then◌else◌, ℕ, Bool, true, false, List, [], map, fold, Option, Some, None, option_map, Ordering, Less, Equal, Greater, nat_cmp, refl, sym, ap, codes}
use Rattle.std.proofs.lemmas.Bool.{or_parts}
use Rattle.std.specs.Cmp.Lexicographic.{slice_cmp}
use Rattle.std.specs.Option.{option_and_then}
use Rattle.std.specs.Ordering.{match_ordering}
use Rattle.ac_base.specs.Sorted.{rising}
use Rattle.ac_base.specs.Texts.{text_cmp}
use Rattle.serde_json.specs.Data.{Data, string, array, object, Members, no_members, member, put}
use Rattle.serde_json.specs.Find.{as_object, get_member}
use Rattle.serde_json.specs.View.{items_of}
use Rattle.serde_json.specs.Written.{compact_text, has_float, items_have_float, members_have_float}
use Rattle.ac_report.specs.Trees.{gathered, texts}
use Rattle.ac_run.specs.Compared.{each, in_order, mappings_in_order, member_in_order, members_listed, object_at, request_in_order, request_of, strings}

-- ---- what stands at a name

member_has_none : (name : List ℕ) (ms : Members) (d : Data) → members_have_float ms ≡ false → get_member name ms ≡ Some d → has_float d ≡ false
member_has_none name no_members d none is = absurd (cc)
member_has_none name (member l e ms) d none is =
    let both = or_parts (has_float e) (members_have_float ms) none in
    by_order (slice_cmp nat_cmp name l) both.0 (member_has_none name ms d both.1) is
  where
    by_order : (o : Ordering) → has_float e ≡ false → (get_member name ms ≡ Some d → has_float d ≡ false) → match_ordering o (get_member name ms) (Some e) (get_member name ms) ≡ Some d → has_float d ≡ false
    by_order Less one later found = later found
    by_order Equal one later found = let same : e ≡ d = cc in ap has_float (sym same) ∙ one
    by_order Greater one later found = later found

object_has_none : (d : Data) (ms : Members) → has_float d ≡ false → as_object d ≡ Some ms → members_have_float ms ≡ false
object_has_none (object ns) ms none is = let same : ns ≡ ms = cc in ap members_have_float (sym same) ∙ none
object_has_none d ms none is = absurd (cc)

at_has_none : (name : List ℕ) (d : Data) (ms : Members) → has_float d ≡ false → object_at name d ≡ Some ms → members_have_float ms ≡ false
at_has_none name (object ns) ms none is = by_value (get_member name ns) refl is
  where
    by_value : (o : Option Data) → get_member name ns ≡ o → option_and_then as_object o ≡ Some ms → members_have_float ms ≡ false
    by_value None e found = absurd (cc)
    by_value (Some e) is found = object_has_none e ms (member_has_none name ns e none is) found
at_has_none name d ms none is = absurd (cc)

-- ---- what is put in order

texts_have_none : (ts : List (List ℕ)) → items_have_float (items_of (map string ts)) ≡ false
texts_have_none [] = refl
texts_have_none (t ∷ ts) = texts_have_none ts

array_has_none : (d e : Data) → in_order d ≡ Some e → has_float e ≡ false
unfolding in_order texts
array_has_none d e is = by_strings (strings d) is
  where
    by_strings : (o : Option (List (List ℕ))) → option_map (λ ts. texts (rising text_cmp ts)) o ≡ Some e → has_float e ≡ false
    by_strings None found = absurd (cc)
    by_strings (Some ts) found = let same : array (items_of (map string (rising text_cmp ts))) ≡ e = cc in ap has_float (sym same) ∙ texts_have_none (rising text_cmp ts)

put_has_none : (name : List ℕ) (d : Data) (ms : Members) → has_float d ≡ false → members_have_float ms ≡ false → members_have_float (put name d ms) ≡ false
put_has_none name d no_members one none = rw one refl
put_has_none name d (member l e ms) one none =
    let both = or_parts (has_float e) (members_have_float ms) none in
    by_order (slice_cmp nat_cmp name l) both.0 both.1 (put_has_none name d ms one both.1)
  where
    by_order : (o : Ordering) → has_float e ≡ false → members_have_float ms ≡ false → members_have_float (put name d ms) ≡ false
        → members_have_float (match_ordering o (member name d (member l e ms)) (member l d ms) (member l e (put name d ms))) ≡ false
    by_order Less first others later = rw (one, first) others
    by_order Equal first others later = rw one others
    by_order Greater first others later = rw first later

abbrev Named : Type 0
Named = List (List ℕ × Data)

-- what is gathered behind a first member that has none
abbrev Later : Members → Named → List ℕ → Type 0
Later done ms name = (d : Data) → has_float d ≡ false → (ns : Named) → each member_in_order ms ≡ Some ns → members_have_float (fold (λ done m. put m.0 m.1 done) (put name d done) ns) ≡ false

gathered_have_none : (ms : Named) (done : Members) (ordered : Named) → members_have_float done ≡ false → each member_in_order ms ≡ Some ordered
    → members_have_float (fold (λ done m. put m.0 m.1 done) done ordered) ≡ false
gathered_have_none [] done ordered none is = let same : [] ≡ ordered = cc in ap (λ ns. members_have_float (fold (λ done m. put m.0 m.1 done) done ns)) (sym same) ∙ none
gathered_have_none (m ∷ ms) done ordered none is = by_first (in_order m.1) refl (λ d one ns e. gathered_have_none ms (put m.0 d done) ns (put_has_none m.0 d done one none) e) is
  where
    by_others : (d : Data) → has_float d ≡ false → (o : Option Named) → each member_in_order ms ≡ o → Later done ms m.0 → option_map (λ ns. (m.0, d) ∷ ns) o ≡ Some ordered
        → members_have_float (fold (λ done m. put m.0 m.1 done) done ordered) ≡ false
    by_others d one None e later found = absurd (cc)
    by_others d one (Some ns) e later found =
        let same : (m.0, d) ∷ ns ≡ ordered = cc in ap (λ ns. members_have_float (fold (λ done m. put m.0 m.1 done) done ns)) (sym same) ∙ later d one ns e

    by_first : (o : Option Data) → in_order m.1 ≡ o → Later done ms m.0 → option_and_then (λ y. option_map (λ ns. y ∷ ns) (each member_in_order ms)) (option_map (λ d. (m.0, d)) o) ≡ Some ordered
        → members_have_float (fold (λ done m. put m.0 m.1 done) done ordered) ≡ false
    by_first None e later found = absurd (cc)
    by_first (Some d) e later found = by_others d (array_has_none m.1 d e) (each member_in_order ms) refl later found

mappings_have_none : (ms : Members) (d : Data) → mappings_in_order ms ≡ Some d → has_float d ≡ false
unfolding mappings_in_order
mappings_have_none ms d is = by_each (each member_in_order (members_listed ms)) refl is
  where
    by_each : (o : Option (List (List ℕ × Data))) → each member_in_order (members_listed ms) ≡ o → option_map object (option_map gathered o) ≡ Some d → has_float d ≡ false
    by_each None e found = absurd (cc)
    by_each (Some ns) e found = let same : object (gathered ns) ≡ d = cc in ap has_float (sym same) ∙ gathered_have_none (members_listed ms) no_members ns refl e

request_has_none : (d r : Data) → request_in_order d ≡ Some r → has_float r ≡ false
unfolding request_in_order
request_has_none d r is = by_floats (has_float d) refl is
  where
    by_mappings : (ms : Members) → members_have_float ms ≡ false → (o : Option Members) → option_map (request_of ms) (option_and_then mappings_in_order o) ≡ Some r → has_float r ≡ false
    by_mappings ms none None found = absurd (cc)
    by_mappings ms none (Some ns) found = by_value (mappings_in_order ns) refl found
      where
        by_value : (o : Option Data) → mappings_in_order ns ≡ o → option_map (request_of ms) o ≡ Some r → has_float r ≡ false
        by_value None e found = absurd (cc)
        by_value (Some e) is found = let same : request_of ms e ≡ r = cc in ap has_float (sym same) ∙ rw (none, mappings_have_none ns e is) refl

    by_allocations : has_float d ≡ false → (o : Option Members) → object_at (codes "allocations") d ≡ o
        → option_and_then (λ allocations. option_map (request_of allocations) (option_and_then mappings_in_order (object_at (codes "mappings") d))) o ≡ Some r → has_float r ≡ false
    by_allocations none None e found = absurd (cc)
    by_allocations none (Some ms) e found = by_mappings ms (at_has_none (codes "allocations") d ms none e) (object_at (codes "mappings") d) found

    by_floats : (b : Bool) → has_float d ≡ b
        → (if b then None
        else option_and_then (λ allocations. option_map (request_of allocations) (option_and_then mappings_in_order (object_at (codes "mappings") d))) (object_at (codes "allocations") d))
        ≡ Some r → has_float r ≡ false
    by_floats true e found = absurd (cc)
    by_floats false none found = by_allocations none (object_at (codes "allocations") d) refl found

-- the text of the value that was made of a request
pub text_of_request : (d r : Data) (s : List ℕ) → Some r ≡ request_in_order d → (has_float r ≡ false → s ≡ compact_text r) → Some s ≡ option_map compact_text (request_in_order d)
text_of_request d r s is text = ap Some (text (request_has_none d r (sym is))) ∙ ap (option_map compact_text) is
