-- The first item of resources that is wrong, in a pass over what is left: classes that are seen may stand in any order.
use Rattle.std.proofs.lemmas.Cmp.{nat_list_cmp_total}
use Rattle.std.proofs.lemmas.Map.Text.{is_eq-slice_cmp}
use Rattle.std.proofs.Common.{◌≡◌, ◌∙◌, ◌||◌, ℕ, Bool, true, false, List, [], ◌∷◌, map, Option, Some, None, Ordering, refl, sym, ap, ap₂, bytes_eq, is_eq, if◌then◌else◌}
use Rattle.std.specs.Prelude.{not}
use Rattle.std.specs.BTreeMap.{is_at}
use Rattle.std.specs.BTreeSet.{insert_key}
use Rattle.std.specs.List.{list_any}
use Rattle.std.specs.Option.{option_map_or}
use Rattle.ac_base.proofs.Sorted.SameItems.{has_inserted}
use Rattle.ac_base.proofs.Sorted.SearchFacts.{any_map, any_same}
use Rattle.ac_base.specs.Texts.{text_cmp}
use Rattle.ac_query.specs.Texts.{has_text}
use Rattle.ac_remedies.specs.Queries.Wanted.{class_in, wrong_after}

-- what an item of this class tells, or else the items behind it
abbrev told : List (List ℕ) → List ℕ → (List ℕ → Option (List ℕ)) → Option (List ℕ) → Option (List ℕ)
told seen item later class = option_map_or (λ c. if has_text seen c then Some item else later c) class (Some item)

same_told : (seen more : List (List ℕ)) (item : List ℕ) (later other : List ℕ → Option (List ℕ)) → ((t : List ℕ) → has_text seen t ≡ has_text more t) → ((c : List ℕ) → later c ≡ other c)
    → (class : Option (List ℕ)) → told seen item later class ≡ told more item other class
same_told seen more item later other same behind None = refl
same_told seen more item later other same behind (Some c) = ap₂ (λ b o. if b then Some item else o) (same c) (behind c)

same_wrong : (seen more items : List (List ℕ)) → ((t : List ℕ) → has_text seen t ≡ has_text more t) → wrong_after seen items ≡ wrong_after more items
unfolding wrong_after
same_wrong seen more [] same = refl
same_wrong seen more (item ∷ items) same =
    same_told seen more item (λ c. wrong_after (c ∷ seen) items) (λ c. wrong_after (c ∷ more) items) same
    (λ c. same_wrong (c ∷ seen) (c ∷ more) items (λ t. ap (λ b. bytes_eq t c || b) (same t))) (class_in item)

-- whether a class is among keys, by their order or as texts
key_seen : (t : List ℕ) (keys : List (List ℕ)) → list_any (is_at (text_cmp t)) keys ≡ has_text keys t
key_seen t keys = any_same (is_at (text_cmp t)) (bytes_eq t) (is_eq-slice_cmp t) keys

one_more : (keys : List (List ℕ)) (c t : List ℕ) → has_text (c ∷ keys) t ≡ has_text (insert_key text_cmp keys c) t
one_more keys c t =
    ap₂ (λ a b. a || b) (sym (is_eq-slice_cmp t c)) (sym (key_seen t keys))
    ∙ sym (has_inserted nat_list_cmp_total t keys c)
    ∙ key_seen t (insert_key text_cmp keys c)

from_not : (a b : Bool) → a ≡ not b → b ≡ not a
from_not a true is = sym (ap not is)
from_not a false is = sym (ap not is)

-- a key that wasn't added is among those that are shown
pub among_shown : {K : Type 0} (f : K → List ℕ) (cmp : K → K → Ordering) → ((a b : K) → cmp a b ≡ text_cmp (f a) (f b)) → (keys : List K) (k : K) (added : Bool)
    → added ≡ not (list_any (is_at (cmp k)) keys) → has_text (map f keys) (f k) ≡ not added
among_shown f cmp same keys k added is =
    sym (key_seen (f k) (map f keys))
    ∙ sym (any_map (is_at (cmp k)) (is_at (text_cmp (f k))) f (λ x. ap is_eq (same k x)) keys)
    ∙ from_not added (list_any (is_at (cmp k)) keys) is

module _ (keys left rest : List (List ℕ)) (item : List ℕ) (whole : Option (List ℕ)) (turn : left ≡ item ∷ rest) (holds : wrong_after keys left ≡ whole) where
  here : told keys item (λ c. wrong_after (c ∷ keys) rest) (class_in item) ≡ whole
  unfolding wrong_after
  here = sym (ap (wrong_after keys) turn) ∙ holds

  pub no_class : None ≡ class_in item → Some item ≡ whole
  no_class is = ap (told keys item (λ c. wrong_after (c ∷ keys) rest)) is ∙ here

  module _ (c : List ℕ) (is : Some c ≡ class_in item) where
    of : (if has_text keys c then Some item else wrong_after (c ∷ keys) rest) ≡ whole
    of = ap (told keys item (λ c. wrong_after (c ∷ keys) rest)) is ∙ here

    pub class_seen : has_text keys c ≡ true → Some item ≡ whole
    class_seen there = sym (ap (λ b. if b then Some item else wrong_after (c ∷ keys) rest) there) ∙ of

    pub class_new : has_text keys c ≡ false → wrong_after (insert_key text_cmp keys c) rest ≡ whole
    class_new new =
        sym (same_wrong (c ∷ keys) (insert_key text_cmp keys c) rest (one_more keys c))
        ∙ sym (ap (λ b. if b then Some item else wrong_after (c ∷ keys) rest) new) ∙ of
