-- What a list of `same_subtree` says of a front.
use Rattle.std.proofs.Common.{◌≡◌, ◌∙◌, ◌<◌, ◌≤◌, ◌++◌, ◌∷◌, [], ℕ, List, Bool, true, false, inl, inr, length, map, slice_index, slice_index_or, refl, ap, sym, arith, length-append}
use Rattle.std.proofs.lemmas.Bool.{cases_Bool, false≢true}
use Rattle.std.proofs.lemmas.List.{length-map, get_or_default, get_or_past, get_or_append_left, get_or_push}
use Rattle.std.proofs.lemmas.List.Elements.{recursion_from_All}
use Rattle.ac_query.specs.Asked.{Asked, Slot, slots_of, lists_suffix}
use Rattle.ac_cloud.specs.World.{Provider}
use Rattle.ac_rules.specs.Judge.{is_candidate}
use Rattle.ac_rules.proofs.SlotLemmas.{each_at}
use Rattle.ac_prune.specs.Left.Accounts.{providers_in, asked_in}
use Rattle.ac_prune.specs.Families.{Names, IsFamily}
use Rattle.ac_prune.specs.Ahead.Fronts.{LeadsNowhere}
use Rattle.ac_prune.specs.Parts.{IsNamed, AreParts}
use Rattle.ac_prune.specs.Trees.{IsByPart, AreByPart}
use Rattle.ac_prune.specs.declared.trees.by_tree.Places.{Places}
use Rattle.ac_prune.specs.declared.families.Family.{Family}
use Rattle.ac_prune.specs.declared.front.Front.{Front}
use Rattle.ac_prune.proofs.Paths.FrontLemmas.{listed_at}
use Rattle.ac_prune.proofs.Roots.PartLemmas.{named_at}
use Rattle.std.proofs.Common.{rules}

-- a slot that is marked is named
marked_named : (asked : Asked) (names : List (List ℕ)) (family : Family) (s : ℕ) → family.named.items ≡ map (λ (x : Slot). lists_suffix names x.suffix) (slots_of asked) → Names family s → IsNamed asked names s
marked_named asked names family s is mark = search (rules, length-map, named_at, false≢true, get_or_past)

pub family_made : (all : List Provider) (asked : Asked) (names : List (List ℕ)) (family : Family) → family.named.items ≡ map (λ (x : Slot). lists_suffix names x.suffix) (slots_of asked)
    → (family.first < length family.named.items → Names family family.first) → AreParts all asked names family.parts.items → AreByPart all asked family.parts.items family.places.items → IsFamily all asked family
family_made all asked names family is first parts placed = search (rules, length-map, marked_named)

abbrev IsIn : Front → Family → Type 0
IsIn f family = IsFamily (providers_in f.ledger.now) (asked_in f.ledger.now) family

-- the slot behind the path is named
named_here : (f : Front) (family : Family) (mark : Bool) → IsIn f family → mark ≡ slice_index_or family.named.items (length f.path.now) mark → mark ≡ true → Names family (length f.path.now)
named_here f family mark is at on = sym (get_or_default family.named.items (length f.path.now) mark false (omega (arith, f.short, is.named))) ∙ (sym at ∙ on)

-- the part of the first provider that is named
pub first_part : (f : Front) (family : Family) (d : ℕ) → IsIn f family → family.first < length f.path.now
    → d ≡ slice_index_or family.parts.items (slice_index f.path.now family.first) d → d ≡ slice_index family.parts.items (slice_index f.path.now family.first)
first_part f family d is less at = search (rules, each_at, recursion_from_All, get_or_default)

-- the choices behind the path, by part
pub choices_by_part : (f : Front) (family : Family) (b : Places) → IsIn f family → b ≡ slice_index_or family.places.items (length f.path.now) b → IsByPart f.choices.now family.parts.items b
choices_by_part f family b is at = search (rules, listed_at)

-- the last provider of a front, with what goes on from it
last_is : (path v : List ℕ) (p : ℕ) → slice_index ((path ++ p ∷ []) ++ v) (length path) ≡ p
last_is path v p = get_or_append_left (path ++ p ∷ []) v 0 (length path) (omega (arith, length-append path (p ∷ []))) ∙ get_or_push path p 0 (length path) refl

-- no candidate goes on by a provider of another part
pub elsewhere_leads_nowhere : (f : Front) (family : Family) (p : ℕ) (mark : Bool) → IsIn f family → mark ≡ slice_index_or family.named.items (length f.path.now) mark → mark ≡ true
    → family.first < length f.path.now → (slice_index family.parts.items p ≡ slice_index family.parts.items (slice_index f.path.now family.first) → ⊥) → LeadsNowhere f p
elsewhere_leads_nowhere f family p mark is at on less differ v list =
    let path = f.path.now in
    let t = (path ++ p ∷ []) ++ v in
    let size = length-append path (p ∷ []) in
    let early : slice_index t family.first ≡ slice_index path family.first = get_or_append_left (path ++ p ∷ []) v 0 family.first (omega (arith, size, less)) ∙ get_or_append_left path (p ∷ []) 0 family.first less in
    elim (cases_Bool (is_candidate (providers_in f.ledger.now) (asked_in f.ledger.now) t)) [
      | inr e ↦ e
      | inl e ↦ absurd (differ (ap (slice_index family.parts.items) (sym (last_is path v p))
          ∙ (is.one t (length path) family.first list e (named_here f family mark is at on) (is.first (omega (arith, less, f.short, is.named))) ∙ ap (slice_index family.parts.items) early)))
    ]

-- nor by one of no part
pub partless_leads_nowhere : (f : Front) (family : Family) (p : ℕ) (mark : Bool) → IsIn f family → mark ≡ slice_index_or family.named.items (length f.path.now) mark → mark ≡ true
    → length (providers_in f.ledger.now) ≤ slice_index family.parts.items p → LeadsNowhere f p
partless_leads_nowhere f family p mark is at on none v list =
    let t = (f.path.now ++ p ∷ []) ++ v in
    elim (cases_Bool (is_candidate (providers_in f.ledger.now) (asked_in f.ledger.now) t)) [
      | inr e ↦ e
      | inl e ↦ absurd (omega (arith, none, is.within t (length f.path.now) list e (named_here f family mark is at on), ap (slice_index family.parts.items) (last_is f.path.now v p)))
    ]
