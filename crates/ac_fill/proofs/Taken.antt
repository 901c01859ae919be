-- What is taken, by providers and classes, and the world that it leaves.
use Rattle.std.proofs.Common.{◌≡◌, ◌∙◌, ◌<◌, ◌≤◌, ◌+◌, ◌*◌, ◌/◌, ◌%◌, ◌^◌, ◌==◌, ◌&&◌, if◌then◌else◌, ℕ, zero, suc, Bool, false, Bor, List, [], ◌∷◌, drop, get_or, length, map, nat_le, replicate, set, slice_index, slice_index_or, Option, None, Some, refl, sym, ap, ap₂, subst, arith, inl, inr, option_map, unwrap_or}
use Rattle.std.specs.List.{AllByRecursion as Each}
use Rattle.std.specs.List.Sorted.{IsStrictlySortedBy}
use Rattle.std.specs.Map.{keys_of}
use Rattle.std.specs.Str.{bytes_eq}
use Rattle.std.proofs.Math.Nat.{mul_comm, mul-le-mul_left}
use Rattle.std.proofs.lemmas.Bool.{and_parts, cases_Bool, cases_eq, cases_lt, eq-eqb, ne_eqb}
use Rattle.std.proofs.lemmas.Bool.Decides.{nat_tests}
use Rattle.std.proofs.lemmas.Grind.{get_or-set_at}
use Rattle.std.proofs.lemmas.List.{drop_more, get_or_past, get_or-map, get_or-replicate, get_or-set_other, length-replicate}
use Rattle.std.proofs.lemmas.Nat.{div-mul-add, mod-mul-add}
use Rattle.std.proofs.lemmas.Slice.Eq.{bytes_eq-Decides}
use Rattle.ac_base.proofs.Small.{are_equal}
use Rattle.ac_base.specs.Names.{class_bytes}
use Rattle.ac_base.specs.declared.name.ClassName.{ClassName}
use Rattle.ac_base.specs.Quantities.{InventoryNumbers, capacity}
use Rattle.ac_base.specs.Texts.{text_cmp}
use Rattle.ac_cloud.specs.Amounts.{amount_at, with_amounts}
use Rattle.ac_cloud.specs.World.{Provider, UsedInventory, provider_at, entry_in, used_of}
use Rattle.ac_cloud.proofs.Amounts.{amounts_again, amounts_kept, amounts_same_found, entries}
use Rattle.ac_rules.specs.Room.{class_number, IsKnown}
use Rattle.ac_rules.proofs.ClassLemmas.{known_at}
use Rattle.ac_query.specs.Asked.{Slot}
use Rattle.ac_query.specs.Shown.Groups.{need_entry}
use Rattle.ac_query.specs.declared.group.Need.{Need}
use Rattle.ac_rules.specs.Claims.{claimed}
use Rattle.ac_rules.specs.Placed.{Placed, placed, no_slot}
use Rattle.ac_rules.specs.Shown.Changes.{asked_of_one}
use Rattle.ac_rules.specs.Together.{amount_of, sum_on, has_room, holds}
use Rattle.ac_rules.proofs.PlacedLemmas.{placed_more}
use Rattle.ac_fill.specs.Shown.{texts_in}
use Rattle.ac_fill.specs.declared.takings.Takings.{Takings}
use Rattle.std.proofs.lemmas.Grind.{common_steps}

-- ---- places

pub nothing : (n i : ℕ) → slice_index (replicate n 0) i ≡ 0
nothing n i = grind (arith, common_steps, cases_lt, get_or-replicate, get_or_past, length-replicate)

-- a place is that of one class and one provider alone
same_class : (n k p l q : ℕ) → p < n → q < n → k * n + p ≡ l * n + q → k ≡ l
same_class n k p l q h j e = sym (div-mul-add k n p h) ∙ (ap (λ (m : ℕ). m / n) e ∙ div-mul-add l n q j)

same_provider : (n k p l q : ℕ) → p < n → q < n → k * n + p ≡ l * n + q → p ≡ q
same_provider n k p l q h j e = sym (mod-mul-add k n p h) ∙ (ap (λ (m : ℕ). m % n) e ∙ mod-mul-add l n q j)

same_text : (texts : List (List ℕ)) (c d : List ℕ) → IsKnown texts c → class_number texts c ≡ class_number texts d → c ≡ d
same_text texts c d h e =
    let there : IsKnown texts d = omega (arith, e, h) in
    sym (known_at texts c h) ∙ (ap (λ (k : ℕ). slice_index_or texts k []) e ∙ known_at texts d there)

-- what one need asks of another class, or of another provider, is nothing
asks_other : (n p q : ℕ) (texts : List (List ℕ)) (need : List ℕ × ℕ) (class : List ℕ) → (class_number texts need.0 * n + p ≡ class_number texts class * n + q → ⊥)
    → asked_of_one p (need ∷ []) q class ≡ 0
asks_other n p q texts need class other = elim (cases_eq p q) [
  | inr apart ↦ rw (ne_eqb p q apart) refl
  | inl same ↦ elim (cases_Bool (bytes_eq need.0 class)) [
    | inr apart ↦ rw (eq-eqb p q same, apart) refl
    | inl met ↦ absurd (other (ap₂ (λ (c : List ℕ) (k : ℕ). class_number texts c * n + k) ((bytes_eq-Decides need.0 class).0 met) same))
  ]
]

asks_here : (p q : ℕ) (need : List ℕ × ℕ) (class : List ℕ) → p ≡ q → need.0 ≡ class → asked_of_one p (need ∷ []) q class ≡ need.1
asks_here p q need class same met = let e = (bytes_eq-Decides need.0 class).1 met in rw (eq-eqb p q same, e) (omega arith)

-- one need is taken, so many times
pub taken_one : (items : List ℕ) (texts : List (List ℕ)) (times n p q place sum : ℕ) (need : List ℕ × ℕ) (class : List ℕ) → p < n → q < n → IsKnown texts need.0
    → place ≡ class_number texts need.0 * n + p → place < length items → sum ≡ slice_index items place + times * need.1
    → slice_index (set items place sum) (class_number texts class * n + q)
    ≡ slice_index items (class_number texts class * n + q) + times * asked_of_one p (need ∷ []) q class
taken_one items texts times n p q place sum need class h j known is inside e =
    let there = class_number texts class * n + q in
    elim (cases_eq there place) [
      | inl same ↦
          let met : class_number texts need.0 * n + p ≡ class_number texts class * n + q = sym is ∙ sym same in
          let one = asks_here p q need class (same_provider n (class_number texts need.0) p (class_number texts class) q h j met)
          (same_text texts need.0 class known (same_class n (class_number texts need.0) p (class_number texts class) q h j met)) in
          get_or-set_at items place there sum 0 same inside ∙ omega (arith, e, ap (slice_index items) same, ap (λ (m : ℕ). times * m) one)
      | inr other ↦
          let none = asks_other n p q texts need class (λ met. other (sym met ∙ sym is)) in
          get_or-set_other items place there sum 0 other ∙ omega (arith, ap (λ (m : ℕ). times * m) none)
    ]

-- ---- needs, and slots

-- the next need, and those behind it
pub next_need : (needs : List Need) (i : ℕ) (need : Need) → i < length needs → need ≡ slice_index_or needs i need
    → map need_entry (drop i needs) ≡ need_entry need ∷ map need_entry (drop (i + 1) needs)
next_need needs i need inside is = ap (map need_entry) (drop_more needs i need inside ∙ ap (λ n. n ∷ drop (i + 1) needs) (sym is))

-- one need more of several
pub needs_more : (p : ℕ) (need : List ℕ × ℕ) (needs : List (List ℕ × ℕ)) (q : ℕ) (class : List ℕ)
    → asked_of_one p (need ∷ needs) q class ≡ asked_of_one p (need ∷ []) q class + asked_of_one p needs q class
needs_more p need needs q class = elim (cases_Bool (p == q)) [ inl e ↦ rw e (omega arith) | inr e ↦ rw e refl ]

-- one slot more of several
pub slots_more : (slots : List Slot) (list : List ℕ) (s q : ℕ) (class : List ℕ) → s < length list → s < length slots
    → sum_on (placed (drop s slots) (drop s list)) q class
    ≡ asked_of_one (slice_index list s) (slice_index_or slots s no_slot).needs q class + sum_on (placed (drop (s + 1) slots) (drop (s + 1) list)) q class
slots_more slots list s q class h k = ap (λ xs. sum_on xs q class) (placed_more slots list s no_slot h k)

-- so many times one need of several, or one slot of several, and then the others
pub times_needs : (times p : ℕ) (need : List ℕ × ℕ) (needs : List (List ℕ × ℕ)) (q : ℕ) (class : List ℕ)
    → times * asked_of_one p (need ∷ needs) q class ≡ times * asked_of_one p (need ∷ []) q class + times * asked_of_one p needs q class
times_needs times p need needs q class = ap (λ (m : ℕ). times * m) (needs_more p need needs q class) ∙ omega arith

pub times_slots : (times : ℕ) (slots : List Slot) (list : List ℕ) (s q : ℕ) (class : List ℕ) → s < length list → s < length slots
    → times * sum_on (placed (drop s slots) (drop s list)) q class
    ≡ times * asked_of_one (slice_index list s) (slice_index_or slots s no_slot).needs q class
    + times * sum_on (placed (drop (s + 1) slots) (drop (s + 1) list)) q class
times_slots times slots list s q class h k = ap (λ (m : ℕ). times * m) (slots_more slots list s q class h k) ∙ omega arith

-- what is asked still fits, where all of it does
pub fits_slot : (times now start q rest left all : ℕ) (class : List ℕ) (needs : List (List ℕ × ℕ)) → now + left ≡ start + all
    → left ≡ times * asked_of_one q needs q class + rest → start ≤ now → (0 < all → start + all < 2 ^ 64) → 0 < times * amount_of needs class → now + times * amount_of needs class < 2 ^ 64
fits_slot times now start q rest left all class needs same split grown fits some =
    let first : left ≡ times * amount_of needs class + rest =
    split ∙ ap (λ (b : Bool). times * (if b then amount_of needs class else 0) + rest) (eq-eqb q q refl) in
    omega (arith, same, first, fits (omega (arith, same, first, grown, some)))

pub fits_one : (times now start p : ℕ) (need : List ℕ × ℕ) (rest all : List (List ℕ × ℕ))
    → now + times * asked_of_one p (need ∷ rest) p need.0 ≡ start + times * asked_of_one p all p need.0 → start ≤ now
    → (0 < times * amount_of all need.0 → start + times * amount_of all need.0 < 2 ^ 64) → 0 < times * need.1 → now + times * need.1 < 2 ^ 64
fits_one times now start p need rest all same grown fits some =
    let one : times * asked_of_one p (need ∷ []) p need.0 ≡ times * need.1 = ap (λ (m : ℕ). times * m) (asks_here p p need need.0 refl refl) in
    let whole : times * asked_of_one p all p need.0 ≡ times * amount_of all need.0 =
    ap (λ (b : Bool). times * (if b then amount_of all need.0 else 0)) (eq-eqb p p refl) in
    let split = times_needs times p need rest p need.0 in
    omega (arith, same, split, one, whole, fits (omega (arith, same, split, one, whole, grown, some)))

-- what holds of each class that slots name, at their providers, holds wherever they ask anything
each_class : (P : List ℕ → Type 0) (needs : List (List ℕ × ℕ)) (class : List ℕ) → Each (λ need. P need.0) needs → 0 < amount_of needs class → P class
each_class P [] class h some = absurd (omega (arith, some))
each_class P (need ∷ needs) class h some = grind (arith, common_steps, cases_Bool, each_class P needs class h.1, bytes_eq, bytes_eq-Decides)

pub each_sum : (P : ℕ → List ℕ → Type 0) (xs : List Placed) → Each (λ x. Each (λ need. P x.provider need.0) x.slot.needs) xs → (p : ℕ) (class : List ℕ) → 0 < sum_on xs p class → P p class
each_sum P [] h p class some = absurd (omega (arith, some))
each_sum P (x ∷ xs) h p class some = elim (cases_lt 0 (sum_on xs p class)) [
  | inl later ↦ each_sum P xs h.1 p class later
  | inr none ↦ elim (cases_Bool (x.provider == p)) [
    | inl here ↦ subst (λ (q : ℕ). P q class) (are_equal x.provider p here) (each_class (P x.provider) x.slot.needs class h.0 (let first = rw here at some in omega (arith, first, none)))
    | inr other ↦ absurd (let first = rw other at some in omega (arith, first, none))
  ]
]

-- ---- the world

-- what is taken besides is claimed
pub taken_claims : (all : List Provider) (old new : ℕ → List ℕ → ℕ) (xs : List Placed) → ((ix : ℕ) → ix < length all → IsStrictlySortedBy text_cmp (keys_of (provider_at all ix).entries))
    → ((p : ℕ) (class : List ℕ) → p < length all → new p class ≡ old p class + sum_on xs p class)
    → with_amounts (λ ix class had. had.used + new ix class) all ≡ claimed (with_amounts (λ ix class had. had.used + old ix class) all) xs
unfolding claimed
taken_claims all old new xs rise more =
    amounts_same_found (λ ix class had. had.used + new ix class) (λ ix class had. had.used + old ix class + sum_on xs ix class) all rise
    (λ ix class had inside there. let now = more ix class inside in omega (arith, now))
    ∙ sym (amounts_again (λ ix class had. had.used + old ix class) (λ ix class had. had.used + sum_on xs ix class) all)

-- two tests, of which the first is known
pub both_tests : (a b m n : ℕ) → a ≤ b → nat_le m n ≡ (nat_le a b && nat_le m n)
both_tests a b m n h = grind (arith, nat_tests)

pub first_fails : (a b : ℕ) (t : Bool) → b < a → nat_le a b ≡ (nat_le a b && t)
first_fails a b t h = grind (arith, nat_tests)

-- room for a sum beside what is taken
room_beside : (o : Option UsedInventory) (inventory : InventoryNumbers) (used taken sum : ℕ) → Some inventory ≡ option_map (λ h. h.inventory) o → used ≡ unwrap_or (option_map (λ h. h.used) o) 0
    → has_room (option_map (λ (h : UsedInventory). h.inventory) (option_map (λ (h : UsedInventory). record { inventory = h.inventory; used = h.used + taken }) o))
    (unwrap_or (option_map (λ (h : UsedInventory). h.used) (option_map (λ (h : UsedInventory). record { inventory = h.inventory; used = h.used + taken }) o)) 0) sum
    ≡ (nat_le sum inventory.max_unit && nat_le (used + taken + sum) (capacity inventory))
room_beside o inventory used taken sum there uses = grind (arith, common_steps)

pub room_taken : (all : List Provider) (taken : ℕ → List ℕ → ℕ) (ix sum : ℕ) (class : List ℕ) (inventory : InventoryNumbers) (used : ℕ)
    → Some inventory ≡ option_map (λ h. h.inventory) (entry_in (provider_at all ix) class) → used ≡ used_of (provider_at all ix) class
    → holds (provider_at (with_amounts (λ ix class had. had.used + taken ix class) all) ix) class sum ≡ (nat_le sum inventory.max_unit && nat_le (used + taken ix class + sum) (capacity inventory))
room_taken all taken ix sum class inventory used there uses =
    rw (entries (λ ix class had. had.used + taken ix class) all ix class) (room_beside (entry_in (provider_at all ix) class) inventory used (taken ix class) sum there uses)

no_room : (o : Option UsedInventory) (taken sum : ℕ) → None ≡ option_map (λ h. h.inventory) o
    → has_room (option_map (λ (h : UsedInventory). h.inventory) (option_map (λ (h : UsedInventory). record { inventory = h.inventory; used = h.used + taken }) o))
    (unwrap_or (option_map (λ (h : UsedInventory). h.used) (option_map (λ (h : UsedInventory). record { inventory = h.inventory; used = h.used + taken }) o)) 0) sum
    ≡ false
no_room o taken sum e = grind (arith, common_steps)

pub room_nowhere : (all : List Provider) (taken : ℕ → List ℕ → ℕ) (ix sum : ℕ) (class : List ℕ) → None ≡ option_map (λ h. h.inventory) (entry_in (provider_at all ix) class)
    → holds (provider_at (with_amounts (λ ix class had. had.used + taken ix class) all) ix) class sum ≡ false
room_nowhere all taken ix sum class none = rw (entries (λ ix class had. had.used + taken ix class) all ix class) (no_room (entry_in (provider_at all ix) class) (taken ix class) sum none)

-- ---- what is settled

-- what was taken stands at its place, and all else where it stood
pub set_one : (items : List ℕ) (texts : List (List ℕ)) (n p q place v : ℕ) (known class : List ℕ) → p < n → q < n → IsKnown texts known
    → place ≡ class_number texts known * n + p → place < length items
    → slice_index (set items place v) (class_number texts class * n + q) ≡ (if (q == p) && bytes_eq known class then v else slice_index items (class_number texts class * n + q))
set_one items texts n p q place v known class h j k is inside =
    let there = class_number texts class * n + q in
    elim (cases_eq there place) [
      | inl same ↦
          let met : class_number texts known * n + p ≡ class_number texts class * n + q = sym is ∙ sym same in
          let provider = same_provider n (class_number texts known) p (class_number texts class) q h j met in
          let text = (bytes_eq-Decides known class).1 (same_text texts known class k (same_class n (class_number texts known) p (class_number texts class) q h j met)) in
          rw (eq-eqb q p (sym provider), text) (get_or-set_at items place there v 0 same inside)
      | inr other ↦
          rw (not_both texts n p q known class (λ met. other (sym met ∙ sym is))) (get_or-set_other items place there v 0 other)
    ]
  where
    not_both : (texts : List (List ℕ)) (n p q : ℕ) (known class : List ℕ) → (class_number texts known * n + p ≡ class_number texts class * n + q → ⊥) → ((q == p) && bytes_eq known class) ≡ false
    not_both texts n p q known class other = elim (cases_eq q p) [
      | inr apart ↦ rw (ne_eqb q p apart) refl
      | inl same ↦ elim (cases_Bool (bytes_eq known class)) [
        | inr apart ↦ rw (eq-eqb q p same, apart) refl
        | inl met ↦ absurd (other (ap₂ (λ (c : List ℕ) (k : ℕ). class_number texts c * n + k) ((bytes_eq-Decides known class).0 met) (sym same)))
      ]
    ]

-- of a class of a provider as much more is used as was taken
pub settled_one : (all : List Provider) (old new : ℕ → List ℕ → ℕ) (ix v : ℕ) (class : List ℕ) → ((p : ℕ) → p < length all → IsStrictlySortedBy text_cmp (keys_of (provider_at all p).entries))
    → v ≡ used_of (provider_at all ix) class + old ix class
    → ((p : ℕ) (c : List ℕ) → p < length all → new p c ≡ (if (p == ix) && bytes_eq class c then 0 else old p c))
    → with_amounts (λ p c had. had.used + new p c) (with_amounts (amount_at ix class v) all) ≡ with_amounts (λ p c had. had.used + old p c) all
settled_one all old new ix v class rise is less =
    amounts_again (amount_at ix class v) (λ p c had. had.used + new p c) all
    ∙ amounts_same_found (λ p c had. amount_at ix class v p c had + new p c) (λ p c had. had.used + old p c) all rise
    (λ p c had inside there. elim (cases_Bool ((p == ix) && bytes_eq class c)) [
      | inr other ↦ let kept = rw other at (less p c inside) in rw other (omega (arith, kept))
      | inl met ↦
          let both = and_parts (p == ix) (bytes_eq class c) met in
          let here : p ≡ ix = are_equal p ix both.0 in
          let same : class ≡ c = (bytes_eq-Decides class c).0 both.1 in
          let uses : used_of (provider_at all ix) class ≡ had.used = ap₂ (λ (q : ℕ) (k : List ℕ). used_of (provider_at all q) k) (sym here) same ∙ ap (λ o. unwrap_or (option_map (λ h. h.used) o) 0) there in
          rw met (omega (arith, is, rw met at (less p c inside), uses, ap₂ old (sym here) same))
    ])

-- where it isn't that class of that provider, as much is used as before
pub used_other : (all : List Provider) (ix v q : ℕ) (class c : List ℕ) → ((q == ix) && bytes_eq class c) ≡ false → used_of (provider_at (with_amounts (amount_at ix class v) all) q) c ≡ used_of (provider_at all q) c
used_other all ix v q class c other = rw (entries (amount_at ix class v) all q c) (by_entry (entry_in (provider_at all q) c))
  where
    by_entry : (o : Option UsedInventory) → unwrap_or (option_map (λ (h : UsedInventory). h.used) (option_map (λ (h : UsedInventory). record { inventory = h.inventory; used = amount_at ix class v q c h }) o)) 0 ≡ unwrap_or (option_map (λ (h : UsedInventory). h.used) o) 0
    by_entry o = grind (arith, common_steps)

-- where nothing is taken, all is as it is
pub all_settled : (all : List Provider) (taken : ℕ → List ℕ → ℕ) → ((p : ℕ) → p < length all → IsStrictlySortedBy text_cmp (keys_of (provider_at all p).entries))
    → ((p : ℕ) (c : List ℕ) → p < length all → taken p c ≡ 0) → with_amounts (λ p c had. had.used + taken p c) all ≡ all
all_settled all taken rise none =
    amounts_same_found (λ p c had. had.used + taken p c) (λ p c had. had.used) all rise (λ p c had inside there. let zero = none p c inside in omega (arith, zero)) ∙ amounts_kept all

-- what is taken of no class is nothing
pub none_taken : (items : List ℕ) (texts : List (List ℕ)) (n : ℕ) → length items ≡ n * length texts → ((k p : ℕ) → k < length texts → p < n → slice_index items (class_number texts (slice_index_or texts k []) * n + p) ≡ 0)
    → (p : ℕ) (c : List ℕ) → p < n → slice_index items (class_number texts c * n + p) ≡ 0
none_taken items texts n size none p c inside = elim (cases_lt (class_number texts c) (length texts)) [
  | inl known ↦ ap (λ (d : List ℕ). slice_index items (class_number texts d * n + p)) (sym (known_at texts c known)) ∙ none (class_number texts c) p known inside
  | inr past ↦
      get_or_past items (class_number texts c * n + p) 0 (omega (arith, size, mul_le n (length texts) (class_number texts c) past))
]
  where
    mul_le : (n k m : ℕ) → k ≤ m → n * k ≤ m * n
    mul_le n k m h = subst (λ (x : ℕ). n * k ≤ x) (mul_comm n m) (mul-le-mul_left n h)

-- each class of a list is known there
pub known_in : (texts : List (List ℕ)) (k : ℕ) → k < length texts → IsKnown texts (slice_index_or texts k [])
known_in [] k h = absurd (omega (arith, h))
known_in (t ∷ texts) zero h = let same = (bytes_eq-Decides t t).1 refl in rw same (omega arith)
known_in (t ∷ texts) (suc k) h = grind (arith, common_steps, cases_Bool, known_in texts k, bytes_eq)

pub text_at : (t : Takings) (k : ℕ) (class : Bor ClassName) → k < length t.classes.items → class ≡ get_or t.classes.items k class → class_bytes class.now ≡ slice_index_or (texts_in t) k []
text_at t k class inside is = ap (λ v. class_bytes v.now) is ∙ sym (get_or-map (λ v. class_bytes v.now) t.classes.items k class [] inside)
