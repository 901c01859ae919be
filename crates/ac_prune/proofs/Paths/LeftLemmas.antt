-- What is left of rooms, when one more slot takes its part.
use Rattle.std.proofs.Common.{◌≡◌, ◌≢◌, ◌∙◌, ℕ, ◌+◌, ◌<◌, ◌≤◌, Bool, true, false, ◌&&◌, List, [], ◌∷◌, ◌++◌, map, inl, inr, Option, None, Some, refl, sym, ap₂, subst, arith, nat_le}
use Rattle.std.specs.Prelude.{◌==◌, if◌then◌else◌}
use Rattle.std.specs.Option.{unwrap_or}
use Rattle.std.specs.List.{list_all, AllByRecursion as Each}
use Rattle.std.specs.Str.{bytes_eq}
use Rattle.std.proofs.lemmas.Bool.{cases_eq, cases_lt, and_parts, and_from, eq-eqb, ne_eqb, false≢true, false_from_ne_true}
use Rattle.std.proofs.lemmas.Bool.Decides.{same_from_decides}
use Rattle.std.proofs.lemmas.Slice.Eq.{bytes_eq-Decides}
use Rattle.std.specs.List.Sorted.{IsStrictlySortedBy}
use Rattle.ac_base.specs.Quantities.{InventoryNumbers}
use Rattle.ac_base.specs.Texts.{text_cmp}
use Rattle.ac_query.specs.Laws.InOrder.{AreApart}
use Rattle.ac_query.proofs.Values.PositiveNeeds.{apart_from_sorted}
use Rattle.ac_cloud.specs.World.{Provider, provider_at, used_of}
use Rattle.ac_rules.specs.Own.{inventory_of}
use Rattle.ac_rules.specs.Room.{class_number, IsKnown, room_in}
use Rattle.ac_rules.specs.Placed.{Placed}
use Rattle.ac_rules.specs.Together.{amount_of, sum_on, has_room, holds, sums}
use Rattle.ac_rules.specs.Laws.{AskAmounts, IsFull}
use Rattle.ac_prune.specs.Left.{numbered, wanted, has_each, suffices, room_on}
use Rattle.ac_rules.proofs.ClassLemmas.{same_place}
use Rattle.ac_rules.proofs.EachSlot.FullLemmas.{sums_say_full}
use Rattle.std.proofs.Common.{rules}

-- a number of a class stands for its text
number_test : (classes : List (List ℕ)) (c d : List ℕ) → IsKnown classes c → (class_number classes c == class_number classes d) ≡ bytes_eq c d
number_test classes c d h = search (rules, eq-eqb, bytes_eq-Decides, ne_eqb, false≢true, same_place)

-- what asks want of a class is what the needs ask of it
pub wanted_is : (classes : List (List ℕ)) (needs : List (List ℕ × ℕ)) (c : List ℕ) → Each (λ need. IsKnown classes need.0) needs
    → wanted (map (numbered classes) needs) (class_number classes c) ≡ amount_of needs c
wanted_is classes [] c h = refl
wanted_is classes (need ∷ needs) c h = ap₂ (λ (b : Bool) (n : ℕ). (if b then need.1 else 0) + n) (number_test classes need.0 c h.0) (wanted_is classes needs c h.1)

-- ---- Rooms

pub room_enough : (inventory : Option InventoryNumbers) (used m : ℕ) → has_room inventory used m ≡ true → m ≤ unwrap_or (room_in inventory used) 0
room_enough None used m h = absurd (false≢true h)
room_enough (Some inventory) used m h = search rules

enough_room : (inventory : Option InventoryNumbers) (used m : ℕ) → 0 < m → m ≤ unwrap_or (room_in inventory used) 0 → has_room inventory used m ≡ true
enough_room None used m some h = absurd (omega (arith, some, h))
enough_room (Some inventory) used m some h = search rules

pub holds_less : (all : List Provider) (p : ℕ) (c : List ℕ) (m : ℕ) → holds (provider_at all p) c m ≡ true → m ≤ room_on all p c
holds_less all p c m h = room_enough (inventory_of (provider_at all p) c) (used_of (provider_at all p) c) m h

pub less_holds : (all : List Provider) (p : ℕ) (c : List ℕ) (m : ℕ) → 0 < m → m ≤ room_on all p c → holds (provider_at all p) c m ≡ true
less_holds all p c m some h = enough_room (inventory_of (provider_at all p) c) (used_of (provider_at all p) c) m some h

-- ---- One more slot

pub sum_more : (xs : List Placed) (x : Placed) (p : ℕ) (c : List ℕ) → sum_on (xs ++ x ∷ []) p c ≡ sum_on xs p c + (if x.provider == p then amount_of x.slot.needs c else 0)
sum_more [] x p c = omega arith
sum_more (y ∷ xs) x p c = let more = sum_more xs x p c in omega arith

-- it asks of its own provider
pub sum_here : (xs : List Placed) (x : Placed) (p : ℕ) (c : List ℕ) → x.provider ≡ p → sum_on (xs ++ x ∷ []) p c ≡ sum_on xs p c + amount_of x.slot.needs c
sum_here xs x p c e = let same = eq-eqb x.provider p e in rw same at (sum_more xs x p c)

pub sum_other : (xs : List Placed) (x : Placed) (p : ℕ) (c : List ℕ) → x.provider ≢ p → sum_on (xs ++ x ∷ []) p c ≡ sum_on xs p c
sum_other xs x p c e = let other = ne_eqb x.provider p e in let more = rw other at (sum_more xs x p c) in omega arith

-- each class of which something is asked has enough in the row
suffices_from : (classes : List (List ℕ)) (row : ℕ → ℕ) (needs ns : List (List ℕ × ℕ)) → Each (λ need. IsKnown classes need.0) needs
    → ((c : List ℕ) → IsKnown classes c → 0 < amount_of ns c → amount_of needs c ≤ row (class_number classes c))
    → Each (λ need. IsKnown classes need.0) ns → Each (λ need. 0 < need.1) ns
    → list_all (λ a. nat_le (wanted (map (numbered classes) needs) a.0) (row a.0)) (map (numbered classes) ns) ≡ true
suffices_from classes row needs [] all enough known some = refl
suffices_from classes row needs (n ∷ ns) all enough known some = search (rules, bytes_eq-Decides, wanted_is, and_from, suffices_from classes row needs ns all (λ c k more. enough c k (omega (arith, more))) known.1 some.1)

suffices_at : (classes : List (List ℕ)) (row : ℕ → ℕ) (needs ns : List (List ℕ × ℕ)) (c : List ℕ) → Each (λ need. IsKnown classes need.0) needs
    → Each (λ need. IsKnown classes need.0) ns
    → list_all (λ a. nat_le (wanted (map (numbered classes) needs) a.0) (row a.0)) (map (numbered classes) ns) ≡ true → 0 < amount_of ns c
    → IsKnown classes c × (amount_of needs c ≤ row (class_number classes c))
suffices_at classes row needs [] c all known h asks = absurd (omega arith)
suffices_at classes row needs (n ∷ ns) c all known h asks = search (rules, and_parts, bytes_eq-Decides, wanted_is, suffices_at classes row needs ns c all known.1)

-- ---- Classes that stand once

-- what needs ask of their own classes, which differ
amount_none : (needs : List (List ℕ × ℕ)) (c : List ℕ) → Each (λ d. bytes_eq c d ≡ false) (map (λ need. need.0) needs) → amount_of needs c ≡ 0
amount_none [] c h = refl
amount_none (n ∷ needs) c h = search (rules, false_from_ne_true, false≢true, bytes_eq-Decides, amount_none needs c h.1)

amounts_once : (needs : List (List ℕ × ℕ)) → AreApart (map (λ need. need.0) needs) → Each (λ need. amount_of needs need.0 ≡ need.1) needs
amounts_once [] h = tt
amounts_once (n ∷ needs) h =
    let itself = (bytes_eq-Decides n.0 n.0).1 refl in
    let alone = amount_none needs n.0 h.0 in
    (rw itself (omega (arith, alone)), more needs h.0 (amounts_once needs h.1))
  where
    more : (ns : List (List ℕ × ℕ)) → Each (λ d. bytes_eq n.0 d ≡ false) (map (λ need. need.0) ns) → Each (λ need. amount_of needs need.0 ≡ need.1) ns → Each (λ need. amount_of (n ∷ needs) need.0 ≡ need.1) ns
    more [] apart all = tt
    more (m ∷ ns) apart all = let here = all.0 in let differ = apart.0 in (rw differ (omega (arith, here)), more ns apart.1 all.1)

-- so a row has enough for all where it has each amount
pub each_suffices : (classes : List (List ℕ)) (row : ℕ → ℕ) (needs : List (List ℕ × ℕ)) → Each (λ need. IsKnown classes need.0) needs → IsStrictlySortedBy text_cmp (map (λ need. need.0) needs)
    → has_each row (map (numbered classes) needs) ≡ suffices row (map (numbered classes) needs)
each_suffices classes row needs known rising = along needs (amounts_once needs (apart_from_sorted (map (λ need. need.0) needs) rising))
  where
    along : (ns : List (List ℕ × ℕ)) → Each (λ need. amount_of needs need.0 ≡ need.1) ns
        → list_all (λ a. nat_le a.1 (row a.0)) (map (numbered classes) ns) ≡ list_all (λ a. nat_le (wanted (map (numbered classes) needs) a.0) (row a.0)) (map (numbered classes) ns)
    along [] once = refl
    along (n ∷ ns) once = ap₂ (λ (m : ℕ) (b : Bool). nat_le m (row (class_number classes n.0)) && b) (sym (wanted_is classes needs n.0 known ∙ once.0)) (along ns once.1)

-- What a row must have left of its provider's rooms.
abbrev pub IsLeft : List Provider → List (List ℕ) → (ℕ → ℕ) → List Placed → ℕ → Type 0
IsLeft all classes row xs p = (c : List ℕ) → IsKnown classes c → row (class_number classes c) + sum_on xs p c ≡ room_on all p c

full_next : (all : List Provider) (classes : List (List ℕ)) (row : ℕ → ℕ) (xs : List Placed) (x : Placed) → IsLeft all classes row xs x.provider
    → Each (λ need. IsKnown classes need.0) x.slot.needs → IsFull all xs → suffices row (map (numbered classes) x.slot.needs) ≡ true → IsFull all (xs ++ x ∷ [])
full_next all classes row xs x left known full enough p c asked = elim (cases_eq x.provider p) [
  | inl e ↦
      let sum = sum_here xs x p c e in
      elim (cases_lt 0 (amount_of x.slot.needs c)) [
        | inl l ↦
            let at = suffices_at classes row x.slot.needs x.slot.needs c known known enough l in
            let room = subst (λ (r : ℕ). row (class_number classes c) + sum_on xs r c ≡ room_on all r c) e (left c at.0) in
            less_holds all p c (sum_on (xs ++ x ∷ []) p c) asked (omega (arith, sum, room, at.1))
        | inr l ↦
            let same : sum_on (xs ++ x ∷ []) p c ≡ sum_on xs p c = omega (arith, sum, l) in
            rw same (full p c (omega (arith, same, asked)))
      ]
  | inr e ↦ let same = sum_other xs x p c e in rw same (full p c (omega (arith, same, asked)))
]

-- The next slot's rooms suffice exactly where the row of its provider has enough left.
pub sums_next : (all : List Provider) (classes : List (List ℕ)) (row : ℕ → ℕ) (xs : List Placed) (x : Placed) → IsLeft all classes row xs x.provider
    → Each (λ need. IsKnown classes need.0) x.slot.needs → AskAmounts xs → AskAmounts (xs ++ x ∷ []) → Each (λ need. 0 < need.1) x.slot.needs → sums all xs ≡ true
    → sums all (xs ++ x ∷ []) ≡ suffices row (map (numbered classes) x.slot.needs)
sums_next all classes row xs x left known some more own fine = same_from_decides _ _ (sums_say_full all (xs ++ x ∷ []) more) (
  full_next all classes row xs x left known ((sums_say_full all xs some).0 fine),
  λ full. suffices_from classes row x.slot.needs x.slot.needs known
      (λ c k asks.
      let sum = sum_here xs x x.provider c refl in
      omega (arith, sum, left c k, holds_less all x.provider c (sum_on (xs ++ x ∷ []) x.provider c) (full x.provider c (omega (arith, sum, asks))))) known own,
)
