-- Classes by their numbers.
use Rattle.std.proofs.Common.{◌≡◌, ◌∙◌, ◌<◌, ◌≤◌, ◌⊎◌, inl, inr, ℕ, suc, List, [], ◌∷◌, ◌++◌, length, map, refl, sym, ap, subst, arith, slice_index_or, rules}
use Rattle.std.specs.List.{AllByRecursion as Each}
use Rattle.std.proofs.lemmas.Bool.{cases_lt}
use Rattle.std.proofs.lemmas.Slice.Eq.{bytes_eq-Decides}
use Rattle.ac_query.specs.Asked.{Asked, slots_of}
use Rattle.ac_query.specs.Laws.InOrder.{AreApart}
use Rattle.ac_rules.specs.Placed.{slot_at}
use Rattle.ac_rules.specs.Room.{IsAsked, IsKnown, class_number}
use Rattle.ac_rules.specs.Shown.Classes.{with_class, with_classes}
use Rattle.ac_rules.proofs.Elements.{each_append, each_weaker}

-- a class that is known stands at its place
pub known_at : (classes : List (List ℕ)) (c : List ℕ) → IsKnown classes c → slice_index_or classes (class_number classes c) [] ≡ c
known_at [] c h = absurd (omega arith)
known_at (d ∷ classes) c h = search (rules, bytes_eq-Decides, known_at classes c)

pub same_place : (classes : List (List ℕ)) (c d : List ℕ) → IsKnown classes c → class_number classes c ≡ class_number classes d → c ≡ d
same_place classes c d h e =
    let there : IsKnown classes d = omega (arith, e, h) in
    sym (known_at classes c h) ∙ (ap (λ (k : ℕ). slice_index_or classes k []) e ∙ known_at classes d there)

-- one more class
known_more : (classes : List (List ℕ)) (d c : List ℕ) → IsKnown classes c → IsKnown (classes ++ d ∷ []) c
known_more [] d c h = absurd (omega arith)
known_more (b ∷ classes) d c h = search (rules, known_more classes d c)

known_last : (classes : List (List ℕ)) (c : List ℕ) → IsKnown (classes ++ c ∷ []) c
known_last [] c = let same = (bytes_eq-Decides c c).1 refl in rw same (omega arith)
known_last (b ∷ classes) c = search (rules, known_last classes c)

known_either : (classes : List (List ℕ)) (d c : List ℕ) → IsKnown (classes ++ d ∷ []) c → IsKnown classes c ⊎ (d ≡ c)
known_either [] d c h = search (rules, bytes_eq-Decides)
known_either (b ∷ classes) d c h = search (rules, known_either classes d c)

apart_more : (classes : List (List ℕ)) (d : List ℕ) → length classes ≤ class_number classes d → AreApart classes → AreApart (classes ++ d ∷ [])
apart_more [] d h apart = (tt, tt)
apart_more (b ∷ classes) d h apart = search (rules, each_append, apart_more classes d)

with_known : (classes : List (List ℕ)) (d : List ℕ) → IsKnown (with_class classes d) d
with_known classes d = search (rules, known_last)

with_keeps : (classes : List (List ℕ)) (d c : List ℕ) → IsKnown classes c → IsKnown (with_class classes d) c
with_keeps classes d c h = search (rules, known_more)

with_either : (classes : List (List ℕ)) (d c : List ℕ) → IsKnown (with_class classes d) c → IsKnown classes c ⊎ (d ≡ c)
with_either classes d c h = search (rules, known_either)

with_apart : (classes : List (List ℕ)) (d : List ℕ) → AreApart classes → AreApart (with_class classes d)
with_apart classes d apart = search (rules, apart_more)

-- the classes of needs
all_keep : (classes : List (List ℕ)) (needs : List (List ℕ × ℕ)) (c : List ℕ) → IsKnown classes c → IsKnown (with_classes classes needs) c
all_keep classes [] c h = h
all_keep classes (need ∷ needs) c h = all_keep (with_class classes need.0) needs c (with_keeps classes need.0 c h)

all_known : (classes : List (List ℕ)) (needs : List (List ℕ × ℕ)) → Each (λ need. IsKnown (with_classes classes needs) need.0) needs
all_known classes [] = tt
all_known classes (need ∷ needs) = (all_keep (with_class classes need.0) needs need.0 (with_known classes need.0), all_known (with_class classes need.0) needs)

all_either : (classes : List (List ℕ)) (needs : List (List ℕ × ℕ)) (c : List ℕ) → IsKnown (with_classes classes needs) c
    → IsKnown classes c ⊎ IsKnown (map (λ need. need.0) needs) c
all_either classes [] c h = inl h
all_either classes (need ∷ needs) c h = search (rules, all_either (with_class classes need.0) needs c, with_either classes need.0 c, bytes_eq-Decides)

all_apart : (classes : List (List ℕ)) (needs : List (List ℕ × ℕ)) → AreApart classes → AreApart (with_classes classes needs)
all_apart classes [] apart = apart
all_apart classes (need ∷ needs) apart = all_apart (with_class classes need.0) needs (with_apart classes need.0 apart)

-- the classes of the slots so far
pub record AreClasses (asked : Asked) (n : ℕ) (classes : List (List ℕ)) : Type 0 where
  pub known : (s : ℕ) → s < n → Each (λ need. IsKnown classes need.0) (slot_at asked s).needs
  pub meant : (c : List ℕ) → IsKnown classes c → IsAsked asked c
  pub once : AreApart classes

pub next_slot : (asked : Asked) (n : ℕ) (classes : List (List ℕ)) → n < length (slots_of asked) → AreClasses asked n classes
    → AreClasses asked (suc n) (with_classes classes (slot_at asked n).needs)
next_slot asked n classes h are =
    let needs = (slot_at asked n).needs in
    let new = with_classes classes needs in
    record {
      known = λ s low. elim (cases_lt s n) [
        | inl e ↦ each_weaker (λ need. IsKnown classes need.0) (λ need. IsKnown new need.0) (slot_at asked s).needs (λ need k. all_keep classes needs need.0 k) (are.known s e)
        | inr e ↦ subst (λ (r : ℕ). Each (λ need. IsKnown new need.0) (slot_at asked r).needs) (omega (arith, e, low)) (all_known classes needs)
      ];
      meant = λ c k. elim (all_either classes needs c k) [ inl old ↦ are.meant c old | inr own ↦ (n, (h, own)) ];
      once = all_apart classes needs are.once;
    }
