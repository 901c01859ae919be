-- What `all` and `any` answer: over what the items of a list show, and over the slots of an assignment.
use Rattle.std.proofs.Common.{◌≡◌, ◌∙◌, sym, Bool, true, false, List, Option, map, refl}
use Rattle.std.specs.List.{list_all, list_any, FoldsTo}
use Rattle.std.specs.Option.{MatchOption}
use Rattle.std.specs.Fn.{Called}
use Rattle.std.specs.Iterator.{YieldsThen, YieldsFirstBy}
use Rattle.std.specs.Slice.Iter.{iter_rest}
use Rattle.std.specs.declared.slice.Iter.{Iter}
use Rattle.std.proofs.iter.Yields.{fronts}
use Rattle.std.proofs.lemmas.Iterator.{YieldsList-from_slice}
use Rattle.std.proofs.lemmas.Iterator.Consumers.{YieldsList-from_first}
use Rattle.std.proofs.lemmas.Iterator.Search.{all_from_yields_List, any_from_yields_List}
use Rattle.std.proofs.lemmas.List.Folds.{list_all-map}
use denote.Param.Members.{Mut}
use denote.Ref.{Bor}
use Rattle.ac_cloud.specs.World.{Provider}
use Rattle.ac_base.proofs.Sorted.SearchFacts.{any_map}
use Rattle.ac_rules.specs.Placed.{Placed}
use Rattle.ac_rules.specs.Shown.Assignments.{all_in, shown, slots_left}
use Rattle.ac_rules.specs.declared.assignment.Placed as rust
use Rattle.ac_rules.specs.declared.assignment.Slots.{Slots}

-- calls of a closure went on while it answered `go`, and r is what came of them
abbrev pub RunGives : {S A F : Type 0} → (S → Option A → S → Type 0) → Mut F (A × Unit {0}) Bool → S → S → F → Bool → Bool → Bool → Type 0
RunGives {S} {A} {F} steps g s u f go stop r =
    (ys : List A) × (o : Option A) × (j : F) × YieldsThen steps s ys o u × FoldsTo (λ p x q. Called g p (x, tt) go q) f ys j
    × MatchOption o (r ≡ go) (λ x. (r ≡ stop) × ((h : F) × Called g j (x, tt) stop h))

-- a call leaves the closure as it was, and answers this test
abbrev pub Answers : {A F : Type 0} → Mut F (A × Unit {0}) Bool → F → (A → Bool) → Type 0
Answers {A} {F} g f test = (x : A) (b : Bool) (q : F) → Called g f (x, tt) b q → (q ≡ f) × (b ≡ test x)

module _ {A B F : Type 0} {g : Mut F (Bor A × Unit {0}) Bool} {s : Iter A} (h : A → B) (test : B → Bool) (xs : List A) where
  pub all_items : (u : Iter A) (f : F) (r : Bool) → RunGives fronts g s u f true false r → iter_rest s ≡ xs
      → Answers g f (λ x. test (h x.now)) → r ≡ list_all test (map h xs)
  all_items u f r ran rest says =
      all_from_yields_List (λ y. test (h y)) u f r ran (YieldsList-from_slice xs rest) says ∙ sym (list_all-map test h xs)

  pub any_items : (u : Iter A) (f : F) (r : Bool) → RunGives fronts g s u f false true r → iter_rest s ≡ xs
      → Answers g f (λ x. test (h x.now)) → r ≡ list_any test (map h xs)
  any_items u f r ran rest says =
      any_from_yields_List (λ y. test (h y)) u f r ran (YieldsList-from_slice xs rest) says ∙ any_map (λ y. test (h y)) test h (λ _. refl) xs

module _ {F : Type 0} {g : Mut F (rust.Placed × Unit {0}) Bool} {s : Slots} (all : List Provider) (xs : List Placed) (test : List Provider → Placed → Bool) where
  pub all_slots : (u : Slots) (f : F) (r : Bool) → RunGives (YieldsFirstBy shown slots_left) g s u f true false r → slots_left s ≡ all_in all xs
      → Answers g f (λ x. test (shown x).0 (shown x).1) → r ≡ list_all (test all) xs
  all_slots u f r ran left says =
      all_from_yields_List (λ y. test y.0 y.1) u f r ran (YieldsList-from_first shown slots_left (all_in all xs) left) says
      ∙ list_all-map (λ y. test y.0 y.1) (λ x. (all, x)) xs

  pub any_slots : (u : Slots) (f : F) (r : Bool) → RunGives (YieldsFirstBy shown slots_left) g s u f false true r → slots_left s ≡ all_in all xs
      → Answers g f (λ x. test (shown x).0 (shown x).1) → r ≡ list_any (test all) xs
  any_slots u f r ran left says =
      any_from_yields_List (λ y. test y.0 y.1) u f r ran (YieldsList-from_first shown slots_left (all_in all xs) left) says
      ∙ sym (any_map (test all) (λ y. test y.0 y.1) (λ x. (all, x)) (λ _. refl) xs)
