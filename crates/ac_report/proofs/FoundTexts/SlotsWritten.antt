-- An explanation, need by need and slot by slot.
use Rattle.std.proofs.Common.{◌≡◌, ◌∙◌, ℕ, suc, ◌+◌, ◌-◌, ◌<◌, ◌==◌, Bool, List, [], ◌∷◌, ◌++◌, get_or, length, map, Option, refl, rules, subst, sym, ap, arith}
use Rattle.std.specs.List.{flat_map, position, position_or_len, range_with_len}
use Rattle.std.proofs.lemmas.List.{get_or-map, length-map}
use Rattle.ac_query.specs.Asked.{Asked, slots_of}
use Rattle.ac_cloud.specs.World.{Provider}
use Rattle.ac_rules.specs.Placed.{no_slot, slot_at}
use Rattle.ac_find.specs.Explained.{SlotTold, slot_told}
use Rattle.ac_find.specs.Shown.Explained.{slot_shown}
use Rattle.ac_find.specs.declared.counts.classes.SlotTold as rust
use Rattle.std.specs.Prelude.{Result, Ok, Err}
use Rattle.std.specs.Result.{IsErrAnd}
use Rattle.ac_base.specs.Writing.{Pushes}
use Rattle.ac_report.specs.Findings.Explanation.{first_empty}
use Rattle.ac_report.proofs.FoundTexts.Begun.{IsBegun, begun_more, begun_stops}

-- ---- what is pushed at each place below n, in order

module _ {S : Type 0} {taken : S → Option (List ℕ)} {fails : S → ℕ} {a b : S} {whole text : List ℕ} (f : ℕ → List ℕ) (s n : ℕ) (low : s < n)
    (said : text ≡ f s) (begun : IsBegun taken fails a b whole (flat_map f (range_with_len s (n - s)))) where
  first : IsBegun taken fails a b whole (text ++ flat_map f (range_with_len (s + 1) (n - (s + 1))))
  first =
      let more : n - s ≡ suc (n - (s + 1)) = omega arith in
      subst (λ (t : List ℕ). IsBegun taken fails a b whole (t ++ flat_map f (range_with_len (s + 1) (n - (s + 1))))) (sym said)
      (subst (λ (k : ℕ). IsBegun taken fails a b whole (flat_map f (range_with_len s k))) more begun)

  pub place_written : {Z T : Type 0} {c : S} {z : Z} → Pushes {Y = T} taken fails b c (Ok z) text
      → IsBegun taken fails a c whole (flat_map f (range_with_len (s + 1) (n - (s + 1))))
  place_written pushed = begun_more text (flat_map f (range_with_len (s + 1) (n - (s + 1)))) first pushed

  -- an error within the text of a place
  pub place_stopped : {Z T E F : Type 0} {c : S} {e : F} {r : Result T E} (P : E → Type 0) → Pushes {X = Z} taken fails b c (Err e) text → IsErrAnd r P
      → Pushes taken fails a c r whole
  place_stopped P pushed err = begun_stops text (flat_map f (range_with_len (s + 1) (n - (s + 1)))) first P pushed err

-- the thing that stands for an element stands at its place
pub mapped_at : {X Y : Type 0} (e : X → Y) (xs : List X) (k : ℕ) (x : X) (d : Y) → x ≡ get_or xs k x → k < length xs → e x ≡ get_or (map e xs) k d
mapped_at e xs k x d is h = ap e is ∙ sym (get_or-map e xs k x d h)

-- ---- what is told of the slot at a place

module _ (all : List Provider) (asked : Asked) (slots : List rust.SlotTold) (s : ℕ) (d : rust.SlotTold)
    (are : map slot_shown slots ≡ map (slot_told all) (slots_of asked)) (h : s < length slots) where
  pub told_low : s < length (slots_of asked)
  told_low = omega (arith, h, ap length are, length-map slots slot_shown, length-map (slots_of asked) (slot_told all))

  pub told_at : slot_shown (get_or slots s d) ≡ slot_told all (slot_at asked s)
  told_at =
      sym (get_or-map slot_shown slots s d (slot_shown d) h)
      ∙ (ap (λ told. get_or told s (slot_shown d)) are ∙ get_or-map (slot_told all) (slots_of asked) s no_slot (slot_shown d) told_low)

-- ---- the first slot that no provider serves

places_mapped : {X Y : Type 0} (test : Y → Bool) (e : X → Y) (xs : List X) → position_or_len test (map e xs) ≡ position_or_len (λ x. test (e x)) xs
places_mapped test e [] = refl
places_mapped test e (x ∷ xs) = search (rules, places_mapped test e xs)

pub empty_told : (slots : List rust.SlotTold) → position (λ (t : rust.SlotTold). t.counts.room == 0) slots ≡ first_empty (map slot_shown slots)
empty_told slots =
    let same = places_mapped (λ (t : SlotTold). t.counts.room == 0) slot_shown slots in
    let size = length-map slots slot_shown in
    search (rules, same, size)
