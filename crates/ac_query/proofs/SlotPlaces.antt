-- The place of a slot is that of its group.
use Rattle.std.proofs.Common.{◌≡◌, ℕ, suc, ◌+◌, add-zero, List, [], ◌∷◌, map, Option, Some, None, sym, ap, ◌∙◌, arith}
use Rattle.std.specs.List.{slice_get, AllByRecursion}
use Rattle.ac_query.specs.Asked.{Group, Slot, class_slot, group_slots, slots_from}
use Rattle.ac_query.specs.Laws.{SlotsNameGroups}
use Rattle.ac_query.proofs.Pairs.Asking.{all_append}

module _ (all : List (Option (List ℕ) × Group)) where
  IsPlaced : Slot → Type 0
  IsPlaced s = slice_get all s.place ≡ Some (s.suffix, s.group)

  classes_placed : (i : ℕ) (g : Group) (ns : List (List ℕ × ℕ)) → slice_get all i ≡ Some (None, g) → AllByRecursion IsPlaced (map (class_slot i g) ns)
  unfolding IsPlaced
  classes_placed i g [] at = tt
  classes_placed i g (n ∷ ns) at = (at, classes_placed i g ns at)

  group_placed : (i : ℕ) (g : Option (List ℕ) × Group) → slice_get all i ≡ Some g → AllByRecursion IsPlaced (group_slots i g)
  unfolding IsPlaced
  group_placed i (None, g) at = classes_placed i g g.needs at
  group_placed i (Some s, g) at = (at, tt)

  placed : (i : ℕ) (gs : List (Option (List ℕ) × Group)) → ((j : ℕ) → slice_get gs j ≡ slice_get all (i + j)) → AllByRecursion IsPlaced (slots_from i gs)
  placed i [] same = tt
  placed i (g ∷ gs) same =
      all_append IsPlaced (group_slots i g) (slots_from (i + 1) gs)
      (group_placed i g (ap (slice_get all) (sym (add-zero i)) ∙ sym (same 0)))
      (placed (i + 1) gs (λ j. same (suc j) ∙ ap (slice_get all) (omega arith)))

pub slots_name_groups : SlotsNameGroups
unfolding IsPlaced
slots_name_groups a = placed a.groups 0 a.groups (λ j. ap (slice_get a.groups) (omega arith))
