-- A value that is set where its key is there, and one that is inserted.
use Rattle.std.proofs.Common.{arith}
use Rattle.std.proofs.lemmas.Grind.{common_steps}
use Rattle.std.proofs.Common.{◌≡◌, ℕ, subst, List, [], ◌∷◌, Some, sym}
use Rattle.std.specs.declared.cmp.Ordering.{Ordering}
use Rattle.std.specs.Cmp.{IsTotalOrder}
use Rattle.std.specs.List.Sorted.{IsStrictlySortedBy}
use Rattle.std.specs.Map.{lookup, set_value, keys_of}
use Rattle.std.specs.BTreeMap.{insert_entry, is_at}
use Rattle.std.proofs.lemmas.Map.{lookup-none}
use Rattle.std.proofs.lemmas.Map.Entries.{none_below_head, lookup_tail}
use Rattle.std.proofs.lemmas.Map.Keys.{sorted_tail}
use Rattle.std.specs.BTreeSet.{insert_key}
use Rattle.ac_base.specs.Texts.{text_cmp}
use Rattle.std.proofs.lemmas.Cmp.{nat_list_cmp_total}
use Rattle.ac_base.proofs.Sorted.SameItems.{keys_gathered}
use Rattle.ac_base.proofs.Sorted.SortedSets.{insert_sorted}

module _ {K X : Type 0} {R : K → K → Ordering} (o : IsTotalOrder R) (k : K) (v w : X) where
  -- at a head that compares so
  at_head : (e : K × X) (es : List (K × X)) (c : Ordering) → R k e.0 ≡ c → IsStrictlySortedBy R (keys_of (e ∷ es)) → lookup (is_at (R k)) (e ∷ es) ≡ Some v
      → (lookup (is_at (R k)) es ≡ Some v → set_value (is_at (R k)) es w ≡ insert_entry R es k w)
      → set_value (is_at (R k)) (e ∷ es) w ≡ insert_entry R (e ∷ es) k w
  at_head e es c is sorted there later = grind (arith, common_steps, lookup-none, none_below_head, lookup_tail)

  pub set_value-insert : (es : List (K × X)) → IsStrictlySortedBy R (keys_of es) → lookup (is_at (R k)) es ≡ Some v → set_value (is_at (R k)) es w ≡ insert_entry R es k w
  set_value-insert [] sorted there = absurd (cc)
  set_value-insert (e ∷ es) sorted there = grind (arith, common_steps, at_head, sorted_tail, set_value-insert es (sorted_tail R e.0 (keys_of es) sorted))

-- entries by texts, with one more
module _ {X : Type 0} (es : List (List ℕ × X)) (k : List ℕ) (v : X) where
  pub keys_with : keys_of (insert_entry text_cmp es k v) ≡ insert_key text_cmp (keys_of es) k
  keys_with = keys_gathered nat_list_cmp_total es ((k, v) ∷ [])

  pub still_sorted : IsStrictlySortedBy text_cmp (keys_of es) → IsStrictlySortedBy text_cmp (keys_of (insert_entry text_cmp es k v))
  still_sorted sorted = subst (IsStrictlySortedBy text_cmp) (sym keys_with) (insert_sorted nat_list_cmp_total (keys_of es) k sorted)
