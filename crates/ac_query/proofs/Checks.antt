-- What the checks on all that is asked come to.
use Rattle.std.proofs.lemmas.Grind.{common_steps}
use Rattle.std.proofs.Common.{◌≡◌, ℕ, ◌<◌, ◌≤◌, arith, ◌+◌, Bool, true, ◌&&◌, ◌||◌, nat_lt, List, [], ◌∷◌, ◌++◌, length, map, Option, Some, None, is_some, is_none, refl, sym, ap₂, ◌∙◌, sum_by, if◌then◌else◌}
use Rattle.std.specs.Prelude.{filter}
use Rattle.std.specs.List.{list_any}
use Rattle.std.specs.Option.{option_or}
use Rattle.std.specs.Map.{lookup}
use Rattle.std.specs.BTreeMap.{is_at}
use Rattle.std.specs.Cmp.Lexicographic.{texts_ties}
use Rattle.std.proofs.lemmas.Bool.Decides.{nat_tests}
use Rattle.std.proofs.lemmas.List.Sums.{sum_by-cons, sum_by-append}
use Rattle.ac_base.specs.declared.name.Suffix.{Suffix}
use Rattle.ac_base.specs.Names.{suffix_bytes}
use Rattle.ac_query.specs.declared.reading.draft.GroupDraft.{GroupDraft}
use Rattle.ac_query.specs.Asked.{Group, Asked}
use Rattle.ac_query.specs.Laws.Gathered.{of_suffix}
use Rattle.ac_query.specs.Faults.{policy_missing, too_many_slots, first_fault, has_resources, listed_suffixes, group_condition, suffix_condition, is_of, needs_policy, slot_count, entry_count, is_too_large, asked_conditions}
use Rattle.ac_query.specs.Shown.Draft.{entry_shown}
use Rattle.ac_query.proofs.Pairs.Drafts.{key_cmp}
use Rattle.ac_query.proofs.Pairs.PairSteps.{first_fault-both}

-- whether there is a group of a suffix
pub group_there : (es : List (Suffix × GroupDraft)) (k : Suffix) → is_some (lookup (is_at (key_cmp k)) es) ≡ list_any (is_of (suffix_bytes k)) (map of_suffix (map entry_shown es))
group_there [] k = refl
group_there (e ∷ es) k =
    found (is_at (key_cmp k) e.0) (lookup (is_at (key_cmp k)) es)
    ∙ ap₂ (λ a b. a || b) (sym (texts_ties (suffix_bytes k) (suffix_bytes e.0))) (group_there es k)
  where
    found : (b : Bool) (o : Option GroupDraft) → is_some (if b then Some e.1 else o) ≡ b || is_some o
    found b o = grind (arith, common_steps)

-- a suffixed group has one slot
slots_of_suffixed : (es : List (List ℕ × Group)) → sum_by slot_count (map of_suffix es) ≡ length es
slots_of_suffixed [] = refl
slots_of_suffixed (e ∷ es) = sum_by-cons slot_count (of_suffix e) (map of_suffix es) ∙ omega (arith, slots_of_suffixed es)

-- slots and entries, counted group by group
module _ (plain : List (Option (List ℕ) × Group)) (es : List (List ℕ × Group)) (classes suffixes : ℕ)
    (slots : classes ≡ sum_by slot_count plain) (entries : classes ≡ sum_by entry_count plain) (count : suffixes ≡ length es) where
  slots_are : sum_by slot_count (plain ++ map of_suffix es) ≡ classes + suffixes
  slots_are = sum_by-append slot_count plain (map of_suffix es) ∙ omega (arith, slots_of_suffixed es)

  pub too_many_slots_there : 64 < classes + suffixes → true ≡ is_too_large (plain ++ map of_suffix es)
  too_many_slots_there many = let h : nat_lt 64 (classes + suffixes) ≡ true = grind (arith, nat_tests) in rw (slots_are, h) refl

  pub entries_decide : (large : Bool) → classes + suffixes ≤ 64 → large ≡ nat_lt 256 (classes + sum_by entry_count (map of_suffix es)) → large ≡ is_too_large (plain ++ map of_suffix es)
  entries_decide large few is = grind (arith, common_steps, nat_tests, slots_are, sum_by-append)

-- the conditions in turn, where some group has resources
pub in_turn : (a : Asked) → list_any has_resources a.groups ≡ true → (listed : List (List ℕ)) → listed ≡ listed_suffixes a
    → first_fault (asked_conditions a)
    ≡ option_or (option_or (first_fault (map (group_condition listed) a.groups)) (first_fault (map (suffix_condition a.groups) listed)))
    (if nat_lt 1 (length (filter needs_policy a.groups)) && is_none a.policy then Some policy_missing else if is_too_large a.groups then Some too_many_slots else None)
in_turn a some listed is = grind (arith, common_steps, first_fault-both)
