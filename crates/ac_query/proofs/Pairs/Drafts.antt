-- One more part of the group of a suffix.
use Rattle.std.proofs.Common.{◌≡◌, List, Option, Some, None, map, refl, sym, ap, ◌∙◌}
use Rattle.std.specs.declared.cmp.Ordering.{Ordering}
use Rattle.std.specs.Cmp.Lexicographic.{on_texts}
use Rattle.std.specs.List.Sorted.{IsStrictlySortedBy}
use Rattle.std.specs.Option.{option_map}
use Rattle.std.specs.Map.{lookup, set_value, keys_of}
use Rattle.std.specs.BTreeMap.{insert_entry, is_at}
use Rattle.ac_base.specs.declared.name.Suffix.{Suffix}
use Rattle.ac_base.specs.Names.{suffix_bytes}
use Rattle.ac_base.specs.Texts.{text_cmp}
use Rattle.ac_base.proofs.ShownKeys.{insert_shown, lookup_shown}
use Rattle.ac_query.specs.declared.reading.draft.GroupDraft.{GroupDraft}
use Rattle.ac_query.specs.Pairs.Values.{Part}
use Rattle.ac_query.specs.Laws.Gathered.{with_part, grown, with_suffixed}
use Rattle.ac_query.specs.Shown.Draft.{group_drafted, entry_shown}
use Rattle.ac_query.proofs.Values.Inserts.{set_value-insert}

-- the order of suffixes, as their bytes
abbrev pub key_cmp : Suffix → Suffix → Ordering
key_cmp = λ a b. text_cmp (suffix_bytes a) (suffix_bytes b)

module _ (es new : List (Suffix × GroupDraft)) (k : Suffix) (w : GroupDraft) (p : Part) where
  -- a group that grew to what it is to be
  puts : (found : Option GroupDraft) → found ≡ lookup (is_at (key_cmp k)) es → new ≡ insert_entry key_cmp es k w → group_drafted w ≡ grown (option_map group_drafted found) p
      → map entry_shown new ≡ with_suffixed (map entry_shown es) (suffix_bytes k) p
  puts found is added grew =
      ap (map entry_shown) added ∙ insert_shown suffix_bytes group_drafted key_cmp text_cmp (λ a b. refl) es k w
      ∙ ap (λ g. insert_entry text_cmp (map entry_shown es) (suffix_bytes k) g)
      (grew ∙ ap (λ o. grown o p) (ap (option_map group_drafted) is ∙ sym (lookup_shown suffix_bytes group_drafted key_cmp text_cmp (λ a b. refl) es k)))

  pub put_there : (v : GroupDraft) → IsStrictlySortedBy key_cmp (keys_of es) → Some v ≡ lookup (is_at (key_cmp k)) es → new ≡ set_value (is_at (key_cmp k)) es w
      → group_drafted w ≡ with_part (group_drafted v) p → map entry_shown new ≡ with_suffixed (map entry_shown es) (suffix_bytes k) p
  put_there v sorted there set grew =
      puts (Some v) there (set ∙ set_value-insert (on_texts suffix_bytes) k v w es sorted (sym there)) grew

  pub put_new : None ≡ lookup (is_at (key_cmp k)) es → new ≡ insert_entry key_cmp es k w → group_drafted w ≡ grown None p
      → map entry_shown new ≡ with_suffixed (map entry_shown es) (suffix_bytes k) p
  put_new absent added grew = puts None absent added grew
