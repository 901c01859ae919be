-- Words on texts.
use Rattle.std.specs.Prelude.{ℕ, ◌==◌, Bool, nat_eq, List, [], length, drop, Option, Some, None, if◌then◌else◌}
use Rattle.std.specs.List.{fold, slice_split, starts_with, list_any}
use Rattle.std.specs.BTreeSet.{insert_key}
use Rattle.std.specs.Str.{bytes_eq}
use Rattle.ac_base.specs.Texts.{text_cmp}

-- a comma
abbrev pub is_comma : ℕ → Bool
is_comma c = c == 44

-- a colon
abbrev pub is_colon : ℕ → Bool
is_colon c = c == 58

-- the items of a list, between its commas
abbrev pub items_of : List ℕ → List (List ℕ)
items_of text = slice_split is_comma text

-- what stands behind a front, where a text begins with it
unfoldable pub behind : List ℕ → List ℕ → Option (List ℕ)
behind front text = if starts_with nat_eq text front then Some (drop (length front) text) else None

-- whether a text is among others
abbrev pub has_text : List (List ℕ) → List ℕ → Bool
has_text texts text = list_any (bytes_eq text) texts

-- texts in byte order, each once: some that are so already, and more
abbrev pub in_order_with : List (List ℕ) → List (List ℕ) → List (List ℕ)
in_order_with texts more = fold (insert_key text_cmp) texts more

-- these texts in byte order, each once
abbrev pub in_byte_order : List (List ℕ) → List (List ℕ)
in_byte_order texts = in_order_with [] texts
