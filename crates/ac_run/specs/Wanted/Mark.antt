-- The text of a query as it may be given: by itself, or behind the path of a URL and a `?`, in a line of a log.
use Rattle.std.specs.Prelude.{ℕ, Bool, true, ◌==◌, ◌&&◌, ◌||◌, not, nat_lt, List, [], ◌∷◌, length, if◌then◌else◌}
use Rattle.std.specs.List.{list_any, position_or_len, before_first, after_first}

-- a question mark
abbrev pub is_mark : ℕ → Bool
is_mark c = c == 63

-- `=` or `&`, by which a query is parted
abbrev pub is_joint : ℕ → Bool
is_joint c = c == 61 || c == 38

-- whether a text has a mark, with neither `=` nor `&` before the first
abbrev pub has_path : List ℕ → Bool
has_path text = nat_lt (position_or_len is_mark text) (length text) && not (list_any is_joint (before_first is_mark text))

-- white space or a quote, at which a URL ends in a line of a log
abbrev pub is_end : ℕ → Bool
is_end c = nat_lt c 33 || c == 34 || c == 39

-- whether nothing stands there, or what ends a query stands first
abbrev pub is_at_end : List ℕ → Bool
is_at_end [] = true
is_at_end (c ∷ cs) = is_end c

-- what stands behind the first mark up to such an end, where neither `=` nor `&` stands before the mark; else the whole text
unfoldable pub past_mark : List ℕ → List ℕ
past_mark text = if has_path text then before_first is_end (after_first is_mark text) else text
