-- Names in place of UUIDs: what they stand for in a query and in a token.
use Rattle.std.specs.Prelude.{◌≡◌, ⊤, ℕ, ◌+◌, ◌==◌, Bool, List, [], ◌∷◌, ◌++◌, codes, length, min, Option, Some, None, Result, Ok, Err, if◌then◌else◌}
use Rattle.std.specs.List.{after_first, before_first, join_with_byte, slice_split}
use Rattle.std.specs.Option.{is_some, option_and_then}
use Rattle.ac_base.specs.Texts.{id_text}
use Rattle.ac_query.specs.Pairs.{text_of}
use Rattle.ac_query.specs.Pairs.Parameters.{group_of}
use Rattle.ac_query.specs.Texts.{behind, items_of}
use Rattle.ac_query.specs.Tokens.{ids_text}
use Rattle.ac_report.specs.Called.{AreCalled, Called, stands_for}
use Rattle.ac_report.specs.declared.called.NameFault.{NameFault}
use Rattle.ac_report.specs.declared.called.NameFault.TheVariants as fault
use Rattle.ac_run.specs.declared.wanted.named.LookupFault.{LookupFault}
use Rattle.ac_run.specs.declared.wanted.named.LookupFault.TheVariants as lookup
use Rattle.ac_run.specs.declared.wanted.named.Naming as rust
use Rattle.ac_run.specs.declared.wanted.named.query.PairFault.{PairFault}
use Rattle.ac_run.specs.declared.wanted.named.query.PairFault.TheVariants as pair
use Rattle.ac_tables.specs.Tables.Rows.{records_of}

-- what has names: providers, and aggregates
pub record Naming : Type 0 where
  pub providers : Called
  pub aggregates : Called

-- something of what is there, or the same fault
abbrev pub and_then : {X Y E : Type 0} → Result X E → (X → Result Y E) → Result Y E
and_then (Ok x) more = more x
and_then (Err f) more = Err f

abbrev pub mapped : {X Y E : Type 0} → (X → Y) → Result X E → Result Y E
mapped f (Ok x) = Ok (f x)
mapped f (Err e) = Err e

-- what is found of each of some things; else the first fault
abbrev pub each_found : {T X E : Type 0} → (T → Result X E) → List T → Result (List X) E
each_found find [] = Ok []
each_found find (t ∷ more) = and_then (find t) (λ x. mapped (λ xs. x ∷ xs) (each_found find more))

-- ---- lists of names

-- the UUIDs that texts stand for, where each stands for one; else the fault of the first that doesn't
abbrev pub ids_each : Called → List (List ℕ) → Result (List ℕ) NameFault
ids_each called texts = each_found (stands_for called) texts

-- the one that a whole text stands for; where it stands for none, those of the texts between its commas
abbrev pub whole_or_each : Called → List ℕ → Result ℕ NameFault → Result (List ℕ) NameFault
whole_or_each called text (Ok id) = Ok (id ∷ [])
whole_or_each called text (Err fault.Ambiguous) = Err fault.Ambiguous
whole_or_each called text (Err fault.Unknown) = ids_each called (items_of text)

abbrev pub ids_listed : Called → List ℕ → Result (List ℕ) NameFault
ids_listed called text = whole_or_each called text (stands_for called text)

-- ---- a query

-- a rule of aggregates behind its mark: a list behind `in:`, or one
abbrev pub aggregates_with_ids : Called → List ℕ → List ℕ → Option (List ℕ) → Result (List ℕ) NameFault
aggregates_with_ids called mark text (Some list) = mapped (λ ids. mark ++ codes "in:" ++ ids_text ids) (ids_listed called list)
aggregates_with_ids called mark text None = mapped (λ id. mark ++ id_text id) (stands_for called text)

-- the rule of a text, which may have a mark
abbrev pub marked_with_ids : Called → List ℕ → Option (List ℕ) → Result (List ℕ) NameFault
marked_with_ids called text (Some plain) = aggregates_with_ids called (codes "!") plain (behind (codes "in:") plain)
marked_with_ids called text None = aggregates_with_ids called [] text (behind (codes "in:") text)

unfoldable pub rule_with_ids : Called → List ℕ → Result (List ℕ) NameFault
rule_with_ids called text = marked_with_ids called text (behind (codes "!") text)

-- whether a parameter is this one of a group, with a suffix or without
abbrev pub is_field : List ℕ → List ℕ → Bool
is_field word name = is_some (option_and_then group_of (behind word name))

-- `=` and `&`
abbrev pub is_equals : ℕ → Bool
is_equals c = c == 61

abbrev pub is_and : ℕ → Bool
is_and c = c == 38

-- the name of a pair, and its value with UUIDs in place of names
abbrev pub pair_with_ids : List ℕ → Result (List ℕ) NameFault → Result (List ℕ) NameFault
pair_with_ids name value = mapped (λ value. name ++ 61 ∷ value) value

-- a pair of `in_tree`, and one of `member_of`
abbrev pub tree_with_id : Called → List ℕ → Result (List ℕ) NameFault
tree_with_id called piece = pair_with_ids (before_first is_equals piece) (mapped id_text (stands_for called (text_of (after_first is_equals piece))))

abbrev pub members_with_ids : Called → List ℕ → Result (List ℕ) NameFault
members_with_ids called piece = pair_with_ids (before_first is_equals piece) (rule_with_ids called (text_of (after_first is_equals piece)))

-- a piece of a query by the name of its pair: names may stand in these two; any other is as it is
abbrev pub piece_by : Naming → List ℕ → List ℕ → Result (List ℕ) NameFault
piece_by naming piece name =
    if is_field (codes "in_tree") name then tree_with_id naming.providers piece
    else if is_field (codes "member_of") name then members_with_ids naming.aggregates piece
    else Ok piece

unfoldable pub piece_with_ids : Naming → List ℕ → Result (List ℕ) NameFault
piece_with_ids naming piece = piece_by naming piece (text_of (before_first is_equals piece))

-- the number of the pair behind a piece, at most 4294967295; an empty piece is none
abbrev pub number_behind : ℕ → List ℕ → ℕ
number_behind n piece = if length piece == 0 then n else min (n + 1) 4294967295

-- a fault with the number of its pair
abbrev pub numbered : {X : Type 0} → ℕ → Result X NameFault → Result X (ℕ × NameFault)
numbered n (Ok x) = Ok x
numbered n (Err f) = Err (n, f)

-- pieces with the numbers of their pairs, of which the first has this one
abbrev pub with_numbers : ℕ → List (List ℕ) → List (ℕ × List ℕ)
with_numbers n [] = []
with_numbers n (piece ∷ more) = (n, piece) ∷ with_numbers (number_behind n piece) more

abbrev pub numbered_piece : Naming → ℕ × List ℕ → Result (List ℕ) (ℕ × NameFault)
numbered_piece naming p = numbered p.0 (piece_with_ids naming p.1)

abbrev pub pieces_with_ids : Naming → ℕ → List (List ℕ) → Result (List (List ℕ)) (ℕ × NameFault)
pieces_with_ids naming n pieces = each_found (numbered_piece naming) (with_numbers n pieces)

-- a query, piece by piece
unfoldable pub query_with_ids : Naming → List ℕ → Result (List ℕ) (ℕ × NameFault)
query_with_ids naming query = mapped (join_with_byte 38) (pieces_with_ids naming 1 (slice_split is_and query))

-- ---- its pairs

-- the value of a pair with UUIDs in place of names
abbrev pub value_with_ids : Naming → List ℕ × List ℕ → Result (List ℕ) NameFault
value_with_ids naming p =
    if is_field (codes "in_tree") p.0 then mapped id_text (stands_for naming.providers p.1)
    else if is_field (codes "member_of") p.0 then rule_with_ids naming.aggregates p.1
    else Ok p.1

abbrev pub pair_found : Naming → List ℕ × List ℕ → Result (List ℕ × List ℕ) NameFault
pair_found naming p = mapped (λ value. (p.0, value)) (value_with_ids naming p)

-- pairs with UUIDs in place of names; else the first fault
abbrev pub pairs_with_ids : Naming → List (List ℕ × List ℕ) → Result (List (List ℕ × List ℕ)) NameFault
pairs_with_ids naming pairs = each_found (pair_found naming) pairs

-- ---- a token

-- the one record of a token; any other text stays, and is none
abbrev pub record_with_ids : Called → List ℕ → List (List (List ℕ)) → Result (List ℕ) NameFault
record_with_ids called text (fields ∷ []) = mapped ids_text (ids_each called fields)
record_with_ids called text _ = Ok text

-- a token by names, as `csv` reads it
unfoldable pub token_with_ids : Called → List ℕ → Result (List ℕ) NameFault
token_with_ids called text = record_with_ids called text (records_of text)

-- ---- what is kept of it

-- what is looked up is what these have
pub record AreNamed (naming : Naming) (names : rust.Naming) : Type 0 where
  pub providers : AreCalled naming.providers names.providers
  pub aggregates : AreCalled naming.aggregates names.aggregates

-- the fault is told, or a growth was refused
abbrev pub TellsName : {X : Type 0} → Result X NameFault → LookupFault → Type 0
TellsName found (lookup.Name f) = found ≡ Err f
TellsName found lookup.NoMemory = ⊤

abbrev pub TellsPair : {X : Type 0} → Result X (ℕ × NameFault) → PairFault → Type 0
TellsPair found (pair.Name n f) = found ≡ Err (n, f)
TellsPair found pair.NoMemory = ⊤
