-- Tokens: their texts, and the ids of their parts.
use Rattle.std.specs.Prelude.{ℕ, ◌==◌, nat_lt, List, ◌∷◌, map, length, Option, Some, None, if◌then◌else◌}
use Rattle.std.specs.List.{join_with_byte}
use Rattle.ac_base.specs.Texts.{id_text}
use Rattle.ac_query.specs.declared.token.Token.{Token}
use Rattle.ac_query.specs.declared.token.TokenFault.{TokenFault}
use Rattle.ac_query.specs.declared.token.TokenFault.TheVariants.{BadToken, WrongLength, NoMemory}
use Rattle.ac_query.specs.Pairs.Values.{ids_value}
use Rattle.ac_query.specs.Asked.{Asked, slots_of}

-- the ids of a token, in order
abbrev pub ids_of : Token → List ℕ
ids_of t = t.ids.items

-- the text of a token: ids in written form, joined by commas
abbrev pub ids_text : List ℕ → List ℕ
ids_text ids = join_with_byte 44 (map id_text ids)

-- the text of the part at a place: behind a comma, but for the first
abbrev pub part_text : ℕ → ℕ → List ℕ
part_text place id = if nat_lt 0 place then 44 ∷ id_text id else id_text id

-- a text whose parts have these ids, if any, is refused where a part has none, and then where there aren't as many as slots
abbrev pub fault_of : ℕ → Option (List ℕ) → Option TokenFault
fault_of slots None = Some BadToken
fault_of slots (Some ids) = if length ids == slots then None else Some WrongLength

-- the fault of a text as a token of a query
abbrev pub token_fault : Asked → List ℕ → Option TokenFault
token_fault a text = fault_of (length (slots_of a)) (ids_value text)

-- want of memory tells no fault
abbrev pub fault_told : TokenFault → Option TokenFault
fault_told BadToken = Some BadToken
fault_told WrongLength = Some WrongLength
fault_told NoMemory = None
