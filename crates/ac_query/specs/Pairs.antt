-- The pairs of a query, and what they give.
pub mod Parameters
pub mod Values
use Rattle.std.specs.Prelude.{ℕ, List, map, Option}
use Rattle.std.specs.List.{filter_map}
use Rattle.std.specs.Option.{option_and_then}
use Rattle.std.specs.Str.Lossy.{utf8_lossy}
use Rattle.form_urlencoded.specs.Form.{decode, raw_pairs}
use Rattle.ac_query.specs.declared.version.Version.{Version}
use Rattle.ac_query.specs.Pairs.Parameters.{parameter}
use Rattle.ac_query.specs.Pairs.Values.{Given, given_of}

-- the text that a name or a value stands for
abbrev pub text_of : List ℕ → List ℕ
text_of bytes = utf8_lossy (decode bytes)

-- a name and a value, decoded
abbrev pub pair_text : List ℕ × List ℕ → List ℕ × List ℕ
pair_text p = (text_of p.0, text_of p.1)

-- the names and the values of a query, in order
abbrev pub pairs_of : List ℕ → List (List ℕ × List ℕ)
pairs_of query = map pair_text (raw_pairs query)

-- what a pair gives, where its name is a parameter and its value has the form
abbrev pub read_pair : Version → List ℕ × List ℕ → Option Given
read_pair version p = option_and_then (λ q. given_of version q p.1) (parameter p.0)

-- what pairs give, in order
abbrev pub given : Version → List (List ℕ × List ℕ) → List Given
given version pairs = filter_map (read_pair version) pairs
