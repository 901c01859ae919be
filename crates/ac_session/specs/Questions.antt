-- Questions: what the words of a line ask.
pub mod LineFaults
use Rattle.std.specs.Prelude.{ℕ, ◌==◌, ◌&&◌, nat_lt, Bool, true, false, List, [], ◌∷◌, codes, length, Option, Some, None, option_map, if◌then◌else◌}
use Rattle.std.specs.List.{after_first, before_first, list_any, position_or_len, slice_split}
use Rattle.std.specs.Str.{bytes_eq, is_utf8}
use Rattle.ac_query.specs.declared.version.Version.{Version}
use Rattle.ac_query.specs.declared.version.Version.TheVariants.{V136}
use Rattle.ac_run.specs.Tasks as task
use Rattle.ac_run.specs.Tasks.{Command, Task, check, candidates, tokens, list, verify, explain, hosts, why, task_of}
use Rattle.ac_run.specs.Wanted.Mark.{has_path, is_mark, past_mark}
use Rattle.ac_session.specs.declared.questions.Question.{Question}
use Rattle.ac_session.specs.declared.questions.Question.TheVariants as question

abbrev pub Text : Type 0
Text = List ℕ

-- ---- words

abbrev pub is_blank : ℕ → Bool
is_blank byte = byte == 32

-- the words of a line: what stands between its blanks, and may be empty
abbrev pub words_of : Text → List Text
words_of line = slice_split is_blank line

-- what stands behind the first blank, where there is one
abbrev pub behind_blank : Text → Option Text
behind_blank text = if nat_lt (position_or_len is_blank text) (length text) then Some (after_first is_blank text) else None

-- the words of what stands behind a blank
abbrev pub words_behind : Option Text → List Text
words_behind None = []
words_behind (Some text) = words_of text

-- whether a text is a line of a log: one with a path in which a blank stands
abbrev pub is_logged : Text → Bool
is_logged text = has_path text && list_any is_blank (before_first is_mark text)

-- words, the first of which is a query: it is left without the path of a URL
abbrev pub with_query : List Text → List Text
with_query [] = []
with_query (query ∷ words) = past_mark query ∷ words

-- the words of what begins with a query: of a line of a log the query in it alone
abbrev pub query_words : Option Text → List Text
query_words None = []
query_words (Some text) = if is_logged text then past_mark text ∷ [] else with_query (words_of text)

-- the word, where there is one alone
abbrev pub one_of : List Text → Option Text
one_of (word ∷ []) = Some word
one_of words = None

-- the two words, where there are two
abbrev pub two_of : List Text → Option (Text × Text)
two_of (first ∷ second ∷ []) = Some (first, second)
two_of words = None

-- a name, which isn't empty
abbrev pub name_of : Text → Option Text
name_of [] = None
name_of (byte ∷ bytes) = Some (byte ∷ bytes)

-- what stands behind a query that is claimed: a token, and perhaps a name
abbrev pub named_of : List Text → Option (Text × Option Text)
named_of (token ∷ []) = Some (token, None)
named_of (token ∷ name ∷ []) = option_map (λ name. (token, Some name)) (name_of name)
named_of words = None

-- a query, with what stands behind it
abbrev pub claim_of : List Text → Option (Text × Text × Option Text)
claim_of [] = None
claim_of (query ∷ words) = option_map (λ named. (query, named.0, named.1)) (named_of words)

-- what stands behind a query: perhaps a token to begin after, and perhaps a host behind `at`
abbrev pub part_of : List Text → Option (Option Text × Option Text)
part_of [] = Some (None, None)
part_of (after ∷ []) = Some (Some after, None)
part_of (at ∷ host ∷ []) = if bytes_eq at (codes "at") then Some (None, Some host) else None
part_of (after ∷ at ∷ host ∷ []) = if bytes_eq at (codes "at") then Some (Some after, Some host) else None
part_of words = None

-- a query, with what stands behind it
abbrev pub search_of : List Text → Option (Text × Option Text × Option Text)
search_of [] = None
search_of (query ∷ words) = option_map (λ part. (query, part.0, part.1)) (part_of words)

-- ---- what they ask

-- what is asked: a task, or something of the session itself
pub data Asked : Type 0 where
  job : Task → Asked
  fill : Text → Asked
  place : Text → Option Text → Option Text → Asked
  claim : Text → Text → Option Text → Asked
  release : Text → Text → Asked
  release_name : Text → Asked
  move : Text → Text → Asked
  mark : Asked
  back : Asked
  usages : Asked
  left_at : Option Text → Asked
  help : Asked
  nothing : Asked
  unknown : Asked
  wrong_number : Asked

-- a command over a query, of which no more is told
abbrev pub asks_job : Command → Text → Version → Asked
asks_job command query version = job (record { command = command; query = query; version = version; tries = None; changes = None; names = None; detail = None })

-- what words ask, unless their number is wrong
abbrev pub asks : {A : Type 0} → Option A → (A → Asked) → Asked
asks None ask = wrong_number
asks (Some words) ask = ask words

-- no word
abbrev pub asks_alone : List Text → Asked → Asked
asks_alone [] asked = asked
asks_alone (word ∷ words) asked = wrong_number

-- a query, perhaps with the token to begin after, and with a host at whose root candidates are to stand
abbrev pub asks_search : (Option Text → Option Text → Command) → Version → List Text → Asked
asks_search command version words = asks (search_of words) (λ p. asks_job (command p.1 p.2) p.0 version)

-- a query alone
abbrev pub asks_query : Command → Version → List Text → Asked
asks_query command version words = asks (one_of words) (λ query. asks_job command query version)

-- a query, and a token to judge or a host
abbrev pub asks_about : (Text → Command) → Version → List Text → Asked
asks_about command version words = asks (two_of words) (λ p. asks_job (command p.1) p.0 version)

-- a query, which is placed again and again
abbrev pub asks_fill : List Text → Asked
asks_fill words = asks (one_of words) fill

-- a word that may stand there, and is a name then
abbrev pub maybe_name : Option Text → Option (Option Text)
maybe_name None = Some None
maybe_name (Some word) = option_map (λ name. Some name) (name_of word)

-- a query whose first candidate is placed, perhaps with a name, and at a host
abbrev pub asks_place : List Text → Asked
asks_place words = asks (search_of words) (λ p. asks (maybe_name p.1) (λ name. place p.0 name p.2))

-- a query, and a token of what is taken, perhaps with a name
abbrev pub asks_claim : List Text → Asked
asks_claim words = asks (claim_of words) (λ p. claim p.0 p.1 p.2)

-- a name alone, or a query, and a token of what is given back
abbrev pub releases : Option Text → List Text → Asked
releases (Some name) words = asks (name_of name) release_name
releases None words = asks (two_of words) (λ p. release p.0 p.1)

abbrev pub asks_release : Option Text → Asked
asks_release rest = releases (one_of (words_behind rest)) (query_words rest)

-- a name, and a token to move to
abbrev pub asks_move : List Text → Asked
asks_move words = asks (two_of words) (λ p. asks (name_of p.0) (λ name. move name p.1))

-- nothing, or a host
abbrev pub asks_left : Option Text → Asked
asks_left None = left_at None
asks_left (Some rest) = asks (one_of (words_of rest)) (λ host. left_at (Some host))

-- what is asked by a name, and by what stands behind it
abbrev pub asked_by_name : Version → Text → Option Text → Asked
asked_by_name version name rest =
    let words = query_words rest in
    if bytes_eq name (codes "check") then asks_alone (words_behind rest) (asks_job check [] V136)
    else if bytes_eq name (codes "candidates") then asks_search (λ after at. candidates after at true) version words
    else if bytes_eq name (codes "tokens") then asks_search tokens version words
    else if bytes_eq name (codes "list") then asks_search (λ after at. list after at true) version words
    else if bytes_eq name (codes "fill") then asks_fill words
    else if bytes_eq name (codes "place") then asks_place words
    else if bytes_eq name (codes "count") then asks_query (task.fill true) version words
    else if bytes_eq name (codes "verify") then asks_about verify version words
    else if bytes_eq name (codes "explain") then asks_query explain version words
    else if bytes_eq name (codes "hosts") then asks_query (hosts false false None) version words
    else if bytes_eq name (codes "fits") then asks_query (hosts false true None) version words
    else if bytes_eq name (codes "why") then asks_about why version words
    else if bytes_eq name (codes "audit") then asks_alone (words_behind rest) (asks_job (task.audit None) [] V136)
    else if bytes_eq name (codes "claim") then asks_claim words
    else if bytes_eq name (codes "release") then asks_release rest
    else if bytes_eq name (codes "move") then asks_move (words_behind rest)
    else if bytes_eq name (codes "mark") then asks_alone (words_behind rest) mark
    else if bytes_eq name (codes "back") then asks_alone (words_behind rest) back
    else if bytes_eq name (codes "usages") then asks_alone (words_behind rest) usages
    else if bytes_eq name (codes "left") then asks_left rest
    else if bytes_eq name (codes "help") then asks_alone (words_behind rest) help
    else unknown

-- a line without bytes, or a comment, which begins with `#`
abbrev pub is_passed_over : Text → Bool
is_passed_over [] = true
is_passed_over (first ∷ rest) = first == 35

-- what a line asks; one that isn't UTF-8 is no command
abbrev pub asked_of : Version → Text → Asked
asked_of version line =
    if is_passed_over line then nothing
    else if is_utf8 line then asked_by_name version (before_first is_blank line) (behind_blank line) else unknown

-- ---- what is read

-- what a question asks
abbrev pub asked_in : Question → Asked
asked_in (question.Job j) = job (task_of j)
asked_in (question.Fill query) = fill query.now
asked_in (question.Place query name host) = place query.now (option_map (λ t. t.now) name) (option_map (λ t. t.now) host)
asked_in (question.Claim query token name) = claim query.now token.now (option_map (λ t. t.now) name)
asked_in (question.Release query token) = release query.now token.now
asked_in (question.ReleaseName name) = release_name name.now
asked_in (question.Move name token) = move name.now token.now
asked_in question.Mark = mark
asked_in question.Back = back
asked_in question.Usages = usages
asked_in (question.Left host) = left_at (option_map (λ t. t.now) host)
asked_in question.Help = help
asked_in question.Nothing = nothing
asked_in question.Unknown = unknown
asked_in question.WrongNumber = wrong_number
