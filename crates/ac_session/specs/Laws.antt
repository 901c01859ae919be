-- What the laws say.
pub mod Apart
use Rattle.std.specs.Prelude.{◌≡◌, ◌<◌, ◌≤◌, ⊤, ℕ, None, Some, List, [], ◌∷◌, ◌++◌, map, All, false, true, codes}
use Rattle.std.specs.List.{join_with_byte}
use Rattle.ac_base.specs.Quantities.{capacity}
use Rattle.ac_cloud.specs.World.{Provider, UsedInventory, World, entry_in, provider_at, used_of}
use Rattle.ac_cloud.specs.Laws.{AreProviders}
use Rattle.ac_fill.specs.Filled.{filled}
use Rattle.ac_query.specs.Asked.{Asked as Query}
use Rattle.ac_query.specs.Faults.{query_fault}
use Rattle.ac_query.specs.Laws.Gathered.{asked_by}
use Rattle.ac_query.specs.Pairs.{pairs_of}
use Rattle.ac_query.specs.Tokens.{ids_text}
use Rattle.ac_query.specs.declared.version.Version.{Version}
use Rattle.ac_report.specs.Pages.{IsAssignment}
use Rattle.ac_rules.specs.Claims.{claimed}
use Rattle.ac_rules.specs.Judge.{is_candidate}
use Rattle.ac_rules.specs.Pages.{ids_of}
use Rattle.ac_rules.specs.Placed.{assigned}
use Rattle.ac_run.specs.Answer.{past_query, written}
use Rattle.ac_session.specs.Held.{Held, unnamed}
use Rattle.ac_session.specs.Lines.{Given, behind_line, first_line, is_newline, newline}
use Rattle.ac_session.specs.Questions.{Asked, Text, job, fill, place, claim, release, release_name, move, mark, back, usages, left_at, help, nothing, unknown, wrong_number, is_blank, words_of}
use Rattle.ac_session.specs.Turns.{answers, back_turn, claim_line, claim_turn, fill_turn, is_done, lines_in, mark_turn, named_release_turn, release_said, release_turn, status_of, turn_asked, turn_of}
use Rattle.ac_session.specs.Turns.Named.{Terms}
use Rattle.ac_tables.specs.Tables.{Tables, tables_fault, world_stated}
use Rattle.ac_tables.specs.Tables.Rows.{records_of}
use Rattle.ac_tables.specs.UsageRows.{usages_fit, usages_text}

-- no byte of a text is a blank
abbrev pub LacksBlanks : Text → Type 0
LacksBlanks text = All (λ byte. is_blank byte ≡ false) text

-- no byte of a text is a newline
abbrev pub LacksNewlines : Text → Type 0
LacksNewlines text = All (λ byte. is_newline byte ≡ false) text

-- What is written as a line of words is read as these words, and what is written behind it is left.
pub record ReadsBack : Type 0 where
  pub words : (first : Text) (others : List Text) → All LacksBlanks (first ∷ others) → words_of (join_with_byte 32 (first ∷ others)) ≡ first ∷ others
  pub line : (text rest : Text) → LacksNewlines text → first_line (text ++ newline ∷ rest) ≡ text
  pub behind : (text rest : Text) → LacksNewlines text → behind_line (text ++ newline ∷ rest) ≡ rest

-- what is asked changes nothing: it is no placement, claim, release or move, no mark, and no way back
abbrev pub OnlyAsks : Asked → Type 0
OnlyAsks (job task) = ⊤
OnlyAsks (fill query) = ⊥
OnlyAsks (place query name host) = ⊥
OnlyAsks (claim query token name) = ⊥
OnlyAsks (release query token) = ⊥
OnlyAsks (release_name name) = ⊥
OnlyAsks (move name token) = ⊥
OnlyAsks mark = ⊥
OnlyAsks back = ⊥
OnlyAsks usages = ⊤
OnlyAsks (left_at host) = ⊤
OnlyAsks help = ⊤
OnlyAsks nothing = ⊤
OnlyAsks unknown = ⊤
OnlyAsks wrong_number = ⊤

-- What only asks leaves all as it was, the cloud, the names and the marks.
abbrev pub AskingLeavesAll : Type 0
AskingLeavesAll = (terms : Terms) (held : Held) (asked : Asked) → OnlyAsks asked → (turn_asked terms held asked).state ≡ held

-- Each candidate behind a claim was one before it, whatever was claimed.
abbrev pub ClaimTurnsNarrow : Type 0
ClaimTurnsNarrow = (version : Version) (query token : Text) (world : World) (asked : Query) (list : List ℕ)
    → is_candidate (claim_turn version query token world).state.providers asked list ≡ true → is_candidate world.providers asked list ≡ true

-- Each candidate before a release is one behind it, whatever was released.
abbrev pub ReleaseTurnsWiden : Type 0
ReleaseTurnsWiden = (version : Version) (query token : Text) (world : World) (asked : Query) (list : List ℕ)
    → is_candidate world.providers asked list ≡ true → is_candidate (release_turn version query token world).state.providers asked list ≡ true

-- What was claimed, the same words release: the world is as it was before the claim.
abbrev pub ReleaseTurnUndoes : Type 0
ReleaseTurnUndoes = (version : Version) (query token : Text) (world : World)
    → past_query (claim_line world.providers) (Some token) version query ≡ written (codes "claimed\n") 0
    → release_turn version query token (claim_turn version query token world).state ≡ answers world (written (codes "released\n") 0)

-- A name that is released stands for nothing: who sends the same again is told so, and nothing changes.
abbrev pub ReleasedOnce : Type 0
ReleasedOnce = (version : Version) (name : Text) (held : Held) → is_done (status_of (named_release_turn version name held).answer) ≡ true
    → named_release_turn version name (named_release_turn version name held).state ≡ answers (named_release_turn version name held).state (release_said false)

-- what is held behind some lines
abbrev pub held_behind : Terms → Held → List Given → Held
held_behind terms held [] = held
held_behind terms held (given ∷ others) = held_behind terms (turn_of terms held given).state others

-- what is asked neither marks nor goes back
abbrev pub LeavesMarks : Asked → Type 0
LeavesMarks mark = ⊥
LeavesMarks back = ⊥
LeavesMarks asked = ⊤

-- Then the marks stay.
abbrev pub MarksStay : Type 0
MarksStay = (terms : Terms) (held : Held) (asked : Asked) → LeavesMarks asked → (turn_asked terms held asked).state.marks ≡ held.marks

-- Whatever is asked behind a mark: where the marks are as they were behind it, `back` gives back all that was held before it.
abbrev pub BackToMark : Type 0
BackToMark = (terms : Terms) (tables : Tables) (before between : List Given) → tables_fault tables ≡ None
    → (let held = held_behind terms (unnamed (world_stated tables)) before in
    let now = held_behind terms (mark_turn held).state between in
    now.marks ≡ (mark_turn held).state.marks → (back_turn now).state ≡ held)

-- the providers behind some lines
abbrev pub providers_behind : Terms → Held → List Given → List Provider
providers_behind terms held lines = (held_behind terms held lines).world.providers

-- the tables, with the table of usages that is written of these providers
abbrev pub with_usages : Tables → List Provider → Tables
with_usages tables all = record tables { usages = records_of (usages_text all) }

-- The table of usages is accepted beside the others, and they state these providers.
pub record GoesOn (tables : Tables) (all : List Provider) : Type 0 where
  pub accepted : tables_fault (with_usages tables all) ≡ None
  pub stated : (world_stated (with_usages tables all)).providers ≡ all

-- The end of a session is the start of the next: so it is of the table of usages at its end, where all that is used may stand in a table.
abbrev pub SessionsGoOn : Type 0
SessionsGoOn = (terms : Terms) (tables : Tables) (questions : Text) → tables_fault tables ≡ None
    → usages_fit (providers_behind terms (unnamed (world_stated tables)) (lines_in questions)) ≡ true
    → GoesOn tables (providers_behind terms (unnamed (world_stated tables)) (lines_in questions))

-- What is used of an inventory beyond its capacity was used of it before: none gets overbooked, and none that was gets fuller.
abbrev pub NoneOverbooked : List Provider → List Provider → Type 0
NoneOverbooked before all = (ix : ℕ) (class : List ℕ) (had : UsedInventory) → entry_in (provider_at all ix) class ≡ Some had
    → capacity had.inventory < had.used → had.used ≤ used_of (provider_at before ix) class

-- So it is of the tables' providers, whatever is asked in a session.
abbrev pub SessionsNeverOverbook : Type 0
SessionsNeverOverbook = (terms : Terms) (tables : Tables) (lines : List Given) → tables_fault tables ≡ None
    → NoneOverbooked (world_stated tables).providers (providers_behind terms (unnamed (world_stated tables)) lines)

-- the line of a list of providers, as `tokens` writes it
abbrev pub list_token : List Provider → List ℕ → Text
list_token all list = ids_text (ids_of all list)

-- The line of a candidate claims it: it is answered so, and behind it the candidate has taken what is asked.
abbrev pub LinesAreClaimed : Type 0
LinesAreClaimed = (version : Version) (query : Text) (world : World) (list : List ℕ) → AreProviders world.providers → query_fault version query ≡ None
    → IsAssignment world.providers (asked_by version (pairs_of query)) list → is_candidate world.providers (asked_by version (pairs_of query)) list ≡ true
    → claim_turn version query (list_token world.providers list) world
    ≡ record { answer = Some (written (codes "claimed\n") 0); state = record world { providers = claimed world.providers (assigned (asked_by version (pairs_of query)) list) } }

-- the world behind claims by these tokens, one after another
abbrev pub claimed_behind : Version → Text → World → List Text → World
claimed_behind version query world [] = world
claimed_behind version query world (token ∷ others) = claimed_behind version query (claim_turn version query token world).state others

-- What `fill` leaves is what claims by its lines leave, one after another.
abbrev pub FillsAreClaims : Type 0
FillsAreClaims = (terms : Terms) (query : Text) (world : World) → AreProviders world.providers → query_fault terms.version query ≡ None
    → (let asked = asked_by terms.version (pairs_of query) in
    (fill_turn terms query world).state ≡ claimed_behind terms.version query world (map (list_token world.providers) (filled asked.limit world.providers asked)))
