-- Where `clap` finds no fault in the words of the program, they name a command that is not `help`, with each entry that it needs.
use Rattle.std.proofs.Common.{◌≡◌, ◌<◌, ◌∷◌, [], Bool, true, false, List, Option, Some, None, codes, length, refl, sym, arith, inl, inr}
use Rattle.std.specs.Prelude.{◌&&◌, ◌||◌, ⊤, find, is_some, not, option_and_then, slice_get}
use Rattle.std.specs.List.{list_all, list_any}
use Rattle.std.specs.Option.{option_map, option_map_or}
use Rattle.std.specs.Str.{bytes_eq}
use Rattle.std.proofs.lemmas.Bool.{and_parts, cases_Bool}
use Rattle.std.proofs.lemmas.Slice.Eq.{bytes_eq-Decides}
use Rattle.clap.specs.Facts.{explicit_source}
use Rattle.clap.specs.Faults.{check_fault, defaults_fault, entered_fault, fault_of, level_fault, settle_fault, walk_fault}
use Rattle.clap.specs.Kinds.{or_else}
use Rattle.clap.specs.Simple.{App, Shape, argument_words, built, entered, label_of, names_of, rows_at}
use Rattle.clap.specs.Takes.{is_given}
use Rattle.clap.specs.Words.{first_of}
use Rattle.clap.specs.Walk.{Row, Rule, Text, answers_to, finished, is_empty, nothing_held, rows_after, settled, walk, walk_from}
use Rattle.clap.proofs.SimpleLemmas.{is_nil}
use Rattle.clap.proofs.OnLiterals.{clap_on_literals}
use Rattle.ac_run.specs.Tasks.{Command, verify, why}
use Rattle.ac_run.specs.Wanted.Mark.{past_mark}
use Rattle.ac_words.specs.Names.{name_read}
use Rattle.ac_words.specs.Words.{asking, asking_beside, beside, call_of, command_found, is_complete, job, named, plan, program}
use Rattle.ac_words.specs.declared.name.Name.{Name}
use Rattle.ac_words.specs.declared.name.Name.TheVariants as name
use Rattle.ac_words.proofs.FilledRows.{Filled, HasValue, asks_or_takes, first_free, then_free}
use Rattle.ac_words.proofs.FilledWalk.{NotHelp, keeps-defaults, keeps-settled, keeps-walk}

-- ---- the last checks

command_given : (s : Shape) (rows : List Row) (has_command : Bool) → s.subcommand_required ≡ true → check_fault s rows has_command ≡ []
    → has_command ≡ true
command_given s rows true wanted e = refl
command_given s rows false wanted e = grind arith

none_lacks : (s : Shape) (rows : List Row) → check_fault s rows false ≡ [] → list_any (λ a. a.required && not (is_given a.id rows)) s.rules ≡ false
none_lacks s rows e = grind arith

-- ---- the entries of a command

abbrev needs : Text → Shape → Bool
needs name s = list_any (λ a. a.required && bytes_eq a.id name) s.rules

needed-given : (name : Text) (rows : List Row) (all : List Rule) → list_any (λ a. a.required && not (is_given a.id rows)) all ≡ false
    → list_any (λ a. a.required && bytes_eq a.id name) all ≡ true → is_given name rows ≡ true
needed-given name rows [] lacks n = cc
needed-given name rows (a ∷ all) lacks n =
    let others : list_any (λ a. a.required && not (is_given a.id rows)) all ≡ false = grind arith in
    elim (cases_Bool (a.required && bytes_eq a.id name)) [
      | inl t ↦
          let same : a.id ≡ name = (bytes_eq-Decides a.id name).0 (grind arith) in
          let here : is_given a.id rows ≡ true = grind arith in
          rw (← same) here
      | inr t ↦ needed-given name rows all others (rw t at n)
    ]

abbrev FilledOption : Option Row → Type 0
FilledOption None = ⊤
FilledOption (Some row) = HasValue row

abbrev HasEntry : Text → List Row → Type 0
HasEntry name rows = is_some (first_of name rows) ≡ true

-- an entry that was given has a first value
given-first : (name : Text) (rows : List Row) → Filled rows → is_given name rows ≡ true → HasEntry name rows
given-first name rows f e = go (find (λ row. bytes_eq row.id name) rows) (here rows f) e
  where
    here : (some : List Row) → Filled some → FilledOption (find (λ row. bytes_eq row.id name) some)
    here [] f = tt
    here (row ∷ some) f = elim (cases_Bool (bytes_eq row.id name)) [ inl t ↦ rw t f.0 | inr t ↦ rw t (here some f.1) ]

    first : (values : List Text) → 0 < length values → is_some (slice_get values 0) ≡ true
    first [] h = absurd (omega arith)
    first (v ∷ vs) h = refl

    go : (o : Option Row) → FilledOption o → option_map_or (λ row. explicit_source row.source) o false ≡ true
        → is_some (option_and_then (λ row. slice_get row.values 0) o) ≡ true
    go None f e = cc
    go (Some row) f e = first row.values f

-- no fault in the words of a command: what it needs has an entry
level-entry : (s : Shape) (words : List Text) (name : Text) → list_all asks_or_takes s.rules ≡ true → needs name s ≡ true
    → level_fault s [] nothing_held words false [] ≡ [] → HasEntry name (rows_after s.rules [] words)
level-entry s words name kept n e =
    let end = (walk s.rules [] nothing_held words).held in
    let rows = rows_after s.rules [] words in
    let goes = walk_fault s [] (walk_from nothing_held) words in
    let settles = settle_fault s.rules s.args_override_self end in
    let defaults = defaults_fault (settled s.rules end).rows s.rules in
    let checks = check_fault s rows false in
    let last = or_else settles (or_else defaults checks) in
    let later : last ≡ [] = then_free goes last e in
    let walked_rows = (keeps-walk s kept [] (walk_from nothing_held) words (tt, tt) (first_free goes last e)).0 in
    let settled_rows = keeps-settled s kept end walked_rows (first_free settles (or_else defaults checks) later) in
    let f = keeps-defaults (settled s.rules end).rows s.rules settled_rows in
    let checked : checks ≡ [] = then_free defaults checks (then_free settles (or_else defaults checks) later) in
    given-first name rows f (needed-given name rows s.rules (none_lacks s rows checked) n)

-- ---- the command that the words name

-- the subcommand that `clap` adds
abbrev is_help : Shape → Bool
is_help s = bytes_eq s.name (codes "help") && is_empty s.aliases

-- it needs the words of a command
abbrev needs_words : Name → Shape → Bool
needs_words name.Check s = true
needs_words name.Verify s = needs (codes "query") s && needs (codes "token") s
needs_words name.Why s = needs (codes "query") s && needs (codes "host") s
needs_words name.Capacity s = needs (codes "flavors") s
needs_words name.Compare s = needs (codes "query") s && needs (codes "answer") s
needs_words name.Audit s = true
needs_words name.Query s = true
needs_words name.Session s = true
needs_words _ s = needs (codes "query") s

abbrev serves : Option Name → Shape → Bool
serves None s = false
serves (Some name) s = needs_words name s && list_all asks_or_takes s.rules

-- it is a command of the program, which needs each entry that the command has to have
abbrev is_served : Shape → Bool
is_served s = serves (name_read s.name) s

abbrev ServedOption : Option Shape → Type 0
ServedOption None = ⊤
ServedOption (Some s) = is_served s ≡ true

-- no fault in the words of a command that needs its words: all are there
module _ (s : Shape) (words : List Text) (kept : list_all asks_or_takes s.rules ≡ true) (e : level_fault s [] nothing_held words false [] ≡ []) where
  abbrev rows : List Row
  rows = rows_after s.rules [] words

  query-given : (command : Command) → needs (codes "query") s ≡ true → is_some (asking rows command) ≡ true
  query-given command n = by_word (first_of (codes "query") rows) (level-entry s words (codes "query") kept n e)
    where
      by_word : (word : Option Text) → is_some word ≡ true → is_some (option_map (λ query. job command (past_mark query)) word) ≡ true
      by_word (Some text) h = refl
      by_word None h = h

  both-given : (entry : Text) (command : Text → Command) → (needs (codes "query") s && needs entry s) ≡ true
      → is_some (option_and_then (λ word. asking rows (command word)) (first_of entry rows)) ≡ true
  both-given entry command n =
      let parts = and_parts (needs (codes "query") s) (needs entry s) n in
      by_word (first_of entry rows) (level-entry s words entry kept parts.1 e) (λ word. query-given (command word) parts.0)
    where
      by_word : (o : Option Text) → is_some o ≡ true → ((word : Text) → is_some (asking rows (command word)) ≡ true)
          → is_some (option_and_then (λ word. asking rows (command word)) o) ≡ true
      by_word (Some word) h asked = asked word
      by_word None h asked = h

  answer-given : (needs (codes "query") s && needs (codes "answer") s) ≡ true → is_some (option_and_then (asking_beside rows) (first_of (codes "answer") rows)) ≡ true
  answer-given n =
      let parts = and_parts (needs (codes "query") s) (needs (codes "answer") s) n in
      by_word (first_of (codes "answer") rows) (first_of (codes "query") rows) (level-entry s words (codes "answer") kept parts.1 e) (level-entry s words (codes "query") kept parts.0 e)
    where
      by_word : (path query : Option Text) → is_some path ≡ true → is_some query ≡ true
          → is_some (option_and_then (λ path. option_map (λ query. beside path (past_mark query)) query) path) ≡ true
      by_word (Some path) (Some query) h k = refl
      by_word (Some path) None h k = k
      by_word None query h k = h

  flavors-given : (o : Option Text) (metrics : Bool) → is_some o ≡ true → is_some (option_map (λ path. plan path metrics) o) ≡ true
  flavors-given (Some text) metrics h = refl
  flavors-given None metrics h = h

  words-given : (name : Name) → needs_words name s ≡ true → is_some (call_of name rows) ≡ true
  unfolding call_of
  words-given name.Check n = refl
  words-given name.Candidates n = query-given _ n
  words-given name.Tokens n = query-given _ n
  words-given name.List n = query-given _ n
  words-given name.Fill n = query-given _ n
  words-given name.Verify n = both-given (codes "token") verify n
  words-given name.Explain n = query-given _ n
  words-given name.Hosts n = query-given _ n
  words-given name.Why n = both-given (codes "host") why n
  words-given name.Audit n = refl
  words-given name.Compare n = answer-given n
  words-given name.Capacity n = flavors-given (first_of (codes "flavors") rows) _ (level-entry s words (codes "flavors") kept n e)
  words-given name.Query n = refl
  words-given name.Session n = refl

level-complete : (s : Shape) (words : List Text) → is_served s ≡ true → level_fault s [] nothing_held words false [] ≡ []
    → is_complete (command_found (Some (rows_at s words))) ≡ true
level-complete s words k e = by_name (name_read s.name) k
  where
    by_name : (o : Option Name) → serves o s ≡ true
        → is_complete (option_map (λ name. (name, rows_after s.rules [] words)) o) ≡ true
    by_name None k = k
    by_name (Some name) k =
        let parts = and_parts (needs_words name s) (list_all asks_or_takes s.rules) k in
        words-given s words parts.1 e name parts.0

no-answer : (s : Shape) (word : Text) → is_help s ≡ true → bytes_eq word (codes "help") ≡ false → answers_to word (label_of s) ≡ true → ⊥
no-answer s word k n e =
    let name : s.name ≡ codes "help" = (bytes_eq-Decides s.name (codes "help")).0 (grind arith) in
    let none : s.aliases ≡ [] = is_nil s.aliases (grind arith) in
    let both : (bytes_eq (codes "help") word || false) ≡ true = rw (name, none) at e in
    let same : codes "help" ≡ word = (bytes_eq-Decides (codes "help") word).0 (grind arith) in
    let yes : bytes_eq word (codes "help") ≡ true = (bytes_eq-Decides word (codes "help")).1 (sym same) in
    cc

served-find : (word : Text) (subs : List Shape) → bytes_eq word (codes "help") ≡ false → list_all (λ s. is_help s || is_served s) subs ≡ true
    → ServedOption (find (λ s. answers_to word (label_of s)) subs)
served-find word [] n k = tt
served-find word (s ∷ subs) n k =
    let parts = and_parts (is_help s || is_served s) (list_all (λ s. is_help s || is_served s) subs) k in
    elim (cases_Bool (answers_to word (label_of s))) [
      | inl t ↦
          let served : is_served s ≡ true = elim (cases_Bool (is_help s)) [
            | inl help ↦ absurd (no-answer s word help n t)
            | inr other ↦ rw other at parts.0
          ] in
          rw t served
      | inr t ↦ rw t (served-find word subs n parts.1)
    ]

shape-complete : (words : List Text) (o : Option Shape) → ServedOption o → is_some (option_map (λ s. rows_at s words) o) ≡ true
    → option_map_or (λ s. level_fault s [] nothing_held words false []) o [] ≡ [] → is_complete (command_found (option_map (λ s. rows_at s words) o)) ≡ true
shape-complete words None k some e = cc
shape-complete words (Some s) k some e = level-complete s words k e

entered-complete : (a : App) (stop : Option (Text × List Text)) → list_all (λ s. is_help s || is_served s) a.subs ≡ true
    → NotHelp a.top stop → a.top.disable_help_subcommand ≡ false → is_some (entered a stop) ≡ true
    → entered_fault a stop ≡ [] → is_complete (command_found (entered a stop)) ≡ true
entered-complete a None k n helps some e = cc
entered-complete a (Some p) k n helps some e = shape-complete p.1 (find (λ s. answers_to p.0 (label_of s)) a.subs) (served-find p.0 a.subs (n helps) k) some e

program-served : list_all (λ s. is_help s || is_served s) (built program).subs ≡ true
unfolding clap_on_literals name_read
program-served = refl

program-kept : list_all asks_or_takes (built program).top.rules ≡ true
unfolding clap_on_literals
program-kept = refl

-- where no fault is found, a command was found with all that it needs
pub named-complete : (words : List Text) → fault_of program words ≡ [] → is_complete (named words) ≡ true
unfolding named
named-complete words e =
    let a = built program in
    let rest = argument_words program words in
    let walked_to = walk a.top.rules (names_of a) nothing_held rest in
    let goes = walk_fault a.top (names_of a) (walk_from nothing_held) rest in
    let below = entered_fault a walked_to.stopped in
    let settles = settle_fault a.top.rules a.top.args_override_self walked_to.held in
    let defaults = defaults_fault (settled a.top.rules walked_to.held).rows a.top.rules in
    let checks = check_fault a.top (finished a.top.rules walked_to.held) (is_some (entered a walked_to.stopped)) in
    let last = or_else settles (or_else defaults checks) in
    let later : or_else below last ≡ [] = then_free goes (or_else below last) e in
    let checked : checks ≡ [] = then_free defaults checks (then_free settles (or_else defaults checks) (then_free below last later)) in
    let found = command_given a.top (finished a.top.rules walked_to.held) (is_some (entered a walked_to.stopped)) refl checked in
    let stops = (keeps-walk a.top program-kept (names_of a) (walk_from nothing_held) rest (tt, tt) (first_free goes (or_else below last) e)).1 in
    entered-complete a walked_to.stopped program-served stops refl found (first_free below last later)
