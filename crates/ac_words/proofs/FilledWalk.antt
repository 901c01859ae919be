-- The walk of `clap` over the words of a command keeps its rows filled, and stops at no call for help, as long as it finds no fault.
use Rattle.std.proofs.Common.{◌≡◌, ◌∷◌, [], ℕ, zero, suc, Bool, true, false, List, Option, Some, None, codes, drop, length, arith, inl, inr}
use Rattle.std.specs.Prelude.{⊤, ◌&&◌, encode_utf8, if◌then◌else◌, is_some, not, slice_get}
use Rattle.std.specs.List.{fold, list_all}
use Rattle.std.specs.Option.{option_map_or}
use Rattle.std.specs.Str.{bytes_eq, chars}
use Rattle.std.proofs.lemmas.Bool.{cases_Bool}
use Rattle.clap.specs.Faults.{bundle_fault, bundle_step_fault, flag_word_fault, flags_fault, long_fault, option_fault, other_fault, positional_fault, react_fault, settle_fault, short_fault, step_fault, stray_fault, turn_fault, use_fault, walk_fault, word_fault}
use Rattle.clap.specs.Kinds.{Kinds, or_else}
use Rattle.clap.specs.Lexer.{long_of, short_of}
use Rattle.clap.specs.Simple.{Shape}
use Rattle.clap.specs.Walk.{Held, Names, Outcome, Row, Rule, Step, Text, Waiting, Walk, after_flag, after_step, arg_by_id, arg_by_index, arg_by_long, arg_by_short, attached_value, bundle, bundle_met, bundle_step, default_rows, done, flag_met, has_long, has_row, has_short, idle, is_pending, long_met, long_or_other, next, option, option_met, option_word, plain, plain_word, positional, reacted, reading_by, refused, settled, settled_rows, short_met, short_or_plain, subcommand, subcommand_met, subcommand_or_other, takes_several, takes_values, to_positional, trailing, used_by_id, value, waits, walked, walked_from, with_default, word_met}
use Rattle.clap.specs.declared.error.ErrorKind.TheVariants as kind
use Rattle.clap.specs.declared.parser.ValueSource.TheVariants.{DefaultValue}
use Rattle.ac_words.proofs.FilledRows.{Filled, KeptOption, asks_or_takes, filled-used, filled-with_values, first_free, kept-find, then_free}

-- where none of these faults comes, the rows are filled
abbrev pub Keeps : Kinds → Held → Type 0
Keeps kinds h = kinds ≡ [] → Filled h.rows

-- a name is no call for help, where `help` is a subcommand
abbrev NoHelp : Shape → Text → Type 0
NoHelp s name = s.disable_help_subcommand ≡ false → bytes_eq name (codes "help") ≡ false

abbrev NoHelpStep : Shape → Step → Type 0
NoHelpStep s (subcommand name) = NoHelp s name
NoHelpStep s _ = ⊤

-- a word is met without a fault: the rows are filled, and it is no call for help
abbrev IsMet : Shape → Held × Step → Type 0
IsMet s m = Filled m.0.rows × NoHelpStep s m.1

-- a walk stops at no call for help
abbrev pub NotHelp : Shape → Option (Text × List Text) → Type 0
NotHelp s None = ⊤
NotHelp s (Some p) = NoHelp s p.0

abbrev pub IsFine : Shape → Walk → Type 0
IsFine s w = Filled w.held.rows × NotHelp s w.stopped

module _ (s : Shape) (kept : list_all asks_or_takes s.rules ≡ true) where
  -- ---- uses

  keeps-used : (o : Option Rule) (values : List Text) (rows : List Row) → KeptOption o → Filled rows
      → option_map_or (λ a. use_fault s.args_override_self a values rows) o [] ≡ [] → Filled (used_by_id o values rows)
  keeps-used None values rows k f e = f
  keeps-used (Some a) values rows k f e = filled-used s.args_override_self a values rows k e f

  keeps-pending : (pending : Option (Text × List Text)) (rows : List Row) → Filled rows
      → option_map_or (λ (p : Text × List Text). option_map_or (λ a. use_fault s.args_override_self a p.1 rows)
      (arg_by_id s.rules p.0) []) pending [] ≡ []
      → Filled (settled_rows s.rules pending rows)
  keeps-pending None rows f e = f
  keeps-pending (Some p) rows f e = keeps-used (arg_by_id s.rules p.0) p.1 rows (kept-find (λ a. bytes_eq a.id p.0) s.rules kept) f e

  pub keeps-settled : (h : Held) → Filled h.rows → Keeps (settle_fault s.rules s.args_override_self h) (settled s.rules h)
  keeps-settled h f e = keeps-pending h.pending h.rows f e

  keeps-reacted : (a : Rule) (values : List Text) (h : Held) → asks_or_takes a ≡ true → Filled h.rows
      → Keeps (react_fault s.rules s.args_override_self a values h) (reacted s.rules a values h)
  keeps-reacted a values h k f e =
      let settles = settle_fault s.rules s.args_override_self h in
      let uses = use_fault s.args_override_self a values (settled s.rules h).rows in
      filled-used s.args_override_self a values (settled s.rules h).rows k (then_free settles uses e) (keeps-settled h f (first_free settles uses e))

  -- ---- options and flags

  keeps-option : (a : Rule) (v : Option Text) (h : Held) → asks_or_takes a ≡ true → Filled h.rows
      → Keeps (option_fault s.rules s.args_override_self a v h) (option_met s.rules a v h).0
  keeps-option a None h k f e = keeps-settled h f e
  keeps-option a (Some v) h k f e = keeps-reacted a (v ∷ []) h k f e

  keeps-flag : (a : Rule) (v : Option Text) (h : Held) → asks_or_takes a ≡ true → Filled h.rows
      → Keeps (if is_some v then kind.TooManyValues ∷ [] else react_fault s.rules s.args_override_self a [] h) (flag_met s.rules a v h).0
  keeps-flag a None h k f e = keeps-reacted a [] h k f e
  keeps-flag a (Some v) h k f e = f

  keeps-long : (o : Option Rule) (v : Option Text) (h : Held) → KeptOption o → Filled h.rows
      → Keeps (long_fault s.rules s.args_override_self o v h) (long_met s.rules o v h).0
  keeps-long None v h k f e = f
  keeps-long (Some a) v h k f e = elim (cases_Bool (takes_values a)) [
    | inl t ↦ rw t (keeps-option a v h k f (rw t at e))
    | inr t ↦ rw t (keeps-flag a v h k f (rw t at e))
  ]

  keeps-short : (o : Option Rule) (rest : Text) (h : Held) (fault : Held → Kinds) (more : Held → Held × Outcome) → KeptOption o → Filled h.rows
      → ((g : Held) → Filled g.rows → Keeps (fault g) (more g).0)
      → Keeps (short_fault s.rules s.args_override_self o rest h fault) (short_met s.rules o rest h more).0
  keeps-short None rest h fault more k f onward e = f
  keeps-short (Some a) rest h fault more k f onward e = elim (cases_Bool (takes_values a)) [
    | inl t ↦ rw t (keeps-option a (attached_value rest) h k f (rw t at e))
    | inr t ↦
        let reacts = react_fault s.rules s.args_override_self a [] h in
        let goes = fault (reacted s.rules a [] h) in
        let both : or_else reacts goes ≡ [] = rw t at e in
        rw t (onward (reacted s.rules a [] h) (keeps-reacted a [] h k f (first_free reacts goes both)) (then_free reacts goes both))
  ]

  keeps-bundle_step : (o : Option ℕ) (flags : Text) (skip : ℕ) (so_far : Outcome) (h : Held) (fault : Text → ℕ → Held → Kinds)
      (more : Text → ℕ → Outcome → Held → Held × Outcome)
      → Filled h.rows
      → ((rest : Text) (n : ℕ) (u : Outcome) (g : Held) → Filled g.rows → Keeps (fault rest n g) (more rest n u g).0)
      → Keeps (bundle_step_fault s.rules s.args_override_self o flags skip h fault) (bundle_step s.rules o flags skip so_far h more).0
  keeps-bundle_step None flags skip so_far h fault more f onward e = f
  keeps-bundle_step (Some x) flags zero so_far h fault more f onward e =
      let rest = drop (length (encode_utf8 x)) flags in
      keeps-short (arg_by_short s.rules x) rest h (fault rest 0) (more rest 0 done) (kept-find
      (λ a. not (is_some a.index) && has_short a x) s.rules kept) f (onward rest 0 done) e
  keeps-bundle_step (Some x) flags (suc skip) so_far h fault more f onward e = onward (drop (length (encode_utf8 x)) flags) skip so_far h f e

  keeps-flags : (n : ℕ) (flags : Text) (skip : ℕ) (so_far : Outcome) (h : Held) → Filled h.rows
      → Keeps (flags_fault s.rules s.args_override_self n flags skip h) (bundle_met s.rules n flags skip so_far h).0
  unfolding bundle_met flags_fault
  keeps-flags zero flags skip so_far h f e = f
  keeps-flags (suc n) flags skip so_far h f e =
      keeps-bundle_step (slice_get (chars flags) 0) flags skip so_far h (flags_fault s.rules s.args_override_self n) (bundle_met
      s.rules n) f (λ rest m u g j. keeps-flags n rest m u g j) e

  -- ---- words

  keeps-option_word : (o : Option Rule) (id word : Text) (h : Held) → Filled h.rows → Filled (option_word o id word h).0.rows
  keeps-option_word None id word h f = f
  keeps-option_word (Some a) id word h f = f

  keeps-plain : (waiting : Waiting) (word : Text) (h : Held) → Filled h.rows → IsMet s (plain_word s.rules waiting word h)
  keeps-plain idle word h f = (f, tt)
  keeps-plain (option id) word h f = (keeps-option_word (arg_by_id s.rules id) id word h f, tt)
  keeps-plain positional word h f = (f, tt)

  keeps-after_flag : (waiting : Waiting) (word : Text) (h : Held) (outcome : Outcome) → Filled h.rows → IsMet s (after_flag s.rules waiting word h outcome)
  keeps-after_flag waiting word h done f = (f, tt)
  keeps-after_flag waiting word h (waits id) f = (f, tt)
  keeps-after_flag waiting word h plain f = keeps-plain waiting word h f
  keeps-after_flag waiting word h refused f = keeps-plain waiting word h f

  keeps-bundle : (waiting : Waiting) (word : Text) (o : Option Text) (h : Held) → Filled h.rows
      → option_map_or (λ flags. bundle_fault s.rules s.args_override_self flags h) o [] ≡ [] → IsMet s (short_or_plain s.rules waiting word o h)
  keeps-bundle waiting word None h f e = keeps-plain waiting word h f
  keeps-bundle waiting word (Some flags) h f e =
      let b = bundle s.rules flags h in
      keeps-after_flag waiting word b.0 b.1 (keeps-flags (length flags) flags h.skip plain (record h { skip = 0 }) f e)

  keeps-flag_word : (waiting : Waiting) (word : Text) (o : Option (Text × Option Text)) (h : Held) → Filled h.rows
      → flag_word_fault s.rules s.args_override_self o word h ≡ [] → IsMet s (long_or_other s.rules waiting word o h)
  keeps-flag_word waiting word None h f e = keeps-bundle waiting word (short_of word) h f e
  keeps-flag_word waiting word (Some p) h f e =
      let m = long_met s.rules (arg_by_long s.rules p.0) p.1 h in
      keeps-after_flag waiting word m.0 m.1 (keeps-long (arg_by_long s.rules p.0) p.1 h
      (kept-find (λ a. not (is_some a.index) && has_long a p.0) s.rules kept) f e)

  keeps-other : (o : Option Text) (waiting : Waiting) (position : ℕ) (word : Text) (h : Held) → Filled h.rows
      → other_fault s o word h ≡ [] → IsMet s (subcommand_or_other s.rules o waiting position word h)
  keeps-other (Some name) waiting position word h f e = (f, no_help)
    where
      no_help : NoHelp s name
      no_help helps = elim (cases_Bool (bytes_eq name (codes "help"))) [
        | inl t ↦ absurd (cc (rw (t, helps) at e))
        | inr t ↦ t
      ]
  keeps-other None waiting position word h f e = elim (cases_Bool (bytes_eq word (45 ∷ 45 ∷ []))) [
    | inl t ↦ rw t (f, tt)
    | inr t ↦ rw t (keeps-flag_word waiting word (long_of word) h f (rw t at e))
  ]

  keeps-word : (names : Names) (is_trailing : Bool) (waiting : Waiting) (position : ℕ) (word : Text) (h : Held) → Filled h.rows
      → word_fault s names is_trailing waiting word h ≡ [] → IsMet s (word_met s.rules names is_trailing waiting position word h)
  keeps-word names true waiting position word h f e = (f, tt)
  keeps-word names false waiting position word h f e = keeps-other (subcommand_met names waiting word) waiting position word h f e

  -- ---- steps

  keeps-unless : (b : Bool) (h : Held) → Filled h.rows
      → Keeps (if b then [] else settle_fault s.rules s.args_override_self h) (if b then h else settled s.rules h)
  keeps-unless true h f e = f
  keeps-unless false h f e = keeps-settled h f e

  keeps-positional : (o : Option Rule) (word : Text) (w : Walk) (h : Held) → Filled h.rows → NotHelp s w.stopped
      → option_map_or (λ a. positional_fault s.rules s.args_override_self a h) o (stray_fault s) ≡ [] → IsFine s (to_positional s.rules o word w h)
  keeps-positional None word w h f n e = (f, n)
  keeps-positional (Some a) word w h f n e = (keeps-unless (is_pending a h.pending && takes_several a) h f e, tt)

  keeps-step : (word : Text) (w : Walk) (h : Held) (step : Step) → IsMet s (h, step) → NotHelp s w.stopped
      → step_fault s w.position h step ≡ [] → IsFine s (after_step s.rules word w h step)
  keeps-step word w h (next waiting) m n e = (m.0, n)
  keeps-step word w h (trailing position) m n e = (m.0, n)
  keeps-step word w h (subcommand name) m n e = m
  keeps-step word w h value m n e = keeps-positional (arg_by_index s.rules w.position) word w h m.0 n e

  keeps-turn : (names : Names) (w : Walk) (word : Text) (o : Option (Text × List Text)) → IsFine s w → NotHelp s o
      → (if is_some o then [] else or_else (word_fault s names w.is_trailing w.waiting word w.held)
      (step_fault s w.position (word_met s.rules names w.is_trailing w.waiting w.position word w.held).0
      (word_met s.rules names w.is_trailing w.waiting w.position word w.held).1)) ≡ []
      → IsFine s (walked_from s.rules names o w word)
  keeps-turn names w word (Some p) f n e = (f.0, n)
  keeps-turn names w word None f n e =
      let met = word_met s.rules names w.is_trailing w.waiting w.position word w.held in
      let words = word_fault s names w.is_trailing w.waiting word w.held in
      let steps = step_fault s w.position met.0 met.1 in
      keeps-step word w met.0 met.1 (keeps-word names w.is_trailing w.waiting w.position word w.held f.0 (first_free words steps e)) f.1
      (then_free words steps e)

  pub keeps-walk : (names : Names) (w : Walk) (words : List Text) → IsFine s w → walk_fault s names w words ≡ []
      → IsFine s (fold (walked s.rules names) w words)
  unfolding walk_fault walked
  keeps-walk names w [] f e = f
  keeps-walk names w (word ∷ words) f e =
      let turns = turn_fault s names w word in
      let later = walk_fault s names (walked s.rules names w word) words in
      keeps-walk names (walked s.rules names w word) words (keeps-turn names w word w.stopped f f.1 (first_free turns later e)) (then_free turns later e)

-- ---- defaults

keeps-default : (rows : List Row) (a : Rule) → Filled rows → Filled (with_default rows a)
keeps-default rows a f = elim (cases_Bool (has_row a.id rows)) [ inl t ↦ rw t f | inr t ↦ rw t (go a.defaults) ]
  where
    go : (ds : List Text) → Filled (default_rows a.id (reading_by a) ds rows)
    go [] = f
    go (v ∷ vs) = filled-with_values a.id (reading_by a) DefaultValue (v ∷ vs) rows (omega arith) f

pub keeps-defaults : (rows : List Row) (all : List Rule) → Filled rows → Filled (fold with_default rows all)
keeps-defaults rows [] f = f
keeps-defaults rows (a ∷ all) f = keeps-defaults (with_default rows a) all (keeps-default rows a f)
