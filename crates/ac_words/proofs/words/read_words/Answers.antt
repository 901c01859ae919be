use Rattle.std.proofs.Common.{inl, ◌≡◌, ◌∙◌, ap, ap₂, sym, refl, true, map, string_bytes, subst, List, [], ◌∷◌, IfErr}
use Rattle.std.proofs.lemmas.Bool.{and_parts}
use Rattle.std.proofs.lemmas.Result.{IfErr-weaker, on_ok_weaker}
use Rattle.clap.specs.Kinds.{Kinds, or_else}
use Rattle.clap.specs.Walk.{is_empty}
use Rattle.clap.specs.Words.{App, Text, fault_of, is_simple, is_simple_and_free, subcommand_of, takes}
use Rattle.clap.proofs.OnLiterals.{clap_on_literals}
use Rattle.clap.proofs.SimpleLemmas.{is_nil}
use Rattle.ac_words.specs.Words.{Tells, command_found, is_complete, faults, is_taken, named, program, own_faults}
use Rattle.ac_words.specs.declared.words.WordFault.{WordFault}
use Rattle.ac_words.specs.declared.words.WordFault.TheVariants.{Refused, Help, NoMemory}
use Rattle.ac_words.specs.declared.words.WordFault.TheVariants as fault
use Rattle.ac_words.proofs.EnteredCommand.{named-complete}
use Rattle.ac_words.proofs.words.read_words.Goals as goal

program_simple : is_simple program ≡ true
unfolding clap_on_literals
program_simple = refl

program_free : is_simple_and_free program ≡ true
unfolding clap_on_literals
program_free = refl

-- what is found, and refused, of the program is so of a command that has its description
found-named : (a : App) (words : List Text) → a ≡ program → command_found (subcommand_of a words) ≡ named words
unfolding named
found-named a words e = ap command_found (ap₂ subcommand_of e refl)

fault-program : (a : App) (words : List Text) → a ≡ program → fault_of a words ≡ fault_of program words
fault-program a words e = ap₂ fault_of e refl

-- where `clap` has no fault, the others are left
own-left : (words : List Text) → fault_of program words ≡ [] → faults words ≡ own_faults (named words)
unfolding faults
own-left words none = ap₂ or_else none refl

-- what is told of no fault is want of memory
told_nothing : (f : WordFault) → Tells [] f → f ≡ NoMemory
told_nothing (Help text) t = absurd t
told_nothing (fault.Version text) t = absurd t
told_nothing (Refused text) t = absurd t.3
told_nothing NoMemory t = refl

-- what is told of the faults of `clap` is told of them with others behind them
tells-with : (kinds more : Kinds) (f : WordFault) → Tells kinds f → Tells (or_else kinds more) f
tells-with (kind ∷ kinds) more f t = t
tells-with [] more (Help text) t = absurd t
tells-with [] more (fault.Version text) t = absurd t
tells-with [] more (Refused text) t = absurd t.3
tells-with [] more NoMemory t = tt

-- words that are taken have no other fault, and `clap` takes them
taken-own : (words : List Text) → is_taken words ≡ true → own_faults (named words) ≡ []
unfolding is_taken
taken-own words taken = is_nil (own_faults (named words)) (and_parts (takes program words) (is_empty (own_faults (named words))) taken).1

taken-takes : (words : List Text) → is_taken words ≡ true → takes program words ≡ true
unfolding is_taken
taken-takes words taken = (and_parts (takes program words) (is_empty (own_faults (named words))) taken).0

-- ---- where `clap` finds a command

pub words_of-requires : goal.words_of-requires
words_of-requires c =
    let same = c.in_ok-grammar.ensures in
    let words = map string_bytes c.args.words.now in
    let none = sym (fault-program _ words same) ∙ c.in-Ok.ensures.kinds (ap is_simple_and_free same ∙ program_free) in
    let found = ap command_found (c.in-Ok.ensures.matches (ap is_simple same ∙ program_simple)).1 ∙ found-named _ words same in
    ap is_complete found ∙ named-complete words none

pub returns-in-Ok-clause-entries : goal.returns-in-Ok-clause-entries
returns-in-Ok-clause-entries c =
    let same = c.in_ok-grammar.ensures in
    let words = map string_bytes c.args.words.now in
    let found = ap command_found (c.in-Ok.ensures.matches (ap is_simple same ∙ program_simple)).1 ∙ found-named _ words same in
    rw (← found) c.words_of.ensures.entries

pub returns-in-Ok-clause-ok : goal.returns-in-Ok-clause-ok
returns-in-Ok-clause-ok c =
    let same = c.in_ok-grammar.ensures in
    let words = map string_bytes c.args.words.now in
    let none = sym (fault-program _ words same) ∙ c.in-Ok.ensures.kinds (ap is_simple_and_free same ∙ program_free) in
    let found = ap command_found (c.in-Ok.ensures.matches (ap is_simple same ∙ program_simple)).1 ∙ found-named _ words same in
    on_ok_weaker c.words_of.result (λ none_other. own-left words none ∙ sym (ap own_faults found) ∙ none_other) c.words_of.ensures.ok

pub returns-in-Ok-clause-fault : goal.returns-in-Ok-clause-fault
returns-in-Ok-clause-fault c =
    let same = c.in_ok-grammar.ensures in
    let words = map string_bytes c.args.words.now in
    let none = sym (fault-program _ words same) ∙ c.in-Ok.ensures.kinds (ap is_simple_and_free same ∙ program_free) in
    let found = ap command_found (c.in-Ok.ensures.matches (ap is_simple same ∙ program_simple)).1 ∙ found-named _ words same in
    subst (λ kinds. IfErr c.words_of.result (Tells kinds)) (ap own_faults found ∙ sym (own-left words none)) c.words_of.ensures.fault

pub returns-in-Ok-clause-taken : goal.returns-in-Ok-clause-taken
returns-in-Ok-clause-taken c = λ taken.
    let same = c.in_ok-grammar.ensures in
    let words = map string_bytes c.args.words.now in
    let found = ap command_found (c.in-Ok.ensures.matches (ap is_simple same ∙ program_simple)).1 ∙ found-named _ words same in
    let told = subst (λ kinds. IfErr c.words_of.result (Tells kinds)) (ap own_faults found ∙ taken-own words taken) c.words_of.ensures.fault in
    IfErr-weaker c.words_of.result (Tells []) _ told_nothing told

-- ---- where it finds a fault

pub returns-in_ok-fault_of-in-Err-clause-fault : goal.returns-in_ok-fault_of-in-Err-clause-fault
unfolding faults
returns-in_ok-fault_of-in-Err-clause-fault c =
    let same = c.in_ok-grammar.ensures in
    let words = map string_bytes c.args.words.now in
    let kinds = c.in-Err.ensures.kinds (ap is_simple_and_free same ∙ program_free) in
    tells-with (fault_of program words) (own_faults (named words)) _ (rw (← fault-program _ words same) (c.in_ok-fault_of-in-Err.ensures _ kinds))

pub returns-in_ok-fault_of-in-Err-clause-taken : goal.returns-in_ok-fault_of-in-Err-clause-taken
returns-in_ok-fault_of-in-Err-clause-taken c = λ taken.
    let takes_them = taken-takes (map string_bytes c.args.words.now) taken in
    told_nothing _ (c.in_ok-fault_of-in-Err.ensures [] (inl (c.in-Err.ensures.passes (ap₂ takes c.in_ok-grammar.ensures refl ∙ takes_them))))
