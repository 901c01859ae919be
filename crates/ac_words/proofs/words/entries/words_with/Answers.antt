use Rattle.std.proofs.Common.{◌≡◌, Option, Some}
use Rattle.ac_base.proofs.Small.{handed_on}
use Rattle.clap.specs.Kinds.{or_else}
use Rattle.clap.specs.Words.{Kinds, found_of, rows_of}
use Rattle.ac_query.specs.declared.version.Version.{Version}
use Rattle.ac_words.specs.Words.{Tells, form_kinds, needed_kinds, option_kinds, version_kinds, version_of}
use Rattle.ac_words.specs.declared.words.WordFault.{WordFault}
use Rattle.ac_words.proofs.Faulted.{tells_first}
use Rattle.ac_words.proofs.words.entries.words_with.Goals as goal

-- where the version has none
tells_behind : (found : Option Version) (version : Version) (behind : Kinds) (said : WordFault) → found ≡ Some version → Tells behind said
    → Tells (or_else (version_kinds found) behind) said
tells_behind found version behind said is h = rw is h

pub returns-in_err-tries-clause-fault : goal.returns-in_err-tries-clause-fault
returns-in_err-tries-clause-fault c =
    let rows = rows_of (found_of c.args.entries.now) in
    let later = or_else (form_kinds rows) (needed_kinds c.args.name rows) in
    handed_on c.from_residual-in_err-tries.result _ _ c.from_residual-in_err-tries.ensures.1
    (tells_behind (version_of rows) c.in_ok-version.version (or_else (option_kinds rows) later) c.in_err-tries.field-0.0 c.in_ok-version.ensures.version
    (tells_first (option_kinds rows) later c.in_err-tries.field-0.0 c.in_err-tries.ensures.fault))
