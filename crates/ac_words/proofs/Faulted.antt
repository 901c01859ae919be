-- What is told of the first of two faults.
use Rattle.std.proofs.Common.{[], ◌∷◌}
use Rattle.clap.specs.Kinds.{or_else}
use Rattle.clap.specs.Words.{Kinds}
use Rattle.ac_words.specs.Words.{Tells}
use Rattle.ac_words.specs.declared.words.WordFault.{WordFault}
use Rattle.ac_words.specs.declared.words.WordFault.TheVariants as fault

-- what tells the first tells both
pub tells_first : (first behind : Kinds) (said : WordFault) → Tells first said → Tells (or_else first behind) said
tells_first [] behind (fault.Help text) h = absurd h
tells_first [] behind (fault.Version text) h = absurd h
tells_first [] behind (fault.Refused text) h = absurd h.3
tells_first [] behind fault.NoMemory h = tt
tells_first (kind ∷ kinds) behind said h = h
