use Rattle.std.proofs.Common.{◌∙◌, refl}
use Rattle.ac_words.proofs.words.entries.tokens.Goals as goal

pub returns : goal.returns
returns c = c.asking.ensures ∙ rw (c.entry-after.ensures, c.entry-at.ensures) refl
