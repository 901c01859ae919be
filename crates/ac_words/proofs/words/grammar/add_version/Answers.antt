use Rattle.std.proofs.Common.{◌∙◌, ap₂, refl}
use Rattle.clap.specs.Words.{with_rule}
use Rattle.ac_words.proofs.words.grammar.add_version.Goals as goal

pub returns-clause-app : goal.returns-clause-app
returns-clause-app c = c.in_ok-command.ensures.shape c.option.ensures.local ∙ ap₂ with_rule refl c.option.ensures.rule
