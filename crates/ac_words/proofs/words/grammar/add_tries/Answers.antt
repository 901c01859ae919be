use Rattle.std.proofs.Common.{◌∙◌, ap₂}
use Rattle.clap.specs.Words.{with_rule}
use Rattle.ac_words.proofs.words.grammar.add_tries.Goals as goal

pub returns-clause-app : goal.returns-clause-app
returns-clause-app c = c.in_ok-command-2.ensures.shape c.option.ensures.local ∙ ap₂ with_rule c.in_ok-command.ensures.app c.option.ensures.rule
