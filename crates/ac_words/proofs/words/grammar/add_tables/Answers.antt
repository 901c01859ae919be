use Rattle.std.proofs.Common.{◌∙◌, ap₂, refl}
use Rattle.clap.specs.Words.{with_rule}
use Rattle.ac_words.proofs.words.grammar.add_tables.Goals as goal

pub returns-clause-app : goal.returns-clause-app
returns-clause-app c =
    c.in_ok-command-6.ensures.shape c.table-5.ensures.local ∙ ap₂ with_rule (
    c.in_ok-command-5.ensures.shape c.table-4.ensures.local ∙ ap₂ with_rule (
    c.in_ok-command-4.ensures.shape c.table-3.ensures.local ∙ ap₂ with_rule (
    c.in_ok-command-3.ensures.shape c.table-2.ensures.local ∙ ap₂ with_rule (
    c.in_ok-command-2.ensures.shape c.table.ensures.local ∙ ap₂ with_rule (
    c.in_ok-command.ensures.shape c.option.ensures.local ∙ ap₂ with_rule refl c.option.ensures.rule)
    c.table.ensures.rule) c.table-2.ensures.rule) c.table-3.ensures.rule) c.table-4.ensures.rule) c.table-5.ensures.rule
