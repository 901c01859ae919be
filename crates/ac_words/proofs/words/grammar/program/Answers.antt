use Rattle.std.proofs.Common.{◌≡◌, ◌∙◌, ap, ap₂, codes}
use Rattle.clap.specs.Words.{App, app_of, new_app, with_subcommand}
use Rattle.ac_words.specs.Words.{as_program}
use Rattle.ac_words.proofs.words.grammar.program.Goals as goal

pub returns : goal.returns
returns c =
    let top : App → _ = λ a. a.top in
    let plain : app_of c.subcommand_required-command.result ≡ as_program (new_app (codes "ac_cli")) =
    rw (c.subcommand_required-command.ensures, c.after_help.ensures, c.about.ensures, c.version.ensures)
    (ap as_program c.new.ensures.app) in
    c.in_ok-command-14.ensures.shape c.in_ok-session.ensures.local ∙ ap₂ with_subcommand (
    c.in_ok-command-13.ensures.shape c.in_ok-query.ensures.local ∙ ap₂ with_subcommand (
    c.in_ok-command-12.ensures.shape c.in_ok-audit.ensures.local ∙ ap₂ with_subcommand (
    c.in_ok-command-11.ensures.shape c.in_ok-compare.ensures.local ∙ ap₂ with_subcommand (
    c.in_ok-command-10.ensures.shape c.in_ok-capacity.ensures.local ∙ ap₂ with_subcommand (
    c.in_ok-command-9.ensures.shape c.in_ok-why.ensures.local ∙ ap₂ with_subcommand (
    c.in_ok-command-8.ensures.shape c.in_ok-hosts.ensures.local ∙ ap₂ with_subcommand (
    c.in_ok-command-7.ensures.shape c.in_ok-explain.ensures.local ∙ ap₂ with_subcommand (
    c.in_ok-command-6.ensures.shape c.in_ok-verify.ensures.local ∙ ap₂ with_subcommand (
    c.in_ok-command-5.ensures.shape c.in_ok-fill.ensures.local ∙ ap₂ with_subcommand (
    c.in_ok-command-4.ensures.shape c.in_ok-list.ensures.local ∙ ap₂ with_subcommand (
    c.in_ok-command-3.ensures.shape c.in_ok-tokens.ensures.local ∙ ap₂ with_subcommand (
    c.in_ok-command-2.ensures.shape c.in_ok-candidates.ensures.local ∙ ap₂ with_subcommand (
    c.in_ok-command.ensures.shape c.in_ok-check.ensures.local ∙ ap₂ with_subcommand plain (ap top c.in_ok-check.ensures.app))
    (ap top c.in_ok-candidates.ensures.app)) (ap top c.in_ok-tokens.ensures.app)) (ap top c.in_ok-list.ensures.app)) (ap top c.in_ok-fill.ensures.app)) (ap top c.in_ok-verify.ensures.app)) (ap top c.in_ok-explain.ensures.app)) (ap top c.in_ok-hosts.ensures.app)) (ap top c.in_ok-why.ensures.app))
    (ap top c.in_ok-capacity.ensures.app)) (ap top c.in_ok-compare.ensures.app)) (ap top c.in_ok-audit.ensures.app)) (ap top c.in_ok-query.ensures.app)) (ap top c.in_ok-session.ensures.app)
