use Rattle.std.proofs.Common.{[], ◌∷◌, refl}
use Rattle.ac_cloud.specs.Cloud.CloudWorld.{providers_of}
use Rattle.ac_query.specs.Shown.Queries.{asked_of}
use Rattle.ac_rules.specs.Pages.{cut}
use Rattle.ac_report.specs.ListRows.{header_text}
use Rattle.ac_report.specs.Texts.{shown_providers}
use Rattle.ac_report.proofs.Pages.Listing.{header_is, is_list_text}
use Rattle.ac_report.proofs.Pages.Writing.{stopped, wrote_on, wrote_told}
use Rattle.ac_report.proofs.list_rows.write_list.Goals as goal

pub returns-in_err-push_piece-clause-writes : goal.returns-in_err-push_piece-clause-writes
returns-in_err-push_piece-clause-writes g c =
    let lists = cut (asked_of c.args.query.now).limit (g.S.Source.left c.args.source.now) in
    wrote_told (is_list_text (shown_providers c.args.traits (providers_of c.args.cloud.now)) (asked_of c.args.query.now) lists) refl
    (stopped (λ t. t) (header_text ∷ []) _ (c.in_err-push_piece.ensures (λ t. t) header_text header_is) (λ never. absurd never) c.from_residual.ensures.1)

pub returns-clause-writes : goal.returns-clause-writes
returns-clause-writes g c =
    let lists = cut (asked_of c.args.query.now).limit (g.S.Source.left c.args.source.now) in
    wrote_told (is_list_text (shown_providers c.args.traits (providers_of c.args.cloud.now)) (asked_of c.args.query.now) lists) refl
    (wrote_on (λ t. t) (header_text ∷ []) (c.in_ok-push_piece.ensures (λ t. t) header_text header_is) c.write_blocks.ensures.writes)
