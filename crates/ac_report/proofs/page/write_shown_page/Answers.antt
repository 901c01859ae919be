use Rattle.ac_cloud.specs.Cloud.CloudWorld.{providers_of}
use Rattle.ac_query.specs.Shown.Queries.{asked_of}
use Rattle.ac_rules.specs.Pages.{cut}
use Rattle.ac_report.proofs.Pages.Showing.{is_shown_body, pieces_shown}
use Rattle.ac_report.proofs.Pages.Writing.{refused, wrote_told}
use Rattle.ac_report.proofs.page.write_shown_page.Goals as goal

pub returns-in_err-marks-clause-writes : goal.returns-in_err-marks-clause-writes
returns-in_err-marks-clause-writes g c = refused _ _ _ _ _ c.from_residual.ensures.1

pub returns-clause-writes : goal.returns-clause-writes
returns-clause-writes g c =
    let asked = asked_of c.args.query.now in
    let lists = cut asked.limit (g.S.Source.left c.args.source.now) in
    wrote_told (is_shown_body c.args.cloud.now asked c.args.traits lists) (pieces_shown (providers_of c.args.cloud.now) asked c.args.traits lists)
    c.write_parts.ensures.writes
