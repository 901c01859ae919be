use Rattle.std.proofs.Common.{◌∙◌, ap, is_some, option_map, sym}
use Rattle.ac_cloud.specs.Cloud.CloudWorld.{providers_of}
use Rattle.ac_query.specs.Asked.{Asked}
use Rattle.ac_query.specs.Tokens.{ids_of}
use Rattle.ac_run.specs.Answer.{page_body, page_lines, page_rows}
use Rattle.ac_run.specs.Tasks.{task_of}
use Rattle.ac_run.proofs.wanted.wanted_of.Goals as goal

pub returns-in_ok-read_page-in-Candidates-clause-wanted : goal.returns-in_ok-read_page-in-Candidates-clause-wanted
returns-in_ok-read_page-in-Candidates-clause-wanted c =
    let page = c.in_ok-read_page-in-Candidates in
    rw c.in-Candidates.is
    (ap (λ (asked : Asked). page_body (providers_of c.args.cloud.now) c.in-Candidates.traits page.field-0.root asked (option_map ids_of page.field-0.token)) page.ensures.query ∙ sym (page.ensures.said (page_body (providers_of c.args.cloud.now) c.in-Candidates.traits)))

pub returns-in_ok-read_page-in-Tokens-clause-wanted : goal.returns-in_ok-read_page-in-Tokens-clause-wanted
returns-in_ok-read_page-in-Tokens-clause-wanted c =
    let named = is_some (task_of c.args.job.now).names in
    let page = c.in_ok-read_page-in-Tokens in
    rw c.in-Tokens.is
    (ap (λ (asked : Asked). page_lines (providers_of c.args.cloud.now) named page.field-0.root asked (option_map ids_of page.field-0.token)) page.ensures.query ∙ sym (page.ensures.said (page_lines (providers_of c.args.cloud.now) named)))

pub returns-in_ok-read_page-in-List-clause-wanted : goal.returns-in_ok-read_page-in-List-clause-wanted
returns-in_ok-read_page-in-List-clause-wanted c =
    let page = c.in_ok-read_page-in-List in
    rw c.in-List.is
    (ap (λ (asked : Asked). page_rows (providers_of c.args.cloud.now) c.in-List.traits page.field-0.root asked (option_map ids_of page.field-0.token)) page.ensures.query ∙ sym (page.ensures.said (page_rows (providers_of c.args.cloud.now) c.in-List.traits)))
