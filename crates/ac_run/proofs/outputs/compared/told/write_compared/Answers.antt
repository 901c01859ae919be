use Rattle.std.proofs.Common.{arith, ◌≡◌, ◌∙◌, ◌∷◌, [], ℕ, List, ap, fold, map, min, refl, string_bytes}
use Rattle.std.specs.Borrow.{Bor}
use Rattle.std.specs.BTreeSet.{insert_key}
use Rattle.std.specs.List.{filter}
use Rattle.ac_base.specs.Sorted.{rising}
use Rattle.ac_base.specs.Texts.{text_cmp}
use Rattle.ac_cloud.specs.Cloud.CloudWorld.{providers_of}
use Rattle.ac_query.specs.Shown.Queries.{asked_of}
use Rattle.ac_report.specs.Texts.{request_text}
use Rattle.ac_run.specs.Compared.Answers.{texts_in}
use Rattle.ac_run.specs.Compared.{count_known, is_among, lines_here, lines_there, most_told, same_line}
use Rattle.ac_run.proofs.Comparing.Known.{status_is, told_are, told_small}
use Rattle.ac_run.proofs.Comparing.Telling.{all_parts, fails_first, fails_second, fails_third}
use Rattle.ac_run.proofs.outputs.compared.told.write_compared.Goals as goal

pub returns-in_err-tally-clause-writes : goal.returns-in_err-tally-clause-writes
returns-in_err-tally-clause-writes g c =
    let all = providers_of c.args.cloud.now in
    let asked = asked_of c.args.query.now in
    let lists = g.S.Source.left c.args.source.now in
    let known = map (λ (t : Bor (List ℕ)). t.now) c.in_ok-known.known.keys in
    let whole = c.is_whole-whole.result in
    let met = rising text_cmp (filter (is_among known) (map (request_text all asked) lists)) in
    let count = min (count_known (is_among known) all asked lists) most_told in
    let told = told_are all asked lists (texts_in c.args.answer.now) known met whole c.in_ok-known.ensures refl c.is_whole-whole.ensures count refl in
    fails_first (lines_here whole (is_among known) all asked lists) (lines_there (is_among met) known) (same_line count ∷ []) told c.in_err-tally.ensures.writes
    c.from_residual-in_err-tally.ensures.1

pub returns-in_err-status-clause-writes : goal.returns-in_err-status-clause-writes
returns-in_err-status-clause-writes g c =
    let all = providers_of c.args.cloud.now in
    let asked = asked_of c.args.query.now in
    let lists = g.S.Source.left c.args.source.now in
    let known = map (λ (t : Bor (List ℕ)). t.now) c.in_ok-known.known.keys in
    let whole = c.is_whole-whole.result in
    let met = map string_bytes c.write_here.new.met.keys in
    let are_met : met ≡ rising text_cmp (filter (is_among known) (map (request_text all asked) lists)) = c.in_ok-tally.ensures.met ∙ ap (λ ks. fold (insert_key text_cmp) (map string_bytes ks) (filter (is_among known) (map (request_text all asked) lists))) c.new-met.ensures.empty in
    let told = told_are all asked lists (texts_in c.args.answer.now) known met whole c.in_ok-known.ensures are_met c.is_whole-whole.ensures c.in_ok-tally.tally.same c.in_ok-tally.ensures.same in
    fails_second (lines_here whole (is_among known) all asked lists) (lines_there (is_among met) known) (same_line c.in_ok-tally.tally.same ∷ []) told c.in_ok-tally.ensures.writes c.in_err-status.ensures.writes
    c.from_residual-in_err-status.ensures.1

pub returns-in_err-write_same-clause-writes : goal.returns-in_err-write_same-clause-writes
returns-in_err-write_same-clause-writes g c =
    let all = providers_of c.args.cloud.now in
    let asked = asked_of c.args.query.now in
    let lists = g.S.Source.left c.args.source.now in
    let known = map (λ (t : Bor (List ℕ)). t.now) c.in_ok-known.known.keys in
    let whole = c.is_whole-whole.result in
    let met = map string_bytes c.write_here.new.met.keys in
    let are_met : met ≡ rising text_cmp (filter (is_among known) (map (request_text all asked) lists)) = c.in_ok-tally.ensures.met ∙ ap (λ ks. fold (insert_key text_cmp) (map string_bytes ks) (filter (is_among known) (map (request_text all asked) lists))) c.new-met.ensures.empty in
    let told = told_are all asked lists (texts_in c.args.answer.now) known met whole c.in_ok-known.ensures are_met c.is_whole-whole.ensures c.in_ok-tally.tally.same c.in_ok-tally.ensures.same in
    fails_third (lines_here whole (is_among known) all asked lists) (lines_there (is_among met) known) (same_line c.in_ok-tally.tally.same ∷ []) told c.in_ok-tally.ensures.writes c.in_ok-status.ensures.writes
    c.in_err-write_same.ensures c.from_residual-in_err-write_same.ensures.1

pub returns-clause-writes : goal.returns-clause-writes
returns-clause-writes g c =
    let all = providers_of c.args.cloud.now in
    let asked = asked_of c.args.query.now in
    let lists = g.S.Source.left c.args.source.now in
    let known = map (λ (t : Bor (List ℕ)). t.now) c.in_ok-known.known.keys in
    let whole = c.is_whole-whole.result in
    let met = map string_bytes c.write_here.new.met.keys in
    let are_met : met ≡ rising text_cmp (filter (is_among known) (map (request_text all asked) lists)) = c.in_ok-tally.ensures.met ∙ ap (λ ks. fold (insert_key text_cmp) (map string_bytes ks) (filter (is_among known) (map (request_text all asked) lists))) c.new-met.ensures.empty in
    let told = told_are all asked lists (texts_in c.args.answer.now) known met whole c.in_ok-known.ensures are_met c.is_whole-whole.ensures c.in_ok-tally.tally.same c.in_ok-tally.ensures.same in
    all_parts (lines_here whole (is_among known) all asked lists) (lines_there (is_among met) known) (same_line c.in_ok-tally.tally.same ∷ []) told c.in_ok-tally.ensures.writes c.in_ok-status.ensures.writes _
    c.in_ok-write_same.ensures

pub returns-clause-status : goal.returns-clause-status
returns-clause-status g c =
    let all = providers_of c.args.cloud.now in
    let asked = asked_of c.args.query.now in
    let lists = g.S.Source.left c.args.source.now in
    let known = map (λ (t : Bor (List ℕ)). t.now) c.in_ok-known.known.keys in
    let whole = c.is_whole-whole.result in
    let met = map string_bytes c.write_here.new.met.keys in
    let are_met : met ≡ rising text_cmp (filter (is_among known) (map (request_text all asked) lists)) = c.in_ok-tally.ensures.met ∙ ap (λ ks. fold (insert_key text_cmp) (map string_bytes ks) (filter (is_among known) (map (request_text all asked) lists))) c.new-met.ensures.empty in
    c.larger.ensures
    ∙ status_is all asked lists (texts_in c.args.answer.now) known met whole c.in_ok-known.ensures are_met c.is_whole-whole.ensures c.in_ok-tally.tally.status
    c.in_ok-status.status c.in_ok-tally.ensures.status c.in_ok-status.ensures.status

pub returns-clause-few : goal.returns-clause-few
returns-clause-few g c =
    let is = returns-clause-status g c in
    omega (arith, is, told_small (providers_of c.args.cloud.now) (asked_of c.args.query.now) (g.S.Source.left c.args.source.now) (texts_in c.args.answer.now))
