use Rattle.std.proofs.Common.{◌≡◌, ◌∙◌, ℕ, ◌++◌, List, [], ◌∷◌, IfOk, None, Option, length, subst, ap, ap₂, arith}
use Rattle.std.specs.List.{flat_map}
use Rattle.csv.specs.Writing.{default_writer, row_text}
use Rattle.ac_cloud.specs.Cloud.CloudWorld.{providers_of}
use Rattle.ac_query.specs.Asked.{slots_of}
use Rattle.ac_query.specs.Shown.Queries.{asked_of}
use Rattle.ac_find.specs.declared.lacks.Lack.{Lack}
use Rattle.ac_report.specs.Findings.HostSums.{count_lacks, counted, fits_row, lacks_of_roots, possible_lacks, rows_falling, sum_columns, sum_rows, sums_text}
use Rattle.ac_report.specs.Findings.HostRows.{roots_told}
use Rattle.ac_report.proofs.findings.host_sums.sums_text.Goals as goal

pub returns : goal.returns
unfolding sums_text
returns c =
    let asked = asked_of c.args.query.now in
    let all = providers_of c.args.cloud.now in
    let found = lacks_of_roots all asked (roots_told all asked c.args.only_fitting c.args.within) in
    let kinds = possible_lacks (length (slots_of asked)) in
    let roots = c.deref.ensures.value ∙ c.in_ok-roots.ensures.roots in
    let found_is : c.in_ok-found.found.items ≡ found = c.in_ok-found.ensures.found ∙ ap (lacks_of_roots all asked) roots in
    let fits : c.count_lacks.result ≡ count_lacks found None = c.count_lacks.ensures ∙ ap (λ (fs : List (Option Lack)). count_lacks fs None) (c.deref-2.ensures.value ∙ found_is) in
    let sums : c.deref-3.result.now ≡ counted found kinds = c.deref-3.ensures.value ∙ (c.in_ok-found.ensures.sums ∙ ap (λ roots. counted (lacks_of_roots all asked roots) kinds) roots) in
    let many = ap length found_is in
    let most : c.len.result ≡ length found = omega (arith, c.len.ensures, c.in_ok-found.found.ok, many) in
    let rows : (sum_columns ∷ fits_row c.count_lacks.result ∷ []) ++ rows_falling asked c.deref-3.result.now c.len.result ≡ sum_rows asked found kinds =
    ap₂ (λ (first rest : List (List (List ℕ))). first ++ rest) (ap (λ n. sum_columns ∷ fits_row n ∷ []) fits) (ap₂ (rows_falling asked) sums most) in
    subst (λ (rows : List (List (List ℕ))). IfOk c.end_rows.result (λ text. text.items ≡ flat_map (row_text default_writer) rows)) rows
    (c.end_rows.ensures _ (c.in_ok-write_falling.ensures _ (c.in_ok-write_fits.ensures _ c.in_ok-rows.ensures)))
