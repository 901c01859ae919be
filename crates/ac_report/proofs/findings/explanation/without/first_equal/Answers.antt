use Rattle.std.proofs.Common.{◌∙◌, [], arith, sym}
use Rattle.std.proofs.lemmas.Slice.Eq.{bytes_eq-Decides}
use Rattle.ac_base.specs.Names.{suffix_bytes}
use Rattle.ac_query.specs.Shown.{suffixes_shown}
use Rattle.ac_report.proofs.EqualLists.{same_shown}
use Rattle.ac_report.proofs.FoundTexts.SlotsWritten.{mapped_at}
use Rattle.ac_report.proofs.findings.explanation.without.first_equal.Goals as goal

pub returns-then-eq-clause-same : goal.returns-then-eq-clause-same
returns-then-eq-clause-same c =
    let lists = c.args.lists.now in
    let one = c.index-lists-j.result in
    let other = c.index-lists-k.result in
    let equal = sym c.eq.ensures ∙ c.if-eq.true in
    let same = same_shown _ suffix_bytes (λ x y h. (bytes_eq-Decides (suffix_bytes x) (suffix_bytes y)).0 h) one.keys other.keys equal in
    sym (mapped_at suffixes_shown lists c.loop-j.j one [] c.index-lists-j.is (omega (arith, c.loop-j-test.true, c.requires)))
    ∙ (same ∙ mapped_at suffixes_shown lists c.args.k other [] c.index-lists-k.is c.requires)
