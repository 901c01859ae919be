use Rattle.std.proofs.Common.{◌∙◌, ◌<◌, ℕ, Bool, List, [], ap, arith, codes, get_or, length, position, sym}
use Rattle.std.proofs.lemmas.List.{length-map}
use Rattle.ac_base.specs.Writing.Pieces.{listed}
use Rattle.ac_query.specs.Shown.{suffixes_shown}
use Rattle.ac_query.specs.Shown.Queries.{asked_of}
use Rattle.ac_report.specs.Findings.Explanation.{kept_by}
use Rattle.ac_report.specs.Findings.Explanation.Shown.{found_shown}
use Rattle.ac_report.proofs.FoundTexts.Begun.{pushed_told}
use Rattle.ac_report.proofs.FoundTexts.SlotsWritten.{mapped_at}
use Rattle.ac_report.proofs.findings.explanation.because.push_kept.Goals as goal

pub returns-in-None : goal.returns-in-None
returns-in-None g c =
    let first = sym c.in-None.is ∙ (c.first_kept.ensures.first ∙ ap (position (λ (b : Bool). b)) c.deref.ensures.value) in
    pushed_told (c.other_kept.ensures ∙ ap (kept_by (asked_of c.args.query.now) (found_shown c.args.without.now)) first) c.push_all.ensures.pushes

pub returns-in-Some : goal.returns-in-Some
returns-in-Some g c =
    let asked = asked_of c.args.query.now in
    let found = found_shown c.args.without.now in
    let k = c.in-Some.k in
    let first = sym c.in-Some.is ∙ (c.first_kept.ensures.first ∙ ap (position (λ (b : Bool). b)) c.deref.ensures.value) in
    let inside = rw c.in-Some.is at c.first_kept.ensures.inside in
    let many = ap length c.deref.ensures.value in
    let lists = ap length c.subtrees.ensures.lists in
    let low : k < length c.subtrees.result.now = omega (arith, inside, many, c.requires, lists, length-map c.subtrees.result.now suffixes_shown) in
    let list = mapped_at suffixes_shown c.subtrees.result.now k c.index-subtrees-k.result [] c.index-subtrees-k.is low in
    let here = list ∙ ap (λ (ls : List (List (List ℕ))). get_or ls k []) c.subtrees.ensures.lists in
    pushed_told (ap (listed (codes "because no providers for the slots go together with same_subtree=")) here ∙ ap (kept_by asked found) first) c.push_suffixes.ensures
