use Rattle.std.proofs.Common.{◌∙◌, List, ℕ, length, map, ap, arith}
use Rattle.std.proofs.lemmas.List.{length-map}
use Rattle.ac_base.specs.Names.{trait_bytes}
use Rattle.ac_cloud.specs.Cloud.CloudWorld.{providers_of}
use Rattle.ac_find.specs.Missing.{is_had}
use Rattle.ac_report.specs.Findings.Explanation.Nobody.{missed_front, unmarked_lines}
use Rattle.ac_report.proofs.FoundTexts.Begun.{pushed_told}
use Rattle.ac_report.proofs.FoundTexts.MarksWritten.{none_marked, unmarked_told}
use Rattle.ac_report.proofs.findings.explanation.nobody.push_few_traits.Goals as goal

pub mark_had-requires-clause-none : goal.mark_had-requires-clause-none
mark_had-requires-clause-none g c = λ k. none_marked (length c.args.names.now) 4096 k c.requires.few

pub returns : goal.returns
returns g c =
    let all = providers_of c.args.cloud.now in
    let alone = c.args.roots_alone in
    let names = map trait_bytes c.args.names.now in
    let marks = c.mark_had.new.marks in
    let many = length-map c.args.names.now trait_bytes in
    let told = unmarked_told (missed_front alone) (is_had alone all) names marks (λ k low. c.mark_had.ensures k (omega (arith, low, many))) in
    pushed_told (ap (λ (front : List ℕ). unmarked_lines front names marks) c.missed_front.ensures ∙ told) c.push_unmarked.ensures
