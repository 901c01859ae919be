use Rattle.std.proofs.Common.{map, sym, arith, refl}
use Rattle.std.specs.List.{flat_map}
use Rattle.ac_base.specs.Names.{trait_bytes}
use Rattle.ac_cloud.specs.Cloud.CloudWorld.{providers_of}
use Rattle.ac_report.specs.Findings.Explanation.Nobody.{missed_by}
use Rattle.ac_report.proofs.FoundTexts.Begun.{begun_start, begun_stops, pushed_behind, pushed_told}
use Rattle.ac_report.proofs.FoundTexts.MarksWritten.{both_rise, both_told}
use Rattle.ac_report.proofs.findings.explanation.nobody.+push_traits.Goals as goal

pub push_few_traits-requires-2-clause-rising : goal.push_few_traits-requires-2-clause-rising
push_few_traits-requires-2-clause-rising g t c =
    (both_rise trait_bytes c.split_at.result.0.now c.split_at.result.1.now c.split_at.ensures.by_index.0 c.requires).0

pub returns-in_err-push_few_traits : goal.returns-in_err-push_few_traits
returns-in_err-push_few_traits g t c =
    let missed = missed_by c.args.roots_alone (providers_of c.args.cloud.now) in
    let front = c.split_at.result.0.now in
    let rest = c.split_at.result.1.now in
    let told = both_told trait_bytes front rest c.split_at.ensures.by_index.0 missed in
    begun_stops (flat_map missed (map trait_bytes front)) (flat_map missed (map trait_bytes rest)) (begun_start c.args.out.now told) _
    c.in_err-push_few_traits.ensures c.from_residual.ensures.1

pub push_traits-requires : goal.push_traits-requires
push_traits-requires g t c = λ κs outlives.
    let rise = both_rise trait_bytes c.split_at.result.0.now c.split_at.result.1.now c.split_at.ensures.by_index.0 c.requires in
    (omega (arith, c.split_at.ensures.back_len, c.decreases), (outlives, rise.1))

pub returns : goal.returns
returns g t c =
    let missed = missed_by c.args.roots_alone (providers_of c.args.cloud.now) in
    let told = both_told trait_bytes c.split_at.result.0.now c.split_at.result.1.now c.split_at.ensures.by_index.0 missed in
    pushed_told (sym told) (pushed_behind refl refl c.in_ok-push_few_traits.ensures c.push_traits.ensures)
