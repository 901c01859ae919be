use Rattle.std.proofs.Common.{List, ℕ, false, ap, refl}
use Rattle.std.specs.List.{flat_map}
use Rattle.ac_cloud.specs.Cloud.CloudWorld.{providers_of}
use Rattle.ac_query.specs.Shown.Groups.{group_asked}
use Rattle.ac_report.specs.Findings.Explanation.Nobody.{class_missed, list_missed, missed_by}
use Rattle.ac_report.proofs.FoundTexts.Begun.{begun_start, begun_stops, pushed_behind, pushed_told}
use Rattle.ac_report.proofs.findings.explanation.nobody.push_things.Goals as goal

pub returns-in_err-push_traits : goal.returns-in_err-push_traits
returns-in_err-push_traits g c =
    let all = providers_of c.args.cloud.now in
    let asked = group_asked c.args.group.now in
    let traits = flat_map (missed_by false all) in
    let lists = flat_map (λ (names : List (List ℕ)). list_missed all names) in
    pushed_behind (ap (flat_map (λ (need : List ℕ × ℕ). class_missed all need.0)) c.needs.ensures.needs) refl c.in_ok-push_classes.ensures
    (begun_stops (traits asked.required) (lists asked.any_of) (begun_start c.push_classes.new.out refl) _
    (pushed_told (ap traits c.required.ensures.names) c.in_err-push_traits.ensures)
    c.from_residual-in_err-push_traits.ensures.1)

pub returns : goal.returns
returns g c =
    let all = providers_of c.args.cloud.now in
    pushed_behind (ap (flat_map (λ (need : List ℕ × ℕ). class_missed all need.0)) c.needs.ensures.needs) refl c.in_ok-push_classes.ensures
    (pushed_behind (ap (flat_map (missed_by false all)) c.required.ensures.names)
    (ap (flat_map (λ (names : List (List ℕ)). list_missed all names)) c.any_of.ensures) c.in_ok-push_traits.ensures c.push_lists.ensures)
