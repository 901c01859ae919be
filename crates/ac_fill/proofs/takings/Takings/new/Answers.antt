use Rattle.std.proofs.Common.{◌∙◌, ◌+◌, ◌*◌, ℕ, List, map, slice_index, ap, arith}
use Rattle.ac_base.specs.Names.{class_bytes}
use Rattle.ac_cloud.specs.Cloud.CloudWorld.{providers_of}
use Rattle.ac_cloud.proofs.Amounts.{amounts_kept, amounts_same}
use Rattle.ac_rules.specs.Room.{class_number}
use Rattle.ac_fill.specs.Shown.{with_taken}
use Rattle.ac_fill.proofs.Taken.{nothing}
use Rattle.ac_fill.proofs.takings.Takings.new.Goals as goal

pub returns-clause-nothing : goal.returns-clause-nothing
unfolding with_taken
returns-clause-nothing c =
    let all = providers_of c.args.cloud.now in
    let texts = map (λ v. class_bytes v.now) c.in_ok-classes.classes.items in
    let items = c.in_ok-amounts.amounts.items in
    let n = c.len-count.result in
    amounts_same (λ ix class had. had.used + slice_index items (class_number texts class * n + ix)) (λ ix class had. had.used) all
    (λ ix class had.
    let zero = ap (λ (l : List ℕ). slice_index l (class_number texts class * n + ix)) (c.in_ok-amounts.ensures.items_if_clones_equal (λ _ e. e)) ∙ nothing c.in-Some.size (class_number texts class * n + ix) in
    omega (arith, zero))
    ∙ amounts_kept all
