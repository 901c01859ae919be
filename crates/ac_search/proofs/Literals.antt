-- Small worlds, computed: what the definitions say of them.
use Rattle.std.proofs.Common.{◌≡◌, ℕ, Bool, true, false, List, [], ◌∷◌, Option, None, Some, codes, refl}
use Rattle.ac_query.specs.Asked.{Asked, Group}
use Rattle.ac_query.specs.Pairs.Values.{AggregateRule}
use Rattle.ac_cloud.specs.World.{Provider, UsedInventory}
use Rattle.ac_rules.specs.Own.{units_fit, traits_fit, meets_rule, aggregates_fit, tree_fits}
use Rattle.ac_rules.specs.Together.{is_brought, collective, holds_sums, sums, is_set_apart, are_apart, isolate, is_top, subtree, takes_root, hosts_all, anchor}
use Rattle.ac_rules.specs.Judge.{tests, judge, is_candidate}
use Rattle.ac_rules.specs.Pages.{candidates, rest}
use Rattle.ac_rules.specs.declared.verdict.Rule.TheVariants.{Sums, Aggregates, Anchor}
use Rattle.ac_rules.specs.declared.verdict.Verdict.TheVariants.{Broken}

vcpu : List ℕ
vcpu = codes "VCPU"

disk : List ℕ
disk = codes "DISK_GB"

-- so much of a class, all of it for one request
own_entry : List ℕ → ℕ → List (List ℕ × UsedInventory)
own_entry class total = (class, record { inventory = record { total = total; reserved = 0; min_unit = 1; max_unit = total; step_size = 1; ratio = 1000000 }; used = 0 }) ∷ []

provider : ℕ → Option ℕ → List (List ℕ × UsedInventory) → List (List ℕ) → List ℕ → Provider
provider id parent entries traits aggregates = record { id = id; name = []; parent = parent; entries = entries; traits = traits; aggregates = aggregates }

-- a group without required traits
group : List (List ℕ × ℕ) → List AggregateRule → Group
group needs member_of = record { needs = needs; required = []; forbidden = []; any_of = []; member_of = member_of; in_tree = None }

ask : List (Option (List ℕ) × Group) → Asked
ask groups = record { groups = groups; policy = None; subtrees = []; root_required = []; root_forbidden = []; limit = None }

-- ---- two providers of one tree, each with room for one of two groups

two : List Provider
two = provider 1 None (own_entry vcpu 8) [] [] ∷ provider 2 (Some 1) (own_entry vcpu 8) [] [] ∷ []

pair : Asked
pair = ask ((Some (codes "1"), group ((vcpu, 5) ∷ []) []) ∷ (Some (codes "2"), group ((vcpu, 5) ∷ []) []) ∷ [])

-- the groups go to different ones
each_on_one : candidates two pair ≡ (0 ∷ 1 ∷ []) ∷ (1 ∷ 0 ∷ []) ∷ []
unfolding two pair vcpu disk own_entry provider group ask candidates is_candidate tests units_fit traits_fit meets_rule aggregates_fit tree_fits is_brought collective holds_sums sums is_set_apart are_apart isolate is_top subtree takes_root hosts_all anchor
each_on_one = refl

-- both on one overfill it
both_on_one : judge two pair (0 ∷ 0 ∷ []) ≡ Broken Sums
unfolding two pair vcpu disk own_entry provider group ask judge tests units_fit traits_fit meets_rule aggregates_fit tree_fits is_brought collective holds_sums sums is_set_apart are_apart isolate is_top subtree takes_root hosts_all anchor
both_on_one = refl

-- what is after ids one of which no provider has
after_unknown : rest two pair (Some (1 ∷ 7 ∷ [])) ≡ (1 ∷ 0 ∷ []) ∷ []
unfolding two pair vcpu disk own_entry provider group ask rest candidates is_candidate tests units_fit traits_fit meets_rule aggregates_fit tree_fits is_brought collective holds_sums sums is_set_apart are_apart isolate is_top subtree takes_root hosts_all anchor
after_unknown = refl

-- the same, in two trees
apart : List Provider
apart = provider 1 None (own_entry vcpu 8) [] [] ∷ provider 3 None (own_entry vcpu 8) [] [] ∷ []

-- no root anchors both
no_anchor : judge apart pair (0 ∷ 1 ∷ []) ≡ Broken Anchor
unfolding apart pair vcpu disk own_entry provider group ask judge tests units_fit traits_fit meets_rule aggregates_fit tree_fits is_brought collective holds_sums sums is_set_apart are_apart isolate is_top subtree takes_root hosts_all anchor
no_anchor = refl

-- ---- two trees that share the disk of a third provider

shared : List Provider
shared =
    provider 1 None (own_entry vcpu 8) [] []
    ∷ provider 2 (Some 1) [] [] (161 ∷ [])
    ∷ provider 3 None (own_entry vcpu 8) [] []
    ∷ provider 4 (Some 3) [] [] (161 ∷ [])
    ∷ provider 9 None (own_entry disk 100) (codes "MISC_SHARES_VIA_AGGREGATE" ∷ []) (161 ∷ [])
    ∷ []

disk_alone : Asked
disk_alone = ask ((None, group ((disk, 10) ∷ []) []) ∷ [])

disk_and_vcpu : Asked
disk_and_vcpu = ask ((None, group ((disk, 10) ∷ (vcpu, 1) ∷ []) []) ∷ [])

-- three roots can anchor it, and it comes once
once : candidates shared disk_alone ≡ (4 ∷ []) ∷ []
unfolding shared disk_alone vcpu disk own_entry provider group ask candidates is_candidate tests units_fit traits_fit meets_rule aggregates_fit tree_fits is_brought collective holds_sums sums is_set_apart are_apart isolate is_top subtree takes_root hosts_all anchor
once = refl

-- the disk goes with either tree
with_either : candidates shared disk_and_vcpu ≡ (4 ∷ 0 ∷ []) ∷ (4 ∷ 2 ∷ []) ∷ []
unfolding shared disk_and_vcpu vcpu disk own_entry provider group ask candidates is_candidate tests units_fit traits_fit meets_rule aggregates_fit tree_fits is_brought collective holds_sums sums is_set_apart are_apart isolate is_top subtree takes_root hosts_all anchor
with_either = refl

-- ---- a child, whose root is in an aggregate

child : List Provider
child = provider 1 None [] [] (161 ∷ []) ∷ provider 2 (Some 1) (own_entry vcpu 8) [] [] ∷ []

member : Option (List ℕ) → Bool → Asked
member suffix forbids = ask ((suffix, group ((vcpu, 1) ∷ []) (record { forbids = forbids; ids = 161 ∷ [] } ∷ [])) ∷ [])

-- in the unsuffixed group its root's aggregate is its own
root_counts : candidates child (member None false) ≡ (1 ∷ []) ∷ []
unfolding child member vcpu disk own_entry provider group ask candidates is_candidate tests units_fit traits_fit meets_rule aggregates_fit tree_fits is_brought collective holds_sums sums is_set_apart are_apart isolate is_top subtree takes_root hosts_all anchor
root_counts = refl

-- in the forbidding form too
root_is_forbidden : candidates child (member None true) ≡ []
unfolding child member vcpu disk own_entry provider group ask candidates is_candidate tests units_fit traits_fit meets_rule aggregates_fit tree_fits is_brought collective holds_sums sums is_set_apart are_apart isolate is_top subtree takes_root hosts_all anchor
root_is_forbidden = refl

-- in a suffixed group it isn't
root_counts_not : judge child (member (Some (codes "1")) false) (1 ∷ []) ≡ Broken Aggregates
unfolding child member vcpu disk own_entry provider group ask judge tests units_fit traits_fit meets_rule aggregates_fit tree_fits is_brought collective holds_sums sums is_set_apart are_apart isolate is_top subtree takes_root hosts_all anchor
root_counts_not = refl
