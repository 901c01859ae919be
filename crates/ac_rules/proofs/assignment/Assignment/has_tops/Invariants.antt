use Rattle.std.proofs.Common.{◌≡◌, ℕ, List, drop}
use Rattle.std.specs.List.{list_all, list_any}
use Rattle.ac_query.specs.Shown.Queries.{asked_of}
use Rattle.ac_cloud.specs.Cloud.CloudWorld.{providers_of}
use Rattle.ac_rules.specs.Placed.{assigned}
use Rattle.ac_rules.specs.Together.{listed, is_top}
use Rattle.ac_rules.proofs.assignment.Assignment.has_tops.Given as goal

abbrev pub invariant-loop-k : goal.invariant-loop-k
invariant-loop-k l =
    let xs = assigned (asked_of l.self.query.now) l.self.list.now in
    let one = λ (names : List (List ℕ)). list_any (λ a. is_top (providers_of l.self.cloud.now) (listed names xs) a) (listed names xs) in
    list_all one (drop l.k (asked_of l.self.query.now).subtrees) ≡ list_all one (asked_of l.self.query.now).subtrees
