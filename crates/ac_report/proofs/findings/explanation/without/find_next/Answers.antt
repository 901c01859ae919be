use Rattle.std.proofs.Common.{◌≡◌, ◌∙◌, ◌<◌, ℕ, List, [], false, get_or, length, refl, ap, arith, sym}
use Rattle.std.specs.Prelude.{not}
use Rattle.std.proofs.lemmas.List.FromFn.{get_or-map-range_with_len}
use Rattle.ac_cloud.specs.World.{Provider}
use Rattle.ac_cloud.specs.Cloud.CloudWorld.{providers_of}
use Rattle.ac_find.specs.Explained.{TreeCounts, tree_counts}
use Rattle.ac_find.proofs.NoneLemmas.{none_without_traits}
use Rattle.ac_query.specs.Asked.{Asked}
use Rattle.ac_rules.specs.Together.{is_empty, takes_root}
use Rattle.ac_query.specs.Shown.Queries.{asked_of}
use Rattle.ac_query.specs.Without.{without_subtree}
use Rattle.ac_report.specs.Findings.Explanation.Candidates.{has_candidate}
use Rattle.ac_report.proofs.EqualLists.{found_same}
use Rattle.ac_report.proofs.findings.explanation.without.find_next.Goals as goal

-- the counts of the trees don't look at `same_subtree`
counts_stay : (all : List Provider) (asked : Asked) (k : ℕ) → tree_counts all (without_subtree k asked) ≡ tree_counts all asked
unfolding takes_root
counts_stay all asked k = refl

pub returns-then-trees-eq0-clause-found : goal.returns-then-trees-eq0-clause-found
returns-then-trees-eq0-clause-found c =
    let all = providers_of c.args.cloud.now in
    let asked = asked_of c.args.question.now.query in
    let k = length c.args.found.now in
    let counts = counts_stay all asked k ∙ sym c.requires.trees in
    let none = ap (λ (counts : TreeCounts). counts.required_traits) counts ∙ c.if-trees-eq0.true in
    sym (ap (λ lists. not (is_empty lists)) (none_without_traits all (without_subtree k asked) none))

pub returns-then-equal-k-clause-found : goal.returns-then-equal-k-clause-found
returns-then-equal-k-clause-found c =
    let all = providers_of c.args.cloud.now in
    let asked = asked_of c.args.question.now.query in
    let k = length c.args.found.now in
    let j = c.first_equal-equal.result in
    let less : j < k = c.if-equal-k.true in
    let lists = c.subtrees.ensures.lists in
    let same : get_or asked.subtrees j [] ≡ get_or asked.subtrees k [] =
    ap (λ (l : List (List (List ℕ))). get_or l j []) (sym lists)
    ∙ (c.first_equal-equal.ensures.same ∙ ap (λ (l : List (List (List ℕ))). get_or l k []) lists) in
    ap (λ found. get_or found j false) c.requires.found
    ∙ (get_or-map-range_with_len (λ (i : ℕ). has_candidate all (without_subtree i asked)) 0 k j j false less (omega arith)
    ∙ sym (found_same all asked j k less c.requires.few same))

pub has_candidate-requires : goal.has_candidate-requires
has_candidate-requires c =
    let all = providers_of c.args.cloud.now in
    let asked = asked_of c.args.question.now.query in
    let k = length c.args.found.now in
    let query = c.without_subtree-query.ensures ∙ ap (without_subtree k) c.in_ok-again.ensures in
    c.requires.trees ∙ (sym (counts_stay all asked k) ∙ ap (tree_counts all) (sym query))

pub returns-clause-found : goal.returns-clause-found
returns-clause-found c =
    let query = c.without_subtree-query.ensures ∙ ap (without_subtree (length c.args.found.now)) c.in_ok-again.ensures in
    rw query at c.has_candidate.ensures.found

pub returns-clause-stopped : goal.returns-clause-stopped
returns-clause-stopped c =
    let query = c.without_subtree-query.ensures ∙ ap (without_subtree (length c.args.found.now)) c.in_ok-again.ensures in
    rw query at c.has_candidate.ensures.stopped
