use Rattle.std.proofs.Common.{◌≡◌, ◌∙◌, Bool, List, length, map, ap, arith, subst, sym}
use Rattle.std.specs.List.{range_with_len}
use Rattle.std.proofs.lemmas.List.{length-map, with_items_is}
use Rattle.std.proofs.lemmas.List.FromFn.{length-range_with_len}
use Rattle.ac_prune.specs.Left.Accounts.{providers_in, asked_in}
use Rattle.ac_prune.specs.Ahead.{AreRoots}
use Rattle.ac_rules.specs.Together.{takes_root}
use Rattle.ac_prune.specs.declared.ledger.Ledger.{Ledger}
use Rattle.ac_prune.proofs.Roots.RootLemmas.{takes_host}
use Rattle.ac_prune.proofs.hosts.Hosts.new.Goals as goal

many : (l : Ledger) (taken : List Bool) → taken ≡ map (takes_root (providers_in l) (asked_in l)) (range_with_len 0 (length (providers_in l))) → length taken ≡ length (providers_in l)
many l taken is =
    let n = length (providers_in l) in
    ap length is ∙ (length-map (range_with_len 0 n) (takes_root (providers_in l) (asked_in l)) ∙ length-range_with_len 0 n)

pub limit_all-requires-clause-hosts : goal.limit_all-requires-clause-hosts
limit_all-requires-clause-hosts c =
    let l = c.args.choices.now.ledger.now in
    let copied = rw c.new-may.ensures.items at c.in_ok-extend_from_slice.ensures.items in
    let start = c.deref_mut.ensures.value ∙ (copied ∙ (c.deref.ensures.value ∙ l.rooted)) in
    record { count = many l c.deref_mut.result.now start; hosts = takes_host (providers_in l) (asked_in l) c.deref_mut.result.now start }

pub returns : goal.returns
returns c =
    let l = c.args.choices.now.ledger.now in
    let may = c.extend_from_slice.new.self in
    let were = ap length c.deref_mut.ensures.value in
    let items = with_items_is may c.limit_all.new.may (c.limit_all.auto.may ∙ omega (arith, were, may.ok)) in
    subst (AreRoots (providers_in l) (asked_in l)) (sym items) c.in_ok-limit_all.ensures
