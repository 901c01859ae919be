use Rattle.std.proofs.Common.{◌≡◌, ℕ, List, Some, length, slice_index, slice_index_or, sym, subst, arith}
use Rattle.ac_prune.specs.Left.Accounts.{providers_in, asked_in}
use Rattle.ac_prune.specs.QuerySearch.{choice_of}
use Rattle.ac_rules.specs.Placed.{slot_at}
use Rattle.ac_prune.specs.Trees.{IsByTree, AreByTree}
use Rattle.ac_prune.specs.declared.trees.by_tree.Places.{Places}
use Rattle.ac_prune.specs.declared.front.Front.{Front}
use Rattle.ac_prune.proofs.Paths.FrontLemmas.{listed_at, bound_there, bound_low, bound_behind, choice_inside}
use Rattle.ac_prune.proofs.Roots.HostLemmas.{elsewhere_dead}
use Rattle.ac_prune.proofs.trees.TreesLookAhead.next.Goals as goal

-- the choices behind a front, by tree
here : (f : Front) (ix : ℕ) (groves : List ℕ) (slots : List Places) (b : Places) → f.bound ≡ Some ix → AreByTree (providers_in f.ledger.now) (asked_in f.ledger.now) groves slots → b ≡ slice_index_or slots (length f.path.now) b → IsByTree (providers_in f.ledger.now) f.choices.now groves b
here f ix groves slots b bound are is =
    let all = providers_in f.ledger.now in
    let asked = asked_in f.ledger.now in
    rw (listed_at f) (subst (IsByTree all (choice_of all asked (slot_at asked (length f.path.now))) groves) (sym is) (are.each (length f.path.now) b (bound_behind f ix bound) f.short))

pub anchors-trees-requires : goal.anchors-trees-requires
anchors-trees-requires c = bound_low c.args.front.now c.in-Some.ix c.in-Some.is

pub next_at-requires : goal.next_at-requires
next_at-requires c = omega (arith, (here c.args.front.now c.in-Some.ix c.args.self.now.groves.items c.args.self.now.slots.items c.index.result.now c.in-Some.is c.requires.of c.index.ensures).count, c.requires.from)

pub returns-else-not-are_few-clause-within : goal.returns-else-not-are_few-clause-within
returns-else-not-are_few-clause-within c = omega (arith, (here c.args.front.now c.in-Some.ix c.args.self.now.groves.items c.args.self.now.slots.items c.index.result.now c.in-Some.is c.requires.of c.index.ensures).count, c.next_at.ensures.within)

pub returns-else-not-are_few-clause-dead : goal.returns-else-not-are_few-clause-dead
returns-else-not-are_few-clause-dead c = λ i above less.
    let f = c.args.front.now in
    let all = providers_in f.ledger.now in
    let by = here f c.in-Some.ix c.args.self.now.groves.items c.args.self.now.slots.items c.index.result.now c.in-Some.is c.requires.of c.index.ensures in
    elsewhere_dead all (asked_in f.ledger.now) f.path.now c.in-Some.ix (slice_index f.choices.now i) (bound_there f c.in-Some.ix c.in-Some.is)
    (λ r home low. c.next_at.ensures.passed all f.choices.now (rw c.deref.ensures.value by) r i (rw c.anchors-trees.ensures home) low above less)

pub root-requires : goal.root-requires
root-requires c = choice_inside c.args.front.now c.args.from c.if-from-front.true

pub available-beside-requires-clause-ix : goal.available-beside-requires-clause-ix
available-beside-requires-clause-ix c = bound_low c.args.front.now c.in-Some.ix c.in-Some.is
