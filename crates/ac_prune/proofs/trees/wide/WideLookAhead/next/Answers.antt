use Rattle.std.proofs.Common.{◌≡◌, ◌-◌, ◌<◌, ℕ, true, inl, inr, length, slice_index, slice_index_or, sym, subst, arith}
use Rattle.std.specs.List.{list_any}
use Rattle.std.specs.Global.{Vec}
use Rattle.std.proofs.lemmas.Bool.{cases_Bool}
use Rattle.std.proofs.lemmas.List.Elements.{recursion_from_All}
use Rattle.ac_cloud.specs.World.{is_available_at}
use Rattle.ac_rules.specs.Placed.{slot_at}
use Rattle.ac_prune.specs.Left.Accounts.{providers_in, asked_in}
use Rattle.ac_prune.specs.QuerySearch.{choice_of}
use Rattle.ac_prune.specs.Trees.{AllMeetInGroves, MeetInGroves}
use Rattle.ac_prune.specs.Trees.Keys.{key_of, is_there}
use Rattle.ac_prune.specs.declared.front.Front.{Front}
use Rattle.ac_prune.specs.declared.trees.by_tree.Places.{Places}
use Rattle.ac_prune.specs.declared.trees.wide.Wide.{Wide}
use Rattle.ac_prune.proofs.Paths.FrontLemmas.{listed_at, choice_inside}
use Rattle.ac_prune.proofs.Roots.GroveLemmas.{number_there}
use Rattle.ac_prune.proofs.Roots.HostLemmas.{elsewhere_dead}
use Rattle.ac_prune.proofs.trees.wide.WideLookAhead.next.Goals as goal

-- the choices behind a front, by grove
here : (f : Front) (wide : Wide) (b : Places) → AllMeetInGroves (providers_in f.ledger.now) (asked_in f.ledger.now) wide → b ≡ slice_index_or wide.slots.items (length f.path.now) b
    → MeetInGroves (providers_in f.ledger.now) wide.of_providers.items f.choices.now b
here f wide b are is =
    let all = providers_in f.ledger.now in
    let asked = asked_in f.ledger.now in
    rw (listed_at f) (subst (MeetInGroves all wide.of_providers.items (choice_of all asked (slot_at asked (length f.path.now)))) (sym is) (are.each (length f.path.now) b f.short))

pub root-requires : goal.root-requires
root-requires c = choice_inside c.args.front.now c.args.from c.if-from-front.true

pub next_among-requires : goal.next_among-requires
next_among-requires c = omega (arith, (here c.args.front.now c.args.self.now c.index.result.now c.requires.of c.index.ensures).count, c.requires.from)

pub returns-clause-within : goal.returns-clause-within
returns-clause-within c = omega (arith, (here c.args.front.now c.args.self.now c.index.result.now c.requires.of c.index.ensures).count, c.next_among.ensures.within)

pub returns-clause-dead : goal.returns-clause-dead
returns-clause-dead c = λ i above less.
    let f = c.args.front.now in
    let all = providers_in f.ledger.now in
    let path = f.path.now in
    let last = length path - 1 in
    let ix = slice_index path last in
    let inside : last < length path = omega (arith, c.if-depth-eq0.false) in
    let by = here f c.args.self.now c.index.result.now c.requires.of c.index.ensures in
    let low : i < length f.choices.now = omega (arith, by.count, c.next_among.ensures.within, less) in
    elsewhere_dead all (asked_in f.ledger.now) path ix (slice_index f.choices.now i) (number_there path last inside)
    (λ r home root. elim (cases_Bool (is_available_at all (slice_index f.choices.now i) r)) [
      | inl at ↦
          let met = by.met ix r i c.index-groves.result.now (f.providers last 0 inside) root low home at in
          absurd (omega (arith, less, c.next_among.ensures.passed i above (rw c.deref.ensures.value (subst (λ (v : Vec ℕ). list_any (λ g. is_there c.index.result.now.keys.items (key_of g i)) v.items ≡ true) (sym c.index-groves.ensures) met))))
      | inr away ↦ away
    ])
