use Rattle.std.proofs.Common.{◌≡◌, ◌∙◌, Bor, ap, arith, sym, true}
use Rattle.std.specs.Str.{bytes_eq}
use Rattle.std.proofs.lemmas.Slice.Eq.{bytes_eq-Decides}
use Rattle.ac_rules.specs.Placed.{slot_at}
use Rattle.ac_prune.specs.Left.Accounts.{providers_in, asked_in}
use Rattle.ac_prune.specs.Loads.{choice_in}
use Rattle.ac_prune.specs.QuerySearch.{choice_of}
use Rattle.ac_prune.specs.declared.ledger.Ledger.{Ledger}
use Rattle.ac_prune.proofs.Roots.KindLemmas.{alike_told}
use Rattle.ac_prune.proofs.hosts.column.Column.asks_alike.Goals as goal

pub returns : goal.returns
returns c =
    let l = c.args.self.now.ledger.now in
    let looked : c.is_looked_at.result ≡ true = grind (arith, c.if-not-is_looked_at.false) in
    let equal : bytes_eq c.of_slot.result.now c.args.list.now ≡ true = grind (arith, c.if-ne.false, c.ne.ensures) in
    let same : choice_of (providers_in l) (asked_in l) (slot_at (asked_in l) c.args.s) ≡ c.args.list.now =
    ap (λ (ledger : Bor Ledger). choice_in ledger.now c.args.s) (sym c.requires.same) ∙ sym c.of_slot.ensures.list ∙ (bytes_eq-Decides c.of_slot.result.now c.args.list.now).0 equal in
    alike_told c.args.self.now c.args.s c.args.amount c.wanted-asked.result c.args.list.now c.args.lone c.index.result.now c.requires.slot same c.index.ensures
    (rw c.deref.ensures.value at c.wanted-asked.ensures) (omega (arith, c.if-asked-amount.false)) (c.is_looked_at.ensures looked)
