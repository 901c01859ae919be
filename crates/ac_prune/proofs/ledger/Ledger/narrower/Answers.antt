use Rattle.std.proofs.Common.{◌≡◌, ◌<◌, ◌-◌, ◌∙◌, length, slice_index, sym, arith}
use Rattle.std.proofs.lemmas.Bool.Decides.{nat_tests}
use Rattle.std.proofs.lemmas.List.{get_or_read}
use Rattle.ac_prune.specs.Left.Accounts.{providers_in}
use Rattle.ac_prune.proofs.Paths.MarkLemmas.{last_with_all}
use Rattle.ac_prune.proofs.ledger.Ledger.narrower.Goals as goal

pub returns-then-anchors-most-clause-with_all : goal.returns-then-anchors-most-clause-with_all
returns-then-anchors-most-clause-with_all c =
    let l = c.args.self.now in
    let q = c.args.front.now in
    let none = sym c.is_empty.ensures ∙ c.if-is_empty.false in
    let some : 0 < length q = grind (arith, nat_tests, none) in
    let is : c.index-narrowest.result.now ≡ slice_index l.narrowest.items (length q - 1) =
    get_or_read l.narrowest.items _ _ (omega (arith, some, c.requires.accounts.narrowest.count)) c.index-narrowest.ensures 0 in
    rw is (last_with_all (providers_in l) l.narrowest.items q c.args.ix c.requires.accounts.narrowest some)
