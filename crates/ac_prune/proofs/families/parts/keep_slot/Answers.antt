use Rattle.std.proofs.Common.{[], get_or, sym, ◌∙◌}
use Rattle.ac_prune.specs.Left.Accounts.{providers_in, asked_in}
use Rattle.ac_prune.proofs.Roots.PartLemmas.{seen_parts}
use Rattle.ac_prune.proofs.Roots.RootLemmas.{if_ok}
use Rattle.ac_prune.proofs.families.parts.keep_slot.Goals as goal

pub keep_seen-requires : goal.keep_seen-requires
keep_seen-requires c = rw c.requires.parts.count c.of_slot.ensures.low

pub returns : goal.returns
returns c =
    let l = c.args.choices.now.ledger.now in
    if_ok _ _ c.keep_seen.result
    (λ _ keeps. seen_parts (providers_in l) (asked_in l) (get_or (asked_in l).subtrees c.args.k []) c.args.parts.now c.keep_seen.new.parts c.args.s
    (c.requires.slot, sym c.is_listed.ensures ∙ c.if-not-is_listed.false) c.requires.parts (rw c.of_slot.ensures.list at keeps))
    c.keep_seen.ensures
