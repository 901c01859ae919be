use Rattle.std.proofs.Common.{◌∙◌, ℕ, ap, sym}
use Rattle.std.specs.Global.{Vec}
use Rattle.ac_rules.specs.Placed.{slot_at}
use Rattle.ac_prune.specs.Left.Accounts.{providers_in, asked_in}
use Rattle.ac_prune.specs.QuerySearch.{search_of}
use Rattle.ac_prune.proofs.Roots.KeptLemmas.{kept_choices}
use Rattle.ac_prune.proofs.Roots.RootLemmas.{choice_low}
use Rattle.ac_prune.proofs.Search.OpenLemmas.{choices_here, few_choices, is_search}
use Rattle.ac_prune.proofs.choices.Choices.of_slot.Goals as goal

pub returns : goal.returns
returns c =
    let s = c.args.s in
    let all = providers_in c.args.self.now.ledger.now in
    let asked = asked_in c.args.self.now.ledger.now in
    let list = c.deref.ensures.value ∙ (sym (ap (λ (v : Vec ℕ). v.items) c.index-self-s.is) ∙ kept_choices (search_of all asked) (is_search all asked) c.args.self.now.lists.now s c.index-self-s.result c.args.self.now.listed c.requires c.index-self-s.is ∙ choices_here all asked s c.requires) in
    record { list = list; few = rw list (few_choices all asked (slot_at asked s)); low = rw list (choice_low all asked (slot_at asked s)) }
