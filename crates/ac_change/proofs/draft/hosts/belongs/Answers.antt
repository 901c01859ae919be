use Rattle.std.proofs.Common.{◌∙◌, ◌==◌, ℕ, ap, rules}
use Rattle.std.specs.List.{list_any}
use Rattle.std.proofs.lemmas.Iterator.{YieldsList-from_slice}
use Rattle.std.proofs.lemmas.Iterator.Search.{any_from_yields_List}
use Rattle.ac_change.proofs.draft.hosts.belongs.Goals as goal

pub returns : goal.returns
returns c =
    any_from_yields_List (λ a. a == c.args.aggregate) _ _ c.any.result c.any.ensures.ran (YieldsList-from_slice _ c.iter.ensures.rest) (λ x b q k. search rules)
    ∙ ap (list_any (λ (a : ℕ). a == c.args.aggregate)) c.deref.ensures.value
