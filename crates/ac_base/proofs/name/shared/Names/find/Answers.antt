use Rattle.std.proofs.Common.{◌∙◌, sym}
use Rattle.std.proofs.lemmas.Map.Lookups.{exact_bytes}
use Rattle.ac_base.proofs.name.shared.Names.find.Goals as goal

pub returns-in-Some : goal.returns-in-Some
returns-in-Some c = c.in_ok-clone.ensures.cases ∙ sym (exact_bytes _ _ c.in-Some.ensures.same_key) ∙ c.as_text-text.ensures
