use Rattle.std.proofs.Common.{◌∙◌, refl, rules, tests}
use Rattle.std.specs.List.{list_any}
use Rattle.std.specs.BTreeMap.{is_at}
use Rattle.std.proofs.lemmas.Iterator.Consumers.{YieldsList-from_rest}
use Rattle.std.proofs.lemmas.Iterator.Search.{any_from_yields_List}
use Rattle.ac_base.specs.Names.{trait_bytes}
use Rattle.ac_base.specs.Texts.{text_cmp}
use Rattle.ac_base.proofs.Sorted.SearchFacts.{any_map}
use Rattle.ac_query.specs.Texts.{has_text}
use Rattle.ac_query.specs.Shown.{names_shown}
use Rattle.ac_query.proofs.Values.NameSets.{contains_text}
use Rattle.ac_query.proofs.reading.traits.Traits.is_conflicting.Goals as goal

pub returns : goal.returns
returns c =
    any_from_yields_List (λ name. list_any (is_at (λ b. text_cmp (trait_bytes name) (trait_bytes b))) c.args.self.now.forbidden.keys) _ _ _ c.any.ensures.ran
    (YieldsList-from_rest c.args.self.now.required.keys c.iter.ensures.rest) (λ x b q k. search (rules, tests))
    ∙ any_map _ (has_text (names_shown c.args.self.now.forbidden)) trait_bytes (contains_text trait_bytes _ (λ a b. refl) c.args.self.now.forbidden.keys) c.args.self.now.required.keys
