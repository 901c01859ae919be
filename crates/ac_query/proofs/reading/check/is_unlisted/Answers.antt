use Rattle.std.proofs.Common.{◌∙◌, not, ◌&&◌, sym, ap₂, refl}
use Rattle.ac_base.specs.Names.{suffix_bytes}
use Rattle.ac_query.proofs.Values.NameSets.{contains_text}
use Rattle.ac_query.proofs.reading.check.is_unlisted.Goals as goal

pub returns-then-not-has_resources : goal.returns-then-not-has_resources
returns-then-not-has_resources c =
    ap₂ (λ r l. not r && not l) (sym c.if-not-has_resources.true ∙ c.has_resources.ensures)
    (c.contains.ensures ∙ contains_text suffix_bytes _ (λ a b. refl) c.args.listed.now.keys c.args.suffix.now)
