use Rattle.std.proofs.Common.{List, map, subst, sym}
use Rattle.std.specs.List.Sorted.{IsStrictlySortedBy}
use Rattle.ac_base.specs.Names.{trait_bytes}
use Rattle.ac_base.specs.Texts.{text_cmp}
use Rattle.ac_base.specs.declared.name.TraitName.{TraitName}
use Rattle.ac_query.proofs.Relaxed.{none_rise}
use Rattle.ac_query.proofs.group.Group.relaxed.Goals as goal

pub invariant_of-result-clause-required_rising : goal.invariant_of-result-clause-required_rising
invariant_of-result-clause-required_rising c =
    subst (λ (names : List TraitName). IsStrictlySortedBy text_cmp (map trait_bytes names)) (sym c.clear.ensures.items) none_rise
