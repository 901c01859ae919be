use Rattle.std.proofs.Common.{◌≡◌, ◌∙◌, ℕ, Bool, true, false, List, [], ◌∷◌, map, not, refl, sym, ap, if◌then◌else◌}
use Rattle.std.specs.List.{filter}
use Rattle.ac_query.specs.declared.group.AggregateRule as rust
use Rattle.ac_query.specs.Pairs.Values.{AggregateRule}
use Rattle.ac_query.specs.Shown.Groups.{rule_shown}
use Rattle.ac_query.proofs.group.Group.asking.Goals as goal

abbrev of_rule : rust.AggregateRule → Bool × List ℕ
of_rule rule = (rule.forbids, rule.ids.items)

abbrev shown : Bool × List ℕ → AggregateRule
shown (forbids, ids) = record { forbids = forbids; ids = ids }

all_shown : (rules : List rust.AggregateRule) → map rule_shown rules ≡ map shown (map of_rule rules)
all_shown [] = refl
all_shown (rule ∷ rules) = ap (λ rest. rule_shown rule ∷ rest) (all_shown rules)

-- those that don't forbid, shown
asking_shown : (rules : List (Bool × List ℕ)) → map shown (filter (λ rule. not rule.0) rules) ≡ filter (λ rule. not rule.forbids) (map shown rules)
asking_shown [] = refl
asking_shown ((true, ids) ∷ rules) = asking_shown rules
asking_shown ((false, ids) ∷ rules) = ap (λ rest. shown (false, ids) ∷ rest) (asking_shown rules)

pub returns : goal.returns
returns c =
    let group = c.args.self.now in
    ap (map rule_shown) c.as_slice.ensures.value ∙ all_shown group.asking.items ∙ ap (map shown) group.asking_gathered ∙ asking_shown (map of_rule group.member_of.items)
    ∙ sym (ap (filter (λ rule. not rule.forbids)) (all_shown group.member_of.items))
