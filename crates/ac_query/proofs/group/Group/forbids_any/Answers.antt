use Rattle.std.proofs.Common.{◌≡◌, ◌∙◌, ◌&&◌, ◌||◌, ℕ, Bool, true, false, List, [], ◌∷◌, map, refl, ap, ap₂, if◌then◌else◌}
use Rattle.std.proofs.lemmas.List.Folds.{list_any-append}
use Rattle.std.specs.List.{flat_map, list_any}
use Rattle.ac_base.specs.Sorted.{is_one_of}
use Rattle.ac_query.specs.declared.group.AggregateRule.{AggregateRule}
use Rattle.ac_query.specs.Shown.Groups.{rule_shown}
use Rattle.ac_query.proofs.group.Group.forbids_any.Goals as goal

abbrev gathered : AggregateRule → List ℕ
gathered rule = if rule.forbids then rule.ids.items else []

of_rule : (own : List ℕ) (forbids : Bool) (ids : List ℕ) → list_any (is_one_of own) (if forbids then ids else []) ≡ (forbids && list_any (is_one_of own) ids)
of_rule own true ids = refl
of_rule own false ids = refl

-- one of what rules forbid is one of what some rule forbids
of_rules : (own : List ℕ) (rules : List AggregateRule)
    → list_any (is_one_of own) (flat_map gathered rules) ≡ list_any (λ rule. rule.forbids && list_any (is_one_of own) rule.ids) (map rule_shown rules)
of_rules own [] = refl
of_rules own (rule ∷ rules) =
    list_any-append (is_one_of own) (gathered rule) (flat_map gathered rules) ∙ ap₂ (λ a b. a || b) (of_rule own rule.forbids rule.ids.items) (of_rules own rules)

pub returns : goal.returns
returns c =
    let group = c.args.self.now in
    c.names_any.ensures ∙ ap (list_any (is_one_of c.args.own.now)) group.forbidden_gathered ∙ of_rules c.args.own.now group.member_of.items
