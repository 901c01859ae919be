-- Rules on aggregates: those that forbid, asked at once, and the others one by one.
use Rattle.std.proofs.lemmas.Grind.{common_steps}
use Rattle.std.proofs.Common.{◌≡◌, ◌∙◌, arith, ap, refl, Bool, true, false, not, ◌&&◌, ◌||◌, List, [], ◌∷◌, if◌then◌else◌}
use Rattle.std.proofs.lemmas.Bool.{cases_Bool}
use Rattle.std.specs.List.{filter, list_all, list_any}
use Rattle.std.specs.Option.{is_none}
use Rattle.ac_base.proofs.Sorted.SearchFacts.{any_or, any_same}
use Rattle.ac_query.specs.Pairs.Values.{AggregateRule}
use Rattle.ac_cloud.specs.World.{Provider, is_member, provider_at, root_provider}
use Rattle.ac_rules.specs.Placed.{Placed}
use Rattle.ac_rules.specs.Own.{counts_in, meets_rule}
use Rattle.ac_rules.proofs.EachSlot.TraitLemmas.{counted_either}

either_way : (forbids counts none all : Bool) → ((if forbids then not counts else counts) && (not none && all)) ≡ (not ((forbids && counts) || none) && ((forbids || counts) && all))
either_way forbids counts none all = grind (arith, common_steps, cases_Bool)

-- each rule is met where none that forbids passes, and each other one does
pub rules_apart : (test : AggregateRule → Bool) (rules : List AggregateRule) → list_all (λ rule. if rule.forbids then not (test rule) else test rule) rules
    ≡ (not (list_any (λ rule. rule.forbids && test rule) rules) && list_all (λ rule. rule.forbids || test rule) rules)
rules_apart test [] = refl
rules_apart test (rule ∷ rules) =
    ap (λ rest. (if rule.forbids then not (test rule) else test rule) && rest) (rules_apart test rules) ∙ either_way rule.forbids (test rule) _ _

-- the same of what counts as a provider's
pub rules_met : (all : List Provider) (x : Placed) (rules : List AggregateRule) → list_all (λ rule. meets_rule all x rule) rules
    ≡ (not (list_any (λ rule. rule.forbids && list_any (λ a. counts_in all x a) rule.ids) rules)
    && list_all (λ rule. rule.forbids || list_any (λ a. counts_in all x a) rule.ids) rules)
unfolding meets_rule
rules_met all x rules = rules_apart (λ rule. list_any (λ a. counts_in all x a) rule.ids) rules

kept : (forbids : Bool) (test : AggregateRule → Bool) (rule : AggregateRule) (rest : List AggregateRule)
    → list_all test (if not forbids then rule ∷ rest else rest) ≡ ((forbids || test rule) && list_all test rest)
kept true test rule rest = refl
kept false test rule rest = refl

-- all that don't forbid pass where each rule forbids or passes
pub all_asking : (test : AggregateRule → Bool) (rules : List AggregateRule)
    → list_all test (filter (λ rule. not rule.forbids) rules) ≡ list_all (λ rule. rule.forbids || test rule) rules
all_asking test [] = refl
all_asking test (rule ∷ rules) = kept rule.forbids test rule (filter (λ rule. not rule.forbids) rules) ∙ ap (λ b. (rule.forbids || test rule) && b) (all_asking test rules)

of_rule : (forbids suffixless own of_root : Bool) → (forbids && (own || (suffixless && of_root))) ≡ ((forbids && own) || (suffixless && (forbids && of_root)))
of_rule forbids suffixless own of_root = grind (arith, common_steps, cases_Bool)

and_any : {X : Type 0} (b : Bool) (test : X → Bool) (xs : List X) → list_any (λ x. b && test x) xs ≡ (b && list_any test xs)
and_any true test xs = refl
and_any false test [] = refl
and_any false test (x ∷ xs) = and_any false test xs

-- what rules forbid counts where it is the provider's own, or its root's in a group without suffix
pub forbidden_either : (all : List Provider) (x : Placed) (rules : List AggregateRule)
    → list_any (λ rule. rule.forbids && list_any (λ a. counts_in all x a) rule.ids) rules
    ≡ (list_any (λ rule. rule.forbids && list_any (is_member (provider_at all x.provider)) rule.ids) rules
    || (is_none x.slot.suffix && list_any (λ rule. rule.forbids && list_any (is_member (root_provider all (provider_at all x.provider))) rule.ids) rules))
forbidden_either all x rules =
    let p = provider_at all x.provider in
    let own : AggregateRule → Bool = λ rule. rule.forbids && list_any (is_member p) rule.ids in
    let of_root : AggregateRule → Bool = λ rule. rule.forbids && list_any (is_member (root_provider all p)) rule.ids in
    any_same _ (λ rule. own rule || (is_none x.slot.suffix && of_root rule))
    (λ rule. ap (λ b. rule.forbids && b) (counted_either all x rule.ids) ∙ of_rule rule.forbids (is_none x.slot.suffix) _ _) rules
    ∙ any_or own (λ rule. is_none x.slot.suffix && of_root rule) rules
    ∙ ap (λ b. list_any own rules || b) (and_any (is_none x.slot.suffix) of_root rules)
