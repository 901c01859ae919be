use Rattle.std.proofs.Common.{◌≡◌, ◌∙◌, ◌==◌, ℕ, List, ap, arith, nat_cmp, subst, sym, true}
use Rattle.std.specs.List.Sorted.{IsStrictlySortedBy}
use Rattle.std.proofs.lemmas.Cmp.{nat_cmp_total}
use Rattle.std.specs.List.{list_any}
use Rattle.ac_base.specs.Sorted.{is_one_of, rising}
use Rattle.ac_base.proofs.Sorted.SearchFacts.{any_same, any_swap}
use Rattle.ac_base.proofs.Sorted.SameItems.{member_rising}
use Rattle.ac_base.proofs.Sorted.SortedSets.{rising_sorted}
use Rattle.ac_query.proofs.group.AggregateRule.names_any.Goals as goal

turned : (p q : ℕ) → (q == p) ≡ (p == q)
turned p q = grind arith

-- some of these are among those in order, where some of those are among these
either_way : (ids own : List ℕ) → list_any (is_one_of (rising nat_cmp ids)) own ≡ list_any (is_one_of own) ids
either_way ids own =
    any_same (is_one_of (rising nat_cmp ids)) (is_one_of ids) (λ q. member_rising q ids) own
    ∙ any_swap (λ q. true) (λ q p. p == q) own ids
    ∙ any_same (λ p. list_any (λ q. p == q) own) (is_one_of own) (λ p. any_same (λ q. p == q) (λ q. q == p) (λ q. turned q p) own) ids

pub returns-then-own-len : goal.returns-then-own-len
returns-then-own-len c =
    let rule = c.args.self.now in
    c.has_one.ensures ∙ ap (λ ids. list_any (is_one_of ids) c.args.own.now) (c.deref.ensures.value ∙ rule.same) ∙ either_way rule.ids.items c.args.own.now

pub has_one-requires : goal.has_one-requires
has_one-requires c =
    let rule = c.args.self.now in
    subst (IsStrictlySortedBy nat_cmp) (sym (c.deref.ensures.value ∙ rule.same)) (rising_sorted nat_cmp_total rule.ids.items)
