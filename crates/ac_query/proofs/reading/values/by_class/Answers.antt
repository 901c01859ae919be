use Rattle.std.proofs.Common.{◌∙◌, refl, sym, ap, map}
use Rattle.ac_base.specs.Names.{class_bytes}
use Rattle.ac_base.specs.Texts.{text_cmp}
use Rattle.ac_base.proofs.ShownKeys.{insert_shown, is_some_shown}
use Rattle.ac_query.specs.Shown.{need_shown, needs_shown}
use Rattle.ac_query.specs.Shown.Groups.{need_entry}
use Rattle.ac_query.proofs.Values.NeedItems.{all_by_class, class_there, class_new}
use Rattle.ac_query.proofs.reading.values.by_class.Goals as goal

pub loop-need-init : goal.loop-need-init
loop-need-init c = rw (c.new-amounts.ensures.empty, c.into_iter-need-iterator.ensures.into_iter_gives.0) (all_by_class (map need_entry c.args.needs.items))

pub returns-then-contains_key : goal.returns-then-contains_key
returns-then-contains_key c =
    class_there (needs_shown c.loop-need.amounts) _ _ (need_entry c.in-Some.need) _ (ap (map need_entry) c.in-Some.ensures.steps.0) c.loop-need.invariant
    (is_some_shown class_bytes (λ a. a.count) _ text_cmp (λ a b. refl) c.loop-need.amounts.entries c.in-Some.need.class ∙ sym c.contains_key.ensures ∙ c.if-contains_key.true)

pub loop-need-preserved : goal.loop-need-preserved
loop-need-preserved c =
    class_new (needs_shown c.loop-need.amounts) _ _ (need_entry c.in-Some.need) _ (ap (map need_entry) c.in-Some.ensures.steps.0) c.loop-need.invariant (needs_shown c.insert.new.self)
    (is_some_shown class_bytes (λ a. a.count) _ text_cmp (λ a b. refl) c.loop-need.amounts.entries c.in-Some.need.class ∙ sym c.contains_key.ensures ∙ c.if-contains_key.false)
    (ap (map need_shown) c.in_ok-insert.ensures.entries
    ∙ insert_shown class_bytes (λ a. a.count) _ text_cmp (λ a b. refl) c.loop-need.amounts.entries c.in-Some.need.class c.in-Some.need.amount)
