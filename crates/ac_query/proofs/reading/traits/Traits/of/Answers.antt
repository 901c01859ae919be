use Rattle.std.proofs.Common.{◌∙◌, refl, ap, map}
use Rattle.ac_base.specs.Names.{trait_bytes}
use Rattle.ac_base.specs.Texts.{text_cmp}
use Rattle.ac_base.proofs.ShownKeys.{insert_key_shown}
use Rattle.ac_query.specs.Shown.{mark_shown, traits_shown}
use Rattle.ac_query.proofs.Values.Marks.{forbidden_one, required_one}
use Rattle.ac_query.proofs.reading.traits.Traits.of.Goals as goal

pub loop-marked-preserved-in_ok-insert : goal.loop-marked-preserved-in_ok-insert
loop-marked-preserved-in_ok-insert c =
    forbidden_one (traits_shown c.loop-marked.traits) _ _ (mark_shown c.in-Some.marked) _ (ap (map mark_shown) c.in-Some.ensures.steps.0) c.loop-marked.invariant _
    c.if-marked.true (ap (map trait_bytes) c.in_ok-insert.ensures.keys ∙ insert_key_shown trait_bytes _ text_cmp (λ a b. refl) c.loop-marked.traits.forbidden.keys c.in-Some.marked.name)

pub loop-marked-preserved : goal.loop-marked-preserved
loop-marked-preserved c =
    required_one (traits_shown c.loop-marked.traits) _ _ (mark_shown c.in-Some.marked) _ (ap (map mark_shown) c.in-Some.ensures.steps.0) c.loop-marked.invariant _
    c.if-marked.false (ap (map trait_bytes) c.in_ok-insert-2.ensures.keys ∙ insert_key_shown trait_bytes _ text_cmp (λ a b. refl) c.loop-marked.traits.required.keys c.in-Some.marked.name)
