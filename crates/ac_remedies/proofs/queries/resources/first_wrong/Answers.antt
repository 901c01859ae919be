use Rattle.std.proofs.Common.{rules, ◌∙◌, map, refl, sym, ap}
use Rattle.std.specs.Prelude.{not}
use Rattle.std.specs.Option.{option_map}
use Rattle.ac_base.specs.Names.{class_bytes}
use Rattle.ac_base.specs.Texts.{text_cmp}
use Rattle.ac_base.proofs.ShownKeys.{insert_key_shown}
use Rattle.ac_query.proofs.Values.Pieces.{next_part, parts_left}
use Rattle.ac_remedies.specs.Queries.Wanted.{wrong_after}
use Rattle.ac_remedies.proofs.ItemsWrong.{among_shown, class_new, class_seen, no_class}
use Rattle.ac_remedies.proofs.queries.resources.first_wrong.Goals as goal

pub returns-in_default : goal.returns-in_default
returns-in_default c =
    let turn = next_part c.loop-item.item-iterator c.next.new.self c.in-Some.item c.loop-item.invariant.0 c.in-Some.ensures.steps in
    no_class (map class_bytes c.loop-item.classes.keys) _ _ _ _ turn c.loop-item.invariant.1 (ap (option_map class_bytes) (sym c.in_default.is) ∙ c.in_ok-class.ensures)

pub returns-then-not-branch : goal.returns-then-not-branch
returns-then-not-branch c =
    let turn = next_part c.loop-item.item-iterator c.next.new.self c.in-Some.item c.loop-item.invariant.0 c.in-Some.ensures.steps in
    class_seen (map class_bytes c.loop-item.classes.keys) _ _ _ _ turn c.loop-item.invariant.1 (class_bytes c.in-Some-2.class)
    (ap (option_map class_bytes) (sym c.in-Some-2.is) ∙ c.in_ok-class.ensures)
    (among_shown class_bytes _ (λ a b. refl) c.loop-item.classes.keys c.in-Some-2.class _ c.in_ok-insert.ensures.added ∙ ap not c.if-not-branch.true)

pub loop-item-preserved : goal.loop-item-preserved
loop-item-preserved c =
    let turn = next_part c.loop-item.item-iterator c.next.new.self c.in-Some.item c.loop-item.invariant.0 c.in-Some.ensures.steps in (
      search rules,
      ap (λ keys. wrong_after keys (parts_left c.next.new.self))
          (ap (map class_bytes) c.in_ok-insert.ensures.keys ∙ insert_key_shown class_bytes _ text_cmp (λ a b. refl) c.loop-item.classes.keys c.in-Some-2.class)
          ∙ class_new (map class_bytes c.loop-item.classes.keys) _ _ _ _ turn c.loop-item.invariant.1 (class_bytes c.in-Some-2.class)
          (ap (option_map class_bytes) (sym c.in-Some-2.is) ∙ c.in_ok-class.ensures)
          (among_shown class_bytes _ (λ a b. refl) c.loop-item.classes.keys c.in-Some-2.class _ c.in_ok-insert.ensures.added ∙ ap not c.if-not-branch.false),
    )
