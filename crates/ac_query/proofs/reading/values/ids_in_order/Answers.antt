use Rattle.std.proofs.Common.{◌∙◌, ap, nat_cmp}
use Rattle.ac_base.specs.Sorted.{rising}
use Rattle.ac_query.proofs.reading.values.ids_in_order.Goals as goal

pub returns : goal.returns
returns c = c.in_ok-ids_of.ensures ∙ c.in_ok-set.ensures ∙ ap (rising nat_cmp) (c.in_ok-to_vec.ensures.items_if_clones_equal (λ _ _ h. h))
