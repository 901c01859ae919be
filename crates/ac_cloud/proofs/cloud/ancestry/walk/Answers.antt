use Rattle.ac_cloud.proofs.Common.{◌≡◌, ◌<◌, ◌∙◌, ℕ, Some, None, length, get_or}
use Rattle.ac_cloud.proofs.Trees.AncestorFacts.{some_inside}
use Rattle.ac_cloud.proofs.Trees.VisitFacts.{visits_tell}
use Rattle.ac_cloud.proofs.cloud.ancestry.walk.Goals as goal

pub returns-then-are_placed : goal.returns-then-are_placed
returns-then-are_placed c =
    let parents = c.args.parents.now in
    let draft = c.in_ok-draft.draft in
    let size = c.in_ok-draft.ensures in (
      size,
      draft.left_sized ∙ size,
      visits_tell parents draft.entered.items draft.left.items draft.order.items draft.before.items
          (λ (i j : ℕ) (h : i < length parents) (e : get_or parents i None ≡ Some j). some_inside (length parents) (get_or parents i None) j e (c.requires.known i h))
          (c.are_placed.ensures c.if-are_placed.true) (draft.order_sized ∙ size),
    )
