use Rattle.std.proofs.Common.{◌∙◌, List, ℕ, ap, map}
use Rattle.ac_query.specs.Shown.{suffixes_shown}
use Rattle.ac_query.specs.Shown.Queries.{asked_of}
use Rattle.ac_query.proofs.Relaxed.{remove_shown}
use Rattle.ac_query.proofs.query.Query.without_subtree.Goals as goal

pub returns : goal.returns
returns c =
    ap (λ (lists : List (List (List ℕ))). record (asked_of c.args.self) { subtrees = lists })
    (ap (map suffixes_shown) c.remove-list.ensures.items ∙ remove_shown suffixes_shown c.args.self.subtrees.items c.args.k)
