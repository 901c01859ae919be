use Rattle.std.proofs.Common.{◌≡◌, ℕ, [], true, get_or, slice_index, subst, sym}
use Rattle.std.specs.Global.{Vec}
use Rattle.ac_cloud.specs.Cloud.CloudWorld.{providers_of, root_lists_of}
use Rattle.ac_prune.specs.Trees.Keys.{is_there}
use Rattle.ac_prune.proofs.Roots.TreeLemmas.{or_left, or_right, anchor_there}
use Rattle.ac_prune.proofs.trees.groves.Groves.numbers.Goals as goal

pub returns-in-Some : goal.returns-in-Some
returns-in-Some c = λ r low here.
    let grove = slice_index c.args.self.now.of_roots.items r in
    let listed : is_there (get_or (root_lists_of c.args.cloud.now) c.in-Some.list []) r ≡ true = rw c.in-Some.ensures.1 (anchor_there (providers_of c.args.cloud.now) c.args.ix r low here) in
    let among = subst (λ (groves : Vec ℕ). is_there groves.items grove ≡ true) (sym c.index.ensures) (c.requires.groves.each c.in-Some.list c.index.result.now c.in-Some.ensures.0 r listed) in
    rw c.deref.ensures.value (or_right _ _ among)

pub returns-then-trees-most : goal.returns-then-trees-most
returns-then-trees-most c = λ r low here. rw c.anchors-trees.ensures (or_left _ _ (anchor_there (providers_of c.args.cloud.now) c.args.ix r low here))

pub returns-in-None : goal.returns-in-None
returns-in-None c = λ r low here. rw c.anchors-trees.ensures (or_left _ _ (anchor_there (providers_of c.args.cloud.now) c.args.ix r low here))
