use Rattle.ac_cloud.proofs.Common.{◌<◌, ◌∙◌, ℕ, length, sym, ap, arith, subst, get_or_read, id_at, providers_of}
use Rattle.ac_cloud.proofs.Places.CloudFacts.{inside, outside, root_inside, root_here, parts}
use Rattle.ac_cloud.proofs.cloud.Cloud.root.Goals as goal

pub returns-clause-id : goal.returns-clause-id
returns-clause-id c =
    let h = inside c.args.self.now c.args.ix c.requires in
    let k : c.args.ix < length c.args.self.now.roots.items = omega (arith, h, (parts c.args.self.now).forest.with_roots) in
    ap (id_at (providers_of c.args.self.now)) (get_or_read c.args.self.now.roots.items _ _ k c.index.ensures 0) ∙ root_here c.args.self.now c.args.ix h

pub returns-clause-inside : goal.returns-clause-inside
returns-clause-inside c =
    let h = inside c.args.self.now c.args.ix c.requires in
    let k : c.args.ix < length c.args.self.now.roots.items = omega (arith, h, (parts c.args.self.now).forest.with_roots) in
    subst (λ (j : ℕ). j < length (providers_of c.args.self.now)) (sym (get_or_read c.args.self.now.roots.items _ _ k c.index.ensures 0))
    (outside c.args.self.now _ (root_inside c.args.self.now c.args.ix h))
