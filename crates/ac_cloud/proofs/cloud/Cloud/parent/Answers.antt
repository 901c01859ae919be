use Rattle.ac_cloud.proofs.Common.{◌<◌, length, None, arith, get_or_read}
use Rattle.ac_cloud.proofs.Places.CloudFacts.{inside, parent_is, parts}
use Rattle.ac_cloud.proofs.cloud.Cloud.parent.Goals as goal

pub returns-clause-id : goal.returns-clause-id
returns-clause-id c =
    let h = inside c.args.self.now c.args.ix c.requires in
    let k : c.args.ix < length c.args.self.now.parents.items = omega (arith, h, (parts c.args.self.now).forest.with_parents) in
    (parent_is c.args.self.now c.args.ix c.index.result.now h (get_or_read c.args.self.now.parents.items _ _ k c.index.ensures None)).0

pub returns-clause-inside : goal.returns-clause-inside
returns-clause-inside c =
    let h = inside c.args.self.now c.args.ix c.requires in
    let k : c.args.ix < length c.args.self.now.parents.items = omega (arith, h, (parts c.args.self.now).forest.with_parents) in
    (parent_is c.args.self.now c.args.ix c.index.result.now h (get_or_read c.args.self.now.parents.items _ _ k c.index.ensures None)).1
