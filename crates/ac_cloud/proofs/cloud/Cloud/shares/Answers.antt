use Rattle.ac_cloud.proofs.Common.{◌∙◌, sym, arith, false, get_or_read}
use Rattle.ac_cloud.proofs.Places.CloudFacts.{inside, parts}
use Rattle.ac_cloud.proofs.Places.AnchorFacts.{shares_here}
use Rattle.ac_cloud.proofs.cloud.Cloud.shares.Goals as goal

pub returns : goal.returns
returns c =
    let cloud = c.args.self.now in
    get_or_read cloud.sharing.items c.args.ix _ (omega (arith, inside cloud c.args.ix c.requires, (parts cloud).with_sharing)) c.index.ensures false ∙ sym (shares_here cloud c.args.ix (inside cloud c.args.ix c.requires))
