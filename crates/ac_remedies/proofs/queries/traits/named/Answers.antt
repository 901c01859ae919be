use Rattle.std.proofs.Common.{ap, codes, unwrap_or}
use Rattle.ac_query.proofs.Fronts.{behind_strip}
use Rattle.ac_remedies.proofs.queries.traits.named.Goals as goal

pub returns-in-Some : goal.returns-in-Some
returns-in-Some c =
    let found = behind_strip (codes "!") c.args.item.now c.strip_prefix.result c.strip_prefix.ensures.cases in
    ap (λ o. unwrap_or o c.args.item.now) (rw c.in-Some.is at found)

pub returns-in-None : goal.returns-in-None
returns-in-None c =
    let found = behind_strip (codes "!") c.args.item.now c.strip_prefix.result c.strip_prefix.ensures.cases in
    ap (λ o. unwrap_or o c.args.item.now) (rw c.in-None.is at found)
