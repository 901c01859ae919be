use Rattle.ac_cloud.proofs.Rising.{absent_place, found_value}
use Rattle.ac_cloud.proofs.cloud.provider_index.Ids.find.Goals as goal

pub returns-clause-absent : goal.returns-clause-absent
returns-clause-absent c =
    rw c.ok.ensures.value (absent_place _ _ _ c.args.self.now.rising (rw c.deref.ensures.value at c.binary_search.ensures.position))

pub returns-clause-value : goal.returns-clause-value
returns-clause-value c =
    let position = rw c.deref.ensures.value at c.binary_search.ensures.position in
    rw c.ok.ensures.value
    (found_value c.args.self.now.ids.items c.args.id c.binary_search.result c.args.self.now.rising position)
