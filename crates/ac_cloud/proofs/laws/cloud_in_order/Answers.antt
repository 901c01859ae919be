use Rattle.ac_cloud.proofs.InOrder.{cloud_in_order}
use Rattle.ac_cloud.proofs.laws.cloud_in_order.Goals as goal

pub returns : goal.returns
returns c = cloud_in_order
