use Rattle.ac_cloud.specs.Cloud.Places.{ArePlaced}
use Rattle.ac_cloud.proofs.cloud.provider_index.list_by_turns.Given as goal

abbrev pub invariant-loop-place : goal.invariant-loop-place
invariant-loop-place l = ArePlaced l.ids l.listed.items

abbrev pub invariant-loop-place-2 : goal.invariant-loop-place-2
invariant-loop-place-2 l = ArePlaced l.ids l.listed.items
