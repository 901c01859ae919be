use Rattle.std.proofs.Common.{inl, inr, arith, subst, sym}
use Rattle.std.proofs.lemmas.Bool.{cases_eq}
use Rattle.ac_cloud.specs.Cloud.CloudWorld.{providers_of}
use Rattle.ac_prune.specs.Parts.{IsLinked}
use Rattle.ac_prune.proofs.families.parts.are_linked.Goals as goal

pub loop-ix-preserved : goal.loop-ix-preserved
loop-ix-preserved c = λ p h. elim (cases_eq p c.loop-ix.ix) [
  | inl e ↦ subst (IsLinked (providers_of c.args.cloud.now) c.args.tops.now c.args.parts.now) (sym e) (c.is_linked.ensures c.if-not-is_linked.false)
  | inr e ↦ c.loop-ix.invariant p (omega (arith, h, e))
]
