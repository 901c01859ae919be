use Rattle.std.proofs.Common.{arith}
use Rattle.ac_base.specs.Names.{class_bytes}
use Rattle.ac_query.specs.Asked.{slots_of}
use Rattle.ac_query.specs.Shown.Queries.{asked_of}
use Rattle.ac_rules.proofs.EachSlot.TogetherLemmas.{sum_skip}
use Rattle.ac_rules.proofs.assignment.Assignment.sum_on.Goals as goal

pub loop-s-preserved-then-provider-ix : goal.loop-s-preserved-then-provider-ix
loop-s-preserved-then-provider-ix c = record {
  within = omega arith;
  rest = sum_skip (slots_of (asked_of c.args.self.now.query.now)) c.args.self.now.list.now c.loop-s.s c.args.ix c.loop-s.sum _ (class_bytes c.args.class.now)
      (omega arith) (omega arith) (omega arith) c.loop-s.invariant.rest;
  small = omega arith;
}
