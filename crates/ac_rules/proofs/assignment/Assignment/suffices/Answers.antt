use Rattle.std.proofs.Common.{◌∙◌, ap, arith}
use Rattle.ac_base.specs.Names.{class_bytes}
use Rattle.ac_query.specs.Asked.{slots_of}
use Rattle.ac_query.specs.Shown.Queries.{asked_of}
use Rattle.ac_rules.specs.Room.{less}
use Rattle.ac_rules.specs.Together.{amount_of}
use Rattle.ac_rules.proofs.EachSlot.TogetherLemmas.{room_skip, room_take}
use Rattle.ac_rules.proofs.assignment.Assignment.suffices.Goals as goal

pub loop-s-preserved-then-provider-ix : goal.loop-s-preserved-then-provider-ix
loop-s-preserved-then-provider-ix c = record {
  within = omega arith;
  rest = room_skip (slots_of (asked_of c.args.self.now.query.now)) c.args.self.now.list.now c.loop-s.s c.args.ix c.loop-s.left (class_bytes c.args.class.now) _
      (omega arith) (omega arith) (omega arith) c.loop-s.invariant.rest;
}

pub loop-s-preserved : goal.loop-s-preserved
loop-s-preserved c =
    let class = class_bytes c.args.class.now in record {
      within = omega arith;
      rest = room_take (slots_of (asked_of c.args.self.now.query.now)) c.args.self.now.list.now c.loop-s.s c.args.ix c.loop-s.left
          c.in-Some.rest class _ (omega arith) (omega arith) (omega arith)
          (c.in-Some.ensures ∙ ap (λ needs. less c.loop-s.left (amount_of needs class)) c.needs_at.ensures) c.loop-s.invariant.rest;
    }
