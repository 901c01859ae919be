use Rattle.ac_cloud.proofs.cloud.ancestry.is_placed.Goals as goal

pub returns-then-follows_sibling : goal.returns-then-follows_sibling
returns-then-follows_sibling c = λ yes.
    let turn = c.has_turn.ensures c.if-not-has_turn.false in
    record {
      inside = turn.0;
      here = turn.1;
      leaves = turn.2;
      parent = c.is_within_parent.ensures c.if-not-is_within_parent.false;
      sibling = c.follows_sibling.ensures c.if-follows_sibling.true;
      child = c.starts_well.ensures.child yes;
      root = c.starts_well.ensures.root yes;
    }
