use Rattle.std.proofs.Common.{refl}
use Rattle.std.specs.Map.Iter.{deref}
use Rattle.std.proofs.lemmas.Map.Iter.{rest_more}
use Rattle.ac_base.specs.Names.{suffix_bytes}
use Rattle.ac_query.proofs.Values.NameSets.{adds_copy}
use Rattle.ac_query.proofs.reading.check.add_suffixes.Goals as goal

pub loop-suffix-preserved : goal.loop-suffix-preserved
loop-suffix-preserved c =
    adds_copy suffix_bytes _ (λ a b. refl) c.loop-suffix.listed.keys c.insert.new.self.keys c.loop-suffix.suffix-iterator c.next.new.self c.in-Some.suffix.now c.in_ok-copy.copy _
    (rest_more deref c.loop-suffix.suffix-iterator c.next.new.self c.next.result c.in-Some.suffix c.in-Some.is c.next.ensures.steps)
    c.in_ok-insert.ensures.keys c.in_ok-copy.ensures c.loop-suffix.invariant
