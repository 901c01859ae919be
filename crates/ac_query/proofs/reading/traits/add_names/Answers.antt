use Rattle.std.proofs.Common.{refl}
use Rattle.std.proofs.lemmas.Map.Iter.{rest_more}
use Rattle.ac_base.specs.Names.{trait_bytes}
use Rattle.ac_query.proofs.Values.NameSets.{adds_one}
use Rattle.ac_query.proofs.reading.traits.add_names.Goals as goal

pub loop-name-preserved : goal.loop-name-preserved
loop-name-preserved c =
    adds_one trait_bytes _ (λ a b. refl) c.loop-name.names.keys c.insert.new.self.keys c.loop-name.name-iterator c.next.new.self c.in-Some.name _
    (rest_more (λ x. x) c.loop-name.name-iterator c.next.new.self c.next.result c.in-Some.name c.in-Some.is c.next.ensures.steps)
    c.in_ok-insert.ensures.keys c.loop-name.invariant
