use Rattle.std.proofs.Common.{◌∙◌, ◌<◌, length, sym, ap, subst}
use Rattle.std.specs.List.{All}
use Rattle.std.proofs.lemmas.List.Elements.{All-from_recursion}
use Rattle.ac_query.specs.Shown.Queries.{asked_of}
use Rattle.ac_query.specs.Tokens.{ids_of}
use Rattle.ac_cloud.specs.Cloud.CloudWorld.{providers_of}
use Rattle.ac_run.specs.Answer.{verdict_on}
use Rattle.ac_run.specs.Run.{Delivers}
use Rattle.ac_run.proofs.Assignments.{located}
use Rattle.ac_run.proofs.answer.write_verdict.Goals as goal

pub write_judged-requires : goal.write_judged-requires
write_judged-requires g c =
    let all = providers_of c.args.cloud.now in
    let found = located all (ids_of c.args.token.now) c.in-Ok-Some.list.items (rw c.in-Ok-Some.field-0-is at c.in-Ok-Some.ensures) in
    record {
      slots = ap length c.deref.ensures.value ∙ found.0 ∙ c.requires;
      providers = subst (All (λ p. p < length all)) (sym c.deref.ensures.value) (All-from_recursion (λ p. p < length all) c.in-Ok-Some.list.items found.1);
    }

pub returns-in-Ok-None : goal.returns-in-Ok-None
returns-in-Ok-None g c =
    subst
    (λ places. Delivers (verdict_on (providers_of c.args.cloud.now) c.args.detail (asked_of c.args.query.now) places) ⊥ c.push_text.result (g.W.Sink.taken c.args.out.now) (g.W.Sink.taken c.push_text.new.out) (g.W.Sink.failures c.args.out.now) (g.W.Sink.failures c.push_text.new.out))
    (rw c.in-Ok-None.field-0-is at c.in-Ok-None.ensures) c.push_text.ensures
