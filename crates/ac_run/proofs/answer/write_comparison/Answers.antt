use Rattle.std.proofs.Common.{◌≡◌, ◌∙◌, ◌≤◌, ℕ, List, Option, Result, Ok, Err, refl, ap, subst}
use Rattle.std.specs.Prelude.{IfOk}
use Rattle.std.specs.Io.KnownBytes.{Appends}
use Rattle.ac_base.specs.Devices.{TakesPart}
use Rattle.ac_cloud.specs.Cloud.CloudWorld.{providers_of}
use Rattle.ac_cloud.specs.World.{Provider}
use Rattle.ac_fill.proofs.Ordered.{all_rest}
use Rattle.ac_query.specs.Asked.{Asked}
use Rattle.ac_query.specs.Shown.Queries.{asked_of}
use Rattle.ac_report.specs.Outcomes.{Writes}
use Rattle.ac_report.specs.Texts.{joined}
use Rattle.ac_report.specs.declared.fault.PageFault.{PageFault}
use Rattle.ac_rules.specs.Pages.{candidates}
use Rattle.ac_run.specs.Answer.{comparison}
use Rattle.ac_run.specs.Compared.{told_lines, told_status}
use Rattle.ac_run.specs.Compared.Answers.{texts_in}
use Rattle.ac_run.specs.Run.{Delivers}
use Rattle.ac_run.proofs.answer.write_comparison.Goals as goal

module _ (all : List Provider) (asked : Asked) (lists texts : List (List ℕ)) (same : lists ≡ candidates all asked) where
  text : joined (told_lines all asked lists texts) ≡ (comparison all asked texts).output
  text = ap (λ l. joined (told_lines all asked l texts)) same

  delivered : {S may first_may : Type 0} {taken : S → Option (List ℕ)} {fails : S → ℕ} {a b : S} (r : Result ℕ PageFault)
      → Writes {X = ℕ} taken fails first_may a b r (joined (told_lines all asked lists texts)) (λ t. t) (told_lines all asked lists texts)
      → IfOk r (λ s. s ≡ told_status all asked lists texts) → IfOk r (λ s. s ≤ 1) → (first_may → may) → Delivers (comparison all asked texts) may r (taken a) (taken b) (fails a) (fails b)
  delivered {taken = taken} {a = a} {b = b} (Ok s) wrote status few so = record {
    few = few;
    ok = record { line = refl; status = status ∙ ap (λ l. told_status all asked l texts) same; output = subst (Appends (taken a) (taken b)) text wrote.ok };
    part = tt;
    failed = wrote.failed;
    stopped = λ e. so (wrote.stopped e).0;
    failures = wrote.failures;
  }
  delivered {taken = taken} {a = a} {b = b} (Err e) wrote status few so = record {
    few = tt;
    ok = tt;
    part = subst (TakesPart (taken a) (taken b)) text wrote.part;
    failed = wrote.failed;
    stopped = λ e. so (wrote.stopped e).0;
    failures = wrote.failures;
  }

pub returns : goal.returns
returns g c =
    let all = providers_of c.args.cloud.now in
    let asked = asked_of c.args.query.now in
    delivered all asked _ (texts_in c.args.answer.now) (c.in_ok-source.ensures.left ∙ all_rest all asked) c.write_compared.result c.write_compared.ensures.writes
    c.write_compared.ensures.status c.write_compared.ensures.few c.in_ok-source.ensures.stops
