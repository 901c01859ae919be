use Rattle.std.proofs.Common.{◌∙◌, ◌∷◌, [], List, ℕ, map, string_bytes, ap, arith}
use Rattle.std.specs.Borrow.{Bor}
use Rattle.ac_report.proofs.Pages.Writing.{wrote_none}
use Rattle.ac_run.specs.Compared.{is_among, lines_there, status_of}
use Rattle.ac_run.proofs.Comparing.Telling.{status_both, stops_next, there_next, writes_next}
use Rattle.ac_run.proofs.outputs.compared.told.write_there.Goals as goal

pub returns-in_err-more-clause-writes : goal.returns-in_err-more-clause-writes
returns-in_err-more-clause-writes g c =
    let shown = map (λ (t : Bor (List ℕ)). t.now) in
    let ours = is_among (map string_bytes c.args.met.now.keys) in
    let text = c.in-Some.text.now.now in
    let rest = shown c.next.new.self in
    let next = ap (λ ts. lines_there ours (shown ts)) c.in-Some.ensures.steps ∙ there_next ours text rest in
    c.loop-text.invariant.writes _ _
    (stops_next (lines_there ours (text ∷ [])) (lines_there ours rest) next (λ never. never) c.in_err-more.ensures.writes c.from_residual.ensures.1)

pub loop-text-preserved : goal.loop-text-preserved
loop-text-preserved g c =
    let shown = map (λ (t : Bor (List ℕ)). t.now) in
    let ours = is_among (map string_bytes c.args.met.now.keys) in
    let text = c.in-Some.text.now.now in
    let rest = shown c.next.new.self in
    let next = ap (λ ts. lines_there ours (shown ts)) c.in-Some.ensures.steps ∙ there_next ours text rest in
    record {
      status =
          let both = ap status_of next ∙ status_both (lines_there ours (text ∷ [])) (lines_there ours rest) in
          omega (arith, both, c.in_ok-more.ensures.status, c.larger-status.ensures, c.loop-text.invariant.status);
      writes = λ r new h. c.loop-text.invariant.writes r new (writes_next (lines_there ours (text ∷ [])) (lines_there ours rest) next (λ never. never) c.in_ok-more.ensures.writes h);
    }

pub returns-clause-writes : goal.returns-clause-writes
returns-clause-writes g c =
    let shown = map (λ (t : Bor (List ℕ)). t.now) in
    let ours = is_among (map string_bytes c.args.met.now.keys) in
    c.loop-text.invariant.writes _ _ (wrote_none _ _ _ _ (ap (λ ts. lines_there ours (shown ts)) c.in-None.ensures.steps.0))
