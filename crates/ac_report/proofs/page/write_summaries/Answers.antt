use Rattle.std.proofs.Common.{◌∙◌, ◌++◌, [], ◌∷◌, ap, length, sym, arith}
use Rattle.std.specs.List.{filter}
use Rattle.serde_json.specs.Written.{comma_if}
use Rattle.ac_cloud.specs.Cloud.CloudWorld.{providers_of}
use Rattle.ac_cloud.proofs.Ranges.{range_end, range_more}
use Rattle.ac_report.specs.Marks.{is_summarized, summaries}
use Rattle.ac_report.specs.Texts.{shown_providers, summary_piece}
use Rattle.ac_report.proofs.Pages.Writing.{stopped, wrote_none, wrote_on}
use Rattle.ac_report.proofs.page.write_summaries.Goals as goal

pub loop-ix-preserved-then-not-is_marked : goal.loop-ix-preserved-then-not-is_marked
loop-ix-preserved-then-not-is_marked g c = λ lists m r new h.
    c.loop-ix.invariant lists m r new (rw (range_more (length (providers_of c.args.cloud.now)) c.loop-ix.ix (omega (arith, c.len-ix-end.ensures)), sym (c.is_marked.ensures lists m) ∙ c.if-not-is_marked.true) h)

pub returns-in_err-write_summary : goal.returns-in_err-write_summary
returns-in_err-write_summary g c = λ lists m.
    c.loop-ix.invariant lists m _ _ (rw (range_more (length (providers_of c.args.cloud.now)) c.loop-ix.ix (omega (arith, c.len-ix-end.ensures)), sym (c.is_marked.ensures lists m) ∙ c.if-not-is_marked.false)
    (stopped (λ t. t) ((comma_if c.loop-ix.later ++ summary_piece (shown_providers c.args.traits (providers_of c.args.cloud.now)) c.loop-ix.ix) ∷ []) _ c.in_err-write_summary.ensures (λ never. never) c.from_residual.ensures.1))

pub loop-ix-preserved : goal.loop-ix-preserved
loop-ix-preserved g c = λ lists m r new h.
    c.loop-ix.invariant lists m r new (rw (range_more (length (providers_of c.args.cloud.now)) c.loop-ix.ix (omega (arith, c.len-ix-end.ensures)), sym (c.is_marked.ensures lists m) ∙ c.if-not-is_marked.false)
    (wrote_on (λ t. t) ((comma_if c.loop-ix.later ++ summary_piece (shown_providers c.args.traits (providers_of c.args.cloud.now)) c.loop-ix.ix) ∷ []) c.in_ok-write_summary.ensures h))

pub returns : goal.returns
returns g c = λ lists m.
    let all = providers_of c.args.cloud.now in
    c.loop-ix.invariant lists m _ _ (wrote_none _ _ _ _ (ap (λ ps. summaries (shown_providers c.args.traits all) c.loop-ix.later (filter (is_summarized all lists) ps)) (range_end (length all) c.loop-ix.ix (omega (arith, c.len-ix-end.ensures)))))
