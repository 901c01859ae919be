use Rattle.std.proofs.Common.{[], ◌∷◌, false, refl}
use Rattle.ac_query.specs.Shown.Queries.{asked_of}
use Rattle.ac_rules.specs.Pages.{cut}
use Rattle.ac_cloud.specs.Cloud.CloudWorld.{providers_of}
use Rattle.ac_report.specs.Marks.{requests, summaries}
use Rattle.ac_report.specs.Texts.{head_text, middle_text, shown_providers, summarized, tail_text}
use Rattle.ac_report.proofs.Pages.Paging.{read_all}
use Rattle.ac_report.proofs.Pages.Writing.{stopped, wrote_none, wrote_on}
use Rattle.ac_report.proofs.page.write_parts.Goals as goal

pub returns-in_err-push_piece-clause-writes : goal.returns-in_err-push_piece-clause-writes
unfolding head_text
returns-in_err-push_piece-clause-writes g c =
    stopped (λ t. t) (head_text ∷ []) _ (c.in_err-push_piece.ensures (λ t. t) _ refl) (λ never. absurd never) c.from_residual.ensures.1

pub returns-in_err-count-clause-writes : goal.returns-in_err-count-clause-writes
unfolding head_text
returns-in_err-count-clause-writes g c =
    let all = providers_of c.args.cloud.now in
    let asked = asked_of c.args.query.now in
    let lists = cut asked.limit (g.S.Source.left c.args.source.now) in
    wrote_on (λ t. t) (head_text ∷ []) (c.in_ok-push_piece.ensures (λ t. t) _ refl)
    (stopped (λ t. t) (requests all asked false lists) _ c.in_err-count.ensures.writes (λ may. may) c.from_residual-in_err-count.ensures.1)

pub returns-in_err-push_piece-2-clause-writes : goal.returns-in_err-push_piece-2-clause-writes
unfolding head_text middle_text
returns-in_err-push_piece-2-clause-writes g c =
    let all = providers_of c.args.cloud.now in
    let asked = asked_of c.args.query.now in
    let lists = cut asked.limit (g.S.Source.left c.args.source.now) in
    wrote_on (λ t. t) (head_text ∷ []) (c.in_ok-push_piece.ensures (λ t. t) _ refl)
    (wrote_on (λ t. t) (requests all asked false lists) c.in_ok-count.ensures.writes
    (stopped (λ t. t) (middle_text ∷ []) _ (c.in_err-push_piece-2.ensures (λ t. t) _ refl) (λ never. absurd never) c.from_residual-in_err-push_piece-2.ensures.1))

pub returns-in_err-write_summaries-clause-writes : goal.returns-in_err-write_summaries-clause-writes
unfolding head_text middle_text
returns-in_err-write_summaries-clause-writes g c =
    let all = providers_of c.args.cloud.now in
    let asked = asked_of c.args.query.now in
    let lists = cut asked.limit (g.S.Source.left c.args.source.now) in
    wrote_on (λ t. t) (head_text ∷ []) (c.in_ok-push_piece.ensures (λ t. t) _ refl)
    (wrote_on (λ t. t) (requests all asked false lists) c.in_ok-count.ensures.writes
    (wrote_on (λ t. t) (middle_text ∷ []) (c.in_ok-push_piece-2.ensures (λ t. t) _ refl)
    (stopped (λ t. t) (summaries (shown_providers c.args.traits all) false (summarized all lists)) _
    (c.in_err-write_summaries.ensures lists c.in_ok-count.ensures.marks) (λ never. absurd never) c.from_residual-in_err-write_summaries.ensures.1)))

pub returns-in_err-push_piece-3-clause-writes : goal.returns-in_err-push_piece-3-clause-writes
unfolding head_text middle_text tail_text
returns-in_err-push_piece-3-clause-writes g c =
    let all = providers_of c.args.cloud.now in
    let asked = asked_of c.args.query.now in
    let lists = cut asked.limit (g.S.Source.left c.args.source.now) in
    wrote_on (λ t. t) (head_text ∷ []) (c.in_ok-push_piece.ensures (λ t. t) _ refl)
    (wrote_on (λ t. t) (requests all asked false lists) c.in_ok-count.ensures.writes
    (wrote_on (λ t. t) (middle_text ∷ []) (c.in_ok-push_piece-2.ensures (λ t. t) _ refl)
    (wrote_on (λ t. t) (summaries (shown_providers c.args.traits all) false (summarized all lists))
    (c.in_ok-write_summaries.ensures lists c.in_ok-count.ensures.marks)
    (stopped (λ t. t) (tail_text ∷ []) _ (c.in_err-push_piece-3.ensures (λ t. t) _ refl) (λ never. absurd never) c.from_residual-in_err-push_piece-3.ensures.1))))

pub returns-clause-writes : goal.returns-clause-writes
unfolding head_text middle_text tail_text
returns-clause-writes g c =
    let all = providers_of c.args.cloud.now in
    let asked = asked_of c.args.query.now in
    let lists = cut asked.limit (g.S.Source.left c.args.source.now) in
    wrote_on (λ t. t) (head_text ∷ []) (c.in_ok-push_piece.ensures (λ t. t) _ refl)
    (wrote_on (λ t. t) (requests all asked false lists) c.in_ok-count.ensures.writes
    (wrote_on (λ t. t) (middle_text ∷ []) (c.in_ok-push_piece-2.ensures (λ t. t) _ refl)
    (wrote_on (λ t. t) (summaries (shown_providers c.args.traits all) false (summarized all lists))
    (c.in_ok-write_summaries.ensures lists c.in_ok-count.ensures.marks)
    (wrote_on (λ t. t) (tail_text ∷ []) (c.in_ok-push_piece-3.ensures (λ t. t) _ refl) (wrote_none _ [] _ _ refl)))))

pub returns-in_err-push_piece-2-clause-reads : goal.returns-in_err-push_piece-2-clause-reads
returns-in_err-push_piece-2-clause-reads g c = read_all _ _ _ _ _ _ c.from_residual-in_err-push_piece-2.ensures.1 c.in_ok-count.ensures.reads.left

pub returns-in_err-write_summaries-clause-reads : goal.returns-in_err-write_summaries-clause-reads
returns-in_err-write_summaries-clause-reads g c = read_all _ _ _ _ _ _ c.from_residual-in_err-write_summaries.ensures.1 c.in_ok-count.ensures.reads.left

pub returns-in_err-push_piece-3-clause-reads : goal.returns-in_err-push_piece-3-clause-reads
returns-in_err-push_piece-3-clause-reads g c = read_all _ _ _ _ _ _ c.from_residual-in_err-push_piece-3.ensures.1 c.in_ok-count.ensures.reads.left
