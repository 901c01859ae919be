use Rattle.std.proofs.Common.{◌≡◌, ◌∙◌, ◌++◌, ℕ, List, length, map, replicate, sym, ap, ap₂, arith, append-nil}
use Rattle.std.specs.Str.Chunks.{utf8_chunks_rest}
use Rattle.ac_report.specs.Names.{shown_byte, shown_name, shown_within}
use Rattle.ac_report.proofs.NameBytes.{next_run, none_left}
use Rattle.ac_report.proofs.names.shown_name.Goals as goal

pub loop-chunk-init : goal.loop-chunk-init
unfolding shown_name
loop-chunk-init c =
    let same : utf8_chunks_rest c.into_iter-chunk-iterator.result ≡ c.args.name.now = ap utf8_chunks_rest c.into_iter-chunk-iterator.ensures.into_iter_gives ∙ c.utf8_chunks-chunk-items.ensures.rest in
    (length c.args.name.now, omega (arith, ap length same), rw c.new-shown.ensures.items (ap (shown_within (length c.args.name.now)) same))

pub loop-chunk-preserved : goal.loop-chunk-preserved
loop-chunk-preserved c =
    let steps = c.in-Some.ensures.steps in
    let made = c.loop-chunk.shown.items in
    let text = c.in_ok-put_text.ensures ∙ ap (λ (t : List ℕ). made ++ map shown_byte t) (c.as_bytes.ensures.value ∙ c.valid.ensures) in
    let marks = c.in_ok-put_marks.ensures ∙ ap₂ (λ (l : List ℕ) (n : ℕ). l ++ replicate n 63) text (ap length c.invalid.ensures) in
    next_run _ _ _ _ steps.0 steps.3.0 steps.3.1 made _ _ steps.1 marks c.loop-chunk.invariant.0 c.loop-chunk.invariant.1 c.loop-chunk.invariant.2

pub returns : goal.returns
returns c =
    let inv = c.loop-chunk.invariant in
    sym (append-nil c.loop-chunk.shown.items) ∙ ap (λ (l : List ℕ). c.loop-chunk.shown.items ++ l) (sym (none_left inv.0 _ c.in-None.ensures.steps.0)) ∙ inv.2
