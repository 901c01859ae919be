use Rattle.std.proofs.Common.{◌≡◌, ◌∙◌, ◌&&◌, ℕ, None, ap, arith, length, map, slice_index_or, sym}
use Rattle.std.specs.List.{range_with_len}
use Rattle.std.specs.Option.{is_none}
use Rattle.std.proofs.lemmas.Grind.{common_steps}
use Rattle.ac_prune.proofs.Search.OpenLemmas.{map_range_more}
use Rattle.ac_find.specs.Shown.Unheld.{lacks_traits}
use Rattle.ac_find.proofs.unheld.of_roots.open_roots.Goals as goal

pub loop-r-preserved : goal.loop-r-preserved
loop-r-preserved c =
    let open_at = λ (r : ℕ). lacks_traits (slice_index_or c.args.lacks.now r None) && is_none (slice_index_or c.args.found.now r None) in
    let here : open_at c.loop-r.r ≡ c.is_open.result = sym c.is_open.ensures in
    rw (map_range_more open_at c.loop-r.r) (grind (arith, common_steps, here))

pub returns : goal.returns
returns c =
    let open_at = λ (r : ℕ). lacks_traits (slice_index_or c.args.lacks.now r None) && is_none (slice_index_or c.args.found.now r None) in
    let done : c.loop-r.r ≡ length c.args.found.now = omega (arith, c.loop-r-test.false, c.loop-r.auto.r-end) in
    c.loop-r.invariant ∙ ap (λ (n : ℕ). map open_at (range_with_len 0 n)) done
