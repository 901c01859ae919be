use Rattle.std.proofs.Common.{◌≡◌, Bool, true, List, length, slice_index, slice_index_or, ◌∙◌, ap, subst, sym, arith}
use Rattle.std.proofs.lemmas.List.{with_items_is}
use Rattle.ac_prune.proofs.Roots.PartLemmas.{seen_part}
use Rattle.ac_prune.proofs.families.parts.keep_seen.Goals as goal

pub returns : goal.returns
returns c =
    let were = ap length c.deref_mut.ensures.value in
    let marks : c.deref.result.now ≡ c.mark_parts.new.marks =
    c.deref.ensures.value ∙ with_items_is c.in_ok-marks.marks c.mark_parts.new.marks (c.mark_parts.auto.marks ∙ omega (arith, were, c.in_ok-marks.marks.ok)) in
    record {
      count = c.keep_marked.ensures.count;
      kept = λ p j inside among same.
          c.keep_marked.ensures.kept p inside
          (subst (λ (l : List Bool). slice_index_or l (slice_index c.args.parts.now p) true ≡ true) (sym marks)
          (seen_part c.deref_mut.result.now c.mark_parts.new.marks c.args.parts.now c.args.list.now p j c.mark_parts.ensures.count (c.mark_parts.ensures.marked j among) same));
    }
