use Rattle.std.proofs.Common.{◌∙◌, ◌++◌, ap, append-nil, arith, codes, length, map, sym}
use Rattle.std.specs.Map.Iter.{deref}
use Rattle.std.specs.String.{string_bytes}
use Rattle.std.proofs.lemmas.Map.Iter.{rest_all, rest_more}
use Rattle.ac_base.specs.Names.{suffix_bytes}
use Rattle.ac_query.specs.Shown.{suffixes_shown}
use Rattle.ac_find.specs.Broken.{subtree_text}
use Rattle.ac_find.proofs.DetailsWritten.{all_parts, part_taken, parts_from}
use Rattle.ac_find.proofs.broken.hosts.subtree_text.Goals as goal

pub loop-place-init : goal.loop-place-init
loop-place-init c = record {
  fits = let same = ap length c.iter-suffix-items.ensures.rest in omega (arith, same);
  parts = rw (c.in_ok-text.ensures.ok, c.iter-suffix-items.ensures.rest) (ap (λ l. codes "same_subtree=" ++ l) (all_parts (suffixes_shown c.args.suffixes.now)));
}

pub loop-place-preserved : goal.loop-place-preserved
loop-place-preserved c =
    let more = rest_more deref c.loop-place.suffix-iterator c.next.new.self c.next.result c.in-Some.suffix c.in-Some.is c.next.ensures.steps in
    record {
      fits = let one = ap length more in omega (arith, c.loop-place.invariant.fits);
      parts = part_taken _ _ _ c.loop-place.place (suffix_bytes c.in-Some.suffix.now) _ _ (ap (map suffix_bytes) more)
          (c.in_ok-push_part.ensures ∙ ap (λ name. string_bytes c.loop-place.text ++ Rattle.ac_find.specs.Details.part_text c.loop-place.place name) c.text.ensures) c.loop-place.invariant.parts;
    }

pub returns : goal.returns
unfolding subtree_text
returns c =
    let none = rest_all deref c.loop-place.suffix-iterator c.next.new.self c.next.result c.in-None.is c.next.ensures.steps in
    sym (append-nil _) ∙ (sym (ap (λ rest. string_bytes c.loop-place.text ++ parts_from c.loop-place.place (map suffix_bytes rest)) none) ∙ c.loop-place.invariant.parts)
