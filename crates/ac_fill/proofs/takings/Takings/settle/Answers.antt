use Rattle.std.proofs.Common.{◌≡◌, ◌∙◌, ◌<◌, ◌*◌, ℕ, List, [], length, map, slice_index_or, sym, ap, subst, arith, inl, inr}
use Rattle.std.proofs.lemmas.Bool.{cases_lt}
use Rattle.std.proofs.lemmas.List.{length-map}
use Rattle.ac_base.specs.Names.{class_bytes}
use Rattle.ac_cloud.specs.Cloud.CloudWorld.{providers_of}
use Rattle.ac_cloud.proofs.InOrder.{entries_rise}
use Rattle.ac_rules.specs.Room.{IsKnown}
use Rattle.ac_fill.specs.Shown.{count_in, taken_in, texts_in, with_taken, IsSame}
use Rattle.ac_fill.specs.declared.takings.Takings.{Takings}
use Rattle.ac_fill.proofs.Taken.{all_settled, known_in, none_taken, text_at}
use Rattle.ac_fill.proofs.takings.Takings.settle.Goals as goal

same_texts : (old new : Takings) → IsSame old new → texts_in new ≡ texts_in old
same_texts old new same = ap (map (λ v. class_bytes v.now)) same.classes

pub settle_class-requires-clause-class : goal.settle_class-requires-clause-class
settle_class-requires-clause-class c =
    let t = c.loop-k.self in
    let k = c.loop-k.k in
    let inside : k < length t.classes.items = omega (arith, c.loop-k-test.true, c.len-k-end.ensures, ap length c.loop-k.invariant.same.classes) in
    subst (IsKnown (texts_in t)) (sym (text_at t k c.index-class.result.now inside c.index-class.ensures)) (known_in (texts_in t) k (omega (arith, inside, length-map t.classes.items (λ v. class_bytes v.now))))

pub loop-k-preserved : goal.loop-k-preserved
loop-k-preserved c =
    let start = c.args.self.now in
    let t = c.loop-k.self in
    let before = c.loop-k.invariant in
    let inside : c.loop-k.k < length t.classes.items = omega (arith, c.loop-k-test.true, c.len-k-end.ensures, ap length before.same.classes) in
    record {
      world = c.settle_class.ensures.world ∙ before.world;
      gone = λ k p less count. let within : p < count_in t = omega (arith, count, before.same.count) in elim (cases_lt k c.loop-k.k) [
        | inl earlier ↦ let zero = before.gone k p earlier count in let kept = c.settle_class.ensures.less p (slice_index_or (texts_in start) k []) within in omega (arith, zero, kept)
        | inr not_earlier ↦
            let is : c.loop-k.k ≡ k = omega (arith, less, not_earlier) in
            let text : class_bytes c.index-class.result.now.now ≡ slice_index_or (texts_in start) k [] =
            text_at t c.loop-k.k c.index-class.result.now inside c.index-class.ensures
            ∙ (ap (λ (l : List (List ℕ)). slice_index_or l c.loop-k.k []) (same_texts start t before.same) ∙ ap (λ (j : ℕ). slice_index_or (texts_in start) j []) is) in
            ap (taken_in c.settle_class.new.self p) (sym text) ∙ c.settle_class.ensures.gone p within
      ];
      fits = c.settle_class.ensures.fits;
      same = record {
        query = c.settle_class.ensures.same.query ∙ before.same.query;
        classes = c.settle_class.ensures.same.classes ∙ before.same.classes;
        count = c.settle_class.ensures.same.count ∙ before.same.count;
      };
      sizes = c.settle_class.ensures.sizes ∙ before.sizes;
      root_lists = c.settle_class.ensures.root_lists ∙ before.root_lists;
    }

pub returns-clause-providers : goal.returns-clause-providers
unfolding with_taken
returns-clause-providers c =
    let start = c.args.self.now in
    let t = c.loop-k.self in
    let end = c.loop-k.invariant in
    let texts = same_texts start t end.same in
    let many : length (texts_in t) ≡ length t.classes.items = length-map t.classes.items (λ v. class_bytes v.now) in
    let last : length (texts_in t) ≡ c.len-k-end.result = omega (arith, many, ap length end.same.classes, start.classes.ok, c.len-k-end.ensures) in
    sym (all_settled (providers_of c.loop-k.cloud) (taken_in t) (entries_rise c.loop-k.cloud)
    (λ p d inside.
    none_taken t.amounts.items (texts_in t) t.count (t.sized ∙ ap (λ (n : ℕ). t.count * n) (sym many))
    (λ k q less within. ap (λ (l : List (List ℕ)). taken_in t q (slice_index_or l k [])) texts ∙ end.gone k q (omega (arith, less, last, c.loop-k-test.false)) (omega (arith, within, end.same.count)))
    p d (omega (arith, inside, end.fits.count))))
    ∙ end.world
