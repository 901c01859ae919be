use Rattle.std.proofs.Common.{◌≡◌, ◌∙◌, ◌<◌, ◌+◌, ◌*◌, ◌==◌, ◌&&◌, ℕ, List, length, set, slice_index, sym, ap, arith, inl, inr}
use Rattle.std.specs.Str.{bytes_eq}
use Rattle.std.proofs.lemmas.Bool.{cases_Bool}
use Rattle.std.proofs.lemmas.Grind.{get_or_default_zero}
use Rattle.ac_base.specs.Names.{class_bytes}
use Rattle.ac_cloud.specs.Amounts.{with_amounts}
use Rattle.ac_cloud.specs.Cloud.CloudWorld.{providers_of}
use Rattle.ac_cloud.specs.World.{Provider, provider_at, used_of}
use Rattle.ac_cloud.proofs.Amounts.{amounts_size}
use Rattle.ac_cloud.proofs.InOrder.{entries_rise}
use Rattle.ac_rules.specs.Room.{class_number}
use Rattle.ac_fill.specs.Shown.{taken_in, texts_in, with_taken}
use Rattle.ac_fill.proofs.Taken.{set_one, settled_one, used_other}
use Rattle.ac_fill.proofs.takings.Takings.settle_one.Goals as goal

pub returns-then-taken-gt0-clause-taken : goal.returns-then-taken-gt0-clause-taken
returns-then-taken-gt0-clause-taken c = λ p d inside.
    let t = c.args.self.now in
    set_one t.amounts.items (texts_in t) t.count c.args.ix p c.place-place.result 0 (class_bytes c.args.class.now) d c.requires.provider inside c.requires.class c.place-place.ensures.place c.place-place.ensures.inside

pub returns-then-taken-gt0-clause-world : goal.returns-then-taken-gt0-clause-world
unfolding with_taken
returns-then-taken-gt0-clause-world c =
    let t = c.args.self.now in
    let all = providers_of c.args.cloud.now in
    let class = class_bytes c.args.class.now in
    let new : ℕ → List ℕ → ℕ = λ p d. slice_index (set t.amounts.items c.place-place.result 0) (class_number (texts_in t) d * t.count + p) in
    let taken : c.index-taken.result.now ≡ taken_in t c.args.ix class =
    c.index-taken.ensures
    ∙ (get_or_default_zero t.amounts.items c.place-place.result c.index-taken.result.now c.place-place.ensures.inside ∙ ap (slice_index t.amounts.items) c.place-place.ensures.place) in
    ap (λ (ps : List Provider). with_amounts (λ p d had. had.used + new p d) ps) c.set_used.ensures.providers
    ∙ settled_one all (taken_in t) new c.args.ix (c.used.result + c.index-taken.result.now) class (entries_rise c.args.cloud.now) (omega (arith, c.used.ensures, taken))
    (λ p d inside. set_one t.amounts.items (texts_in t) t.count c.args.ix p c.place-place.result 0 class d c.requires.provider (omega (arith, inside, c.requires.fits.count)) c.requires.class c.place-place.ensures.place c.place-place.ensures.inside)

pub returns-then-taken-gt0-clause-fits : goal.returns-then-taken-gt0-clause-fits
returns-then-taken-gt0-clause-fits c =
    let t = c.args.self.now in
    let all = providers_of c.args.cloud.now in
    let class = class_bytes c.args.class.now in
    let v = c.used.result + c.index-taken.result.now in
    let size : length (providers_of c.set_used.new.self) ≡ length all = ap length c.set_used.ensures.providers ∙ amounts_size _ all in
    record {
      count = c.requires.fits.count ∙ sym size;
      small = λ q d inside some.
          let within : q < length all = omega (arith, inside, size) in
          let now = set_one t.amounts.items (texts_in t) t.count c.args.ix q c.place-place.result 0 class d c.requires.provider (omega (arith, within, c.requires.fits.count)) c.requires.class c.place-place.ensures.place c.place-place.ensures.inside in
          elim (cases_Bool ((q == c.args.ix) && bytes_eq class d)) [
            | inl met ↦ let gone = rw met at now in absurd (omega (arith, gone, some))
            | inr other ↦
                let kept = rw other at now in
                let uses = ap (λ (ps : List Provider). used_of (provider_at ps q) d) c.set_used.ensures.providers ∙ used_other all c.args.ix v q class d other in
                omega (arith, kept, uses, c.requires.fits.small q d within (omega (arith, kept, some)))
          ];
    }
