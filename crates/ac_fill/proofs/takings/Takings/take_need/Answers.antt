use Rattle.std.proofs.Common.{◌≡◌, ◌∙◌, ◌+◌, ◌*◌, ℕ, List, ap, ap₂, arith}
use Rattle.std.proofs.lemmas.Grind.{get_or_default_zero}
use Rattle.ac_query.specs.Shown.Groups.{need_entry}
use Rattle.ac_rules.specs.Room.{class_number}
use Rattle.ac_fill.specs.Shown.{texts_in}
use Rattle.ac_fill.proofs.Taken.{taken_one}
use Rattle.ac_fill.proofs.takings.Takings.take_need.Goals as goal

pub returns-clause-taken : goal.returns-clause-taken
returns-clause-taken c = λ p class inside.
    let t = c.args.self.now in
    let need = need_entry c.args.need.now in
    let product : c.from.result * c.from-2.result ≡ need.1 * c.args.times = ap₂ (λ (a b : ℕ). a * b) (c.from.ensures ∙ c.amount.ensures.value) c.from-2.ensures in
    taken_one t.amounts.items (texts_in t) c.args.times t.count c.args.ix p c.place-place.result (c.index_mut.result.now + c.from.result * c.from-2.result) need class c.requires.provider inside c.requires.class
    (c.place-place.ensures.place ∙ ap (λ (k : List ℕ). class_number (texts_in t) k * t.count + c.args.ix) c.class.ensures) c.place-place.ensures.inside
    (omega (arith, c.index_mut.ensures.value, get_or_default_zero t.amounts.items c.place-place.result c.index_mut.result.now c.place-place.ensures.inside, product))
