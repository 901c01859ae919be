use Rattle.std.proofs.Common.{◌≡◌, ◌∙◌, ◌-◌, ◌/◌, arith, sym, ap, ap₂, inl, inr, min, nat_lt, ℕ}
use Rattle.ac_base.specs.Quantities.{capacity}
use Rattle.ac_fill.proofs.Times.{fits_always, fits_often, room_always, room_never, room_often}
use Rattle.ac_fill.proofs.takings.times_in.Goals as goal

pub returns-then-sum-from-clause-room : goal.returns-then-sum-from-clause-room
returns-then-sum-from-clause-room c = λ k below. room_never c.args.inventory.now c.args.used c.args.sum k (inl (omega (arith, c.if-sum-from.true, c.from.ensures, c.max_unit.ensures)))

pub returns-then-used-capacity-clause-room : goal.returns-then-used-capacity-clause-room
returns-then-used-capacity-clause-room c = λ k below. room_never c.args.inventory.now c.args.used c.args.sum k (inr (omega (arith, c.if-used-capacity.true, c.from-capacity.ensures, c.capacity.ensures.value)))

pub returns-then-sum-eq0-clause-room : goal.returns-then-sum-eq0-clause-room
returns-then-sum-eq0-clause-room c = λ k below. room_always c.args.inventory.now c.args.used c.args.sum k c.if-sum-eq0.true (omega (arith, c.if-used-capacity.false, c.from-capacity.ensures, c.capacity.ensures.value)) below

pub returns-then-sum-eq0-clause-small : goal.returns-then-sum-eq0-clause-small
returns-then-sum-eq0-clause-small c = λ n some often.
    fits_always c.args.used c.args.sum n c.from-capacity.result c.if-sum-eq0.true (omega (arith, c.if-used-capacity.false)) (omega (arith, c.from-capacity.ensures, c.capacity.ensures.bound))

pub returns-clause-room : goal.returns-clause-room
returns-clause-room c = λ k below.
    let i = c.args.inventory.now in
    let there : c.from-capacity.result ≡ capacity i = c.from-capacity.ensures ∙ c.capacity.ensures.value in
    let often : c.min.result ≡ min ((capacity i - c.args.used) / c.args.sum) 4294967295 = c.min.ensures ∙ ap₂ (λ (m n : ℕ). min ((m - c.args.used) / c.args.sum) n) there c.from-2.ensures in
    room_often i c.args.used c.args.sum k (omega (arith, c.if-sum-eq0.false)) (omega (arith, c.if-sum-from.false, c.from.ensures, c.max_unit.ensures)) (omega (arith, c.if-used-capacity.false, there)) below
    ∙ ap (nat_lt k) (sym often)

pub returns-clause-small : goal.returns-clause-small
returns-clause-small c = λ n some often.
    fits_often c.args.used c.args.sum n c.from-capacity.result (omega (arith, c.if-used-capacity.false)) (omega (arith, c.from-capacity.ensures, c.capacity.ensures.bound)) (omega (arith, often, c.min.ensures, c.from-2.ensures))
