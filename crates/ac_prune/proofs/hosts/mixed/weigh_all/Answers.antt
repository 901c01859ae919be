use Rattle.std.proofs.Common.{◌∙◌, ◌+◌, ◌∷◌, ℕ, List, ap, arith, drop, map, sym}
use Rattle.std.specs.Global.{Vec}
use Rattle.std.proofs.lemmas.List.{drop_more}
use Rattle.ac_prune.specs.Ahead.{load_of}
use Rattle.ac_prune.specs.Left.{ask_pair, wanted}
use Rattle.ac_prune.specs.Loads.Mixed.{mixed_weight}
use Rattle.ac_prune.specs.declared.ledger.rooms.Ask.{Ask}
use Rattle.ac_prune.proofs.Roots.MixedLemmas.{weight_less}
use Rattle.ac_prune.proofs.hosts.mixed.weigh_all.Goals as goal

pub loop-list-preserved : goal.loop-list-preserved
loop-list-preserved c =
    let a = c.args in
    let i = c.loop-list.list-index in
    let item = c.list-item.result in
    let weigh = λ (asks : List (ℕ × ℕ)). mixed_weight a.small a.large a.times (wanted asks a.class) in
    let first =
    ap (λ (lists : List (Vec Ask)). load_of weigh (map (λ (v : Vec Ask). map ask_pair v.items) lists))
    (drop_more a.asks.now i item c.loop-list-test.true ∙ ap (λ (v : Vec Ask). v ∷ drop (i + 1) a.asks.now) (sym c.list-item.is)) in
    let less = weight_less a.small a.large a.times c.wanted.result (wanted (map ask_pair item.items) a.class) c.requires (rw c.deref.ensures.value at c.wanted.ensures) in
    omega (arith, first, less, c.weigh.ensures, c.saturating_add-total.ensures, c.loop-list.invariant)
