-- The lists of choices that a walk keeps.
use Rattle.std.proofs.Common.{◌≡◌, ℕ, ◌<◌, List, [], length, map, get_or, sym, ap, ◌∙◌, arith, Global}
use Rattle.std.specs.declared.vec.Vec.{Vec}
use Rattle.std.proofs.lemmas.List.{get_or-map, length-map}
use Rattle.ac_prune.specs.Search.{Search, choices_at}
use Rattle.ac_prune.proofs.Search.SoughtLemmas.{IsSearch}

pub length_kept : (m : Search) → IsSearch m → (kept : List (Vec ℕ Global)) → map (λ (u : Vec ℕ Global). u.items) kept ≡ m.choices → length kept ≡ m.width
length_kept m laws kept listed = sym (length-map kept (λ (u : Vec ℕ Global). u.items)) ∙ (ap length listed ∙ laws.slots)

-- what is kept for a slot are its choices
pub kept_choices : (m : Search) → IsSearch m → (kept : List (Vec ℕ Global)) (d : ℕ) (v : Vec ℕ Global) → map (λ (u : Vec ℕ Global). u.items) kept ≡ m.choices → d < m.width → v ≡ get_or kept d v
    → v.items ≡ choices_at m d
unfolding choices_at
kept_choices m laws kept d v listed short is =
    let size = length_kept m laws kept listed in
    ap (λ (u : Vec ℕ Global). u.items) is ∙ (sym (get_or-map (λ (u : Vec ℕ Global). u.items) kept d v [] (omega arith)) ∙ ap (λ (ls : List (List ℕ)). get_or ls d []) listed)
