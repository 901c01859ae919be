-- Choices behind a front that lead to nothing.
use Rattle.std.proofs.Common.{◌≡◌, ◌∙◌, ℕ, ◌<◌, ◌&&◌, true, false, List, [], ◌∷◌, Some, length, slice_index, sym, subst, append_assoc}
use Rattle.std.specs.List.{AllByRecursion as Each}
use Rattle.std.proofs.lemmas.List.Elements.{recursion_from_All}
use Rattle.ac_rules.specs.Lists.{IsListBelow}
use Rattle.ac_prune.specs.Search.{IsDead}
use Rattle.ac_rules.specs.Own.{fits}
use Rattle.ac_prune.specs.QuerySearch.{choice_of}
use Rattle.ac_rules.specs.Placed.{placed_at, slot_at}
use Rattle.ac_rules.specs.Judge.{is_open}
use Rattle.ac_rules.proofs.SlotLemmas.{each_at}
use Rattle.ac_prune.proofs.Search.OpenLemmas.{choices_here, each_choice}
use Rattle.ac_prune.specs.Left.Accounts.{providers_in, asked_in}
use Rattle.ac_prune.specs.Trees.Keys.{is_there}
use Rattle.ac_prune.proofs.Roots.TreeLemmas.{each_there, some_there}
use Rattle.ac_prune.specs.Ahead.Fronts.{search_at, LeadNowhere}
use Rattle.ac_prune.specs.declared.front.Front.{Front}

-- all of them where the path itself leads to nothing
pub path_leads_nowhere : (f : Front) (from to : ℕ) → IsDead (search_at f) f.path.now → LeadNowhere f from to
path_leads_nowhere f from to dead i above less v list =
    let p = slice_index f.choices.now i in
    let same = append_assoc f.path.now (p ∷ []) v in
    subst (λ (l : List ℕ). (search_at f).is_wanted l ≡ false) (sym same) (dead (p ∷ v) (subst (IsListBelow (search_at f).count (search_at f).width) same list))

-- its choices are those of the slot behind its path
pub listed_at : (f : Front) → f.choices.now ≡ choice_of (providers_in f.ledger.now) (asked_in f.ledger.now) (slot_at (asked_in f.ledger.now) (length f.path.now))
listed_at f = f.listed ∙ choices_here (providers_in f.ledger.now) (asked_in f.ledger.now) (length f.path.now) f.short

-- the provider to whose trees it is bound
pub bound_there : (f : Front) (b : ℕ) → f.bound ≡ Some b → is_there f.path.now b ≡ true
bound_there f b is = rw is at f.bounded

pub bound_low : (f : Front) (b : ℕ) → f.bound ≡ Some b → b < length (providers_in f.ledger.now)
bound_low f b is = each_there (λ p. p < length (providers_in f.ledger.now)) f.path.now b (recursion_from_All (λ p. p < length (providers_in f.ledger.now)) f.path.now f.providers) (bound_there f b is)

-- so its path isn't empty
pub bound_behind : (f : Front) (b : ℕ) → f.bound ≡ Some b → 0 < length f.path.now
bound_behind f b is = some_there f.path.now b (bound_there f b is)

-- a choice of its slot is a provider
pub choice_inside : (f : Front) (i : ℕ) → i < length f.choices.now → slice_index f.choices.now i < length (providers_in f.ledger.now)
choice_inside f i h =
    let all = providers_in f.ledger.now in
    let asked = asked_in f.ledger.now in
    let P = λ (p : ℕ). ((is_open all asked [] && fits all (placed_at asked (length f.path.now) p)) ≡ true) × (p < length all) in
    (each_at P f.choices.now i 0 (subst (Each P) (sym (listed_at f)) (each_choice all asked (slot_at asked (length f.path.now)))) h).1
