-- A walk passes over choices that lead to nothing: nothing that is left is lost.
use Rattle.std.proofs.Common.{◌≡◌, ℕ, ◌<◌, ◌≤◌, List, length, refl, sym, ap, ◌∙◌, arith, slice_index_or}
use Rattle.std.specs.List.{slice_index}
use Rattle.std.proofs.lemmas.Bool.{false_from_ne_true, false≢true}
use Rattle.std.proofs.lemmas.List.{get_or_default}
use Rattle.ac_prune.specs.Left.Accounts.{providers_in}
use Rattle.ac_prune.specs.Ahead.Fronts.{LeadsNowhere, LeadNowhere}
use Rattle.ac_prune.specs.declared.front.Front.{Front}
use Rattle.ac_prune.specs.Search.{next_at, IsDead, AllDead}
use Rattle.ac_search.specs.Search.{next_front}
use Rattle.ac_search.specs.Shown.Walk.{cloud_in, query_in, roots_in, search_in, place_in, slot_in, front_in, path_in}
use Rattle.ac_search.specs.Search.Steps.{Passes}
use Rattle.ac_search.specs.declared.walk.Walk.{Walk}
use Rattle.ac_rules.proofs.Lists.OrderLemmas.{lex_irrefl}
use Rattle.ac_search.proofs.Search.FrontOrder.{lex_le_trans}
use Rattle.ac_search.proofs.Search.StandLemmas.{dead_at}
use Rattle.ac_prune.proofs.Search.SoughtLemmas.{low_at}
use Rattle.ac_search.proofs.Steps.StepLemmas.{laws_in, itself, same_then}

pub passes_none : (w : Walk) → Passes w w
passes_none w = record { same = itself w; path = refl; depth = refl; on = omega arith; left = refl; up = lex_irrefl (front_in w); kept = omega arith }

pub passes_then : (w u v : Walk) → Passes w u → Passes u v → Passes w v
passes_then w u v a b = record {
  same = same_then w u v a.same b.same;
  path = b.path ∙ a.path;
  depth = b.depth ∙ a.depth;
  on = omega (arith, a.on, b.on);
  left = b.left ∙ a.left;
  up = false_from_ne_true _ (λ back. false≢true (sym a.up ∙ lex_le_trans (front_in u) (front_in v) (front_in w) b.up back));
  kept = omega (arith, a.kept, b.kept);
}

-- what holds at the place that it went on to
module _ (w v : Walk) (place : ℕ) (passes : Passes w v) (at : place_in v ≡ place) where
  pub among_there : place < length (slot_in w) → place_in v < length (slot_in v)
  among_there inside = rw (at, passes.same.cloud, passes.same.query, passes.same.roots, passes.depth) inside

  pub dead_there : IsDead (search_in w) (next_front (search_in w) (path_in w) w.depth place) → IsDead (search_in v) (front_in v)
  dead_there dead = rw (at, passes.path, passes.depth, passes.same.cloud, passes.same.query, passes.same.roots) dead

-- ---- A front of the tests

-- it is of the walk's path and slot
module _ (w : Walk) (f : Front) (ledger : f.ledger.now ≡ w.ledger) (path : f.path.now ≡ path_in w) (choices : f.choices.now ≡ slot_in w) where
  front_choice : (i : ℕ) → i < length f.choices.now → slice_index f.choices.now i ≡ next_at (search_in w) w.depth i
  front_choice i inside = get_or_default f.choices.now i 0 (search_in w).count inside ∙ ap (λ (xs : List ℕ). slice_index_or xs i (search_in w).count) choices

  pub front_low : (i : ℕ) → i < length f.choices.now → slice_index f.choices.now i < length (providers_in f.ledger.now)
  front_low i inside =
      let low = low_at (search_in w) (laws_in w) w.depth i w.sound.within (omega (arith, inside, ap length choices)) in
      omega (arith, low, front_choice i inside, ap (λ l. length (providers_in l)) ledger)

  -- what leads nowhere behind it is dead
  pub choice_dead : (i : ℕ) → i < length f.choices.now → LeadsNowhere f (slice_index f.choices.now i) → IsDead (search_in w) (next_front (search_in w) (path_in w) w.depth i)
  choice_dead i inside dead = dead_at (cloud_in w) (query_in w) (roots_in w) _ (rw (ledger, path, front_choice i inside) at dead)

  pub choices_dead : (from to : ℕ) → to ≤ length f.choices.now → LeadNowhere f from to → AllDead (search_in w) (path_in w) w.depth from to
  choices_dead from to within dead i above less = choice_dead i (omega (arith, less, within)) (dead i above less)
