-- Marks of roots, and clouds without any.
use Rattle.std.proofs.lemmas.Grind.{common_steps}
use Rattle.std.proofs.Common.{◌≡◌, ℕ, ◌<◌, List, Bool, true, false, ◌==◌, ◌&&◌, ◌||◌, length, get_or, refl, sym, ap, ◌∙◌, arith}
use Rattle.std.specs.List.{range_with_len}
use Rattle.std.proofs.Math.Bool.{or-false, or-true}
use Rattle.std.proofs.Math.ListN.{set}
use Rattle.std.proofs.lemmas.Bool.{eq-eqb, ne_eqb}
use Rattle.std.proofs.lemmas.Bool.Decides.{eqb_tells}
use Rattle.std.proofs.lemmas.List.{get_or-set_same, get_or-set_other}
use Rattle.ac_base.proofs.Sorted.SearchFacts.{no_any}
use Rattle.ac_cloud.specs.World.{Provider, id_at, provider_at, root_of}
use Rattle.ac_query.specs.Asked.{Asked}
use Rattle.ac_rules.specs.Laws.{AreInOrder}
use Rattle.ac_rules.specs.Placed.{placed_at}
use Rattle.ac_find.specs.Service.Differing.{has_other, is_summarized_otherwise, slot_places, some_has_other, some_provider, summarizes_otherwise, tree_has_other}
use Rattle.ac_find.proofs.Service.SharesLemmas.{any_both}

-- places with one id are the same
pub same_places : (all : List Provider) → AreInOrder all → (p q : ℕ) → p < length all → q < length all → id_at all p ≡ id_at all q → p ≡ q
same_places all order p q k l s = grind (arith, s, order p q, order q p)

-- the root of a provider is marked
pub mark_step : (all : List Provider) → AreInOrder all → (marks : List Bool) (root ix r : ℕ) → length marks ≡ length all → root < length all → id_at all root ≡ root_of all (id_at all ix) → r < length marks
    → get_or (set marks root true) r false ≡ get_or marks r false || (root_of all (id_at all ix) == id_at all r)
mark_step all order marks root ix r long k is low = grind (arith, common_steps, eqb_tells, set, eq-eqb, or-true, get_or-set_same, ne_eqb, same_places, or-false, get_or-set_other)

-- where no provider has such an inventory, no summary does
pub none_summarizes : (all : List Provider) (asked : Asked) → some_has_other all ≡ false → false ≡ summarizes_otherwise all asked
unfolding tree_has_other
none_summarizes all asked h =
    let places = range_with_len 0 (length all) in
    let trees : (root : ℕ) → tree_has_other all root ≡ false = λ root.
    any_both (λ p. has_other (provider_at all p)) (λ p. root_of all (id_at all p) == root) places
    ∙ ap (λ b. b && tree_has_other all root) h in
    sym (no_any (λ s. some_provider all asked s (is_summarized_otherwise all)) (slot_places asked) (λ s d low.
    no_any (λ p. is_summarized_otherwise all (placed_at asked (get_or (slot_places asked) s d) p)) places (λ p e below. rw (trees (root_of all (id_at all (get_or places p e)))) refl)))
