-- A path of which a provider has no roots that are looked at begins no list that is left.
use Rattle.std.proofs.Common.{◌≡◌, ◌∙◌, ℕ, Bool, true, false, List, [], ◌∷◌, Option, Some, None, ap, arith, inl, inr, not, refl, sym, subst}
use Rattle.std.specs.Prelude.{⊤, ◌&&◌, length, slice_index_or, IsSome}
use Rattle.std.specs.List.{filter, list_any, range_with_len, AllByRecursion as Each}
use Rattle.std.proofs.lemmas.Bool.{and_parts, and_from, cases_Bool, cases_lt, false≢true}
use Rattle.ac_cloud.specs.World.{Provider, anchors_of, is_available_at}
use Rattle.ac_query.specs.Asked.{Asked}
use Rattle.ac_rules.specs.Lists.{PassesOver}
use Rattle.ac_rules.specs.Pages.{candidates}
use Rattle.ac_rules.proofs.EachSlot.AnchorLemmas.{any_agree, any_filter}
use Rattle.ac_rules.proofs.Elements.{each_all, each_filter, each_weaker}
use Rattle.ac_prune.specs.Marks.{stand_at, stand_at_marked}
use Rattle.ac_prune.specs.Trees.Keys.{is_there}
use Rattle.ac_prune.proofs.Roots.TreeLemmas.{all_there, there_old}
use Rattle.ac_rules.specs.Together.{takes_root}
use Rattle.ac_search.specs.Hosts.{is_looked_at, stands, standing, AreDone}
use Rattle.ac_search.specs.Shown.Hosts.{IsSettled, Leaves, Settles, Stays}
use Rattle.ac_search.specs.Shown.Walk.{cloud_in, query_in, roots_in, left_of}
use Rattle.ac_search.specs.declared.walk.Walk.{Walk}
use Rattle.ac_search.proofs.Search.StandLemmas.{any_weaker, at_each}

-- a provider stands alone where one of its roots is marked
pub stands_one : (all : List Provider) (marks : List Bool) (ix : ℕ) → list_any (λ r. slice_index_or marks r false) (anchors_of all ix) ≡ stands all (Some marks) (ix ∷ [])
unfolding stand_at_marked
stands_one all marks ix =
    any_filter (λ r. slice_index_or marks r false) (is_available_at all ix) (range_with_len 0 (length all))
    ∙ any_agree (λ r. is_available_at all ix r && slice_index_or marks r false) (λ r. slice_index_or marks r false && stand_at all (ix ∷ []) r) (λ r. grind arith) (range_with_len 0 (length all))

-- where a list stands, each of its providers does
stands_each : (all : List Provider) (marks : List Bool) (t : List ℕ) (ix : ℕ) → is_there t ix ≡ true → stand_at_marked all marks t ≡ true → stand_at_marked all marks (ix ∷ []) ≡ true
unfolding stand_at_marked
stands_each all marks t ix there h = any_weaker (λ r. slice_index_or marks r false && stand_at all t r) (λ r. slice_index_or marks r false && stand_at all (ix ∷ []) r) (range_with_len 0 (length all))
    (at_each (length all) _ (λ r _ both.
    let parts = and_parts (slice_index_or marks r false) (stand_at all t r) both in
    and_from _ _ parts.0 (and_from _ _ (all_there (λ p. is_available_at all p r) t ix parts.1 there) refl))) h

-- so of what is left none has a provider that doesn't
away : (all : List Provider) (asked : Asked) (roots : Option (List Bool)) (ix : ℕ) → stands all roots (ix ∷ []) ≡ false → IsSome roots
    → Each (λ t. is_there t ix ≡ true → ⊥) (standing all roots (candidates all asked))
away all asked None ix none some = absurd (false≢true some)
away all asked (Some marks) ix none some =
    each_weaker (λ t. (stand_at_marked all marks t ≡ true) × ⊤) (λ t. is_there t ix ≡ true → ⊥) (filter (stand_at_marked all marks) (candidates all asked))
    (λ t is there. false≢true (sym none ∙ stands_each all marks t ix there is.0))
    (each_filter (λ t. ⊤) (stand_at_marked all marks) (candidates all asked) (each_all (λ t. ⊤) _ (λ t. tt)))

-- nothing is passed over where nothing begins so
over_nothing : (q : List ℕ) (ix : ℕ) → is_there q ix ≡ true → (old new : List (List ℕ)) → Each (λ t. is_there t ix ≡ true → ⊥) old → PassesOver q old new → new ≡ old
over_nothing q ix there old new none ([], is, each) = sym is
over_nothing q ix there old new none (t ∷ ts, is, each) =
    absurd ((subst (Each (λ t. is_there t ix ≡ true → ⊥)) is none).0 (subst (λ u. is_there u ix ≡ true) (sym each.0.1) (there_old q each.0.0 ix there)))

pub over_spent : (w : Walk) → Settles w → (ix : ℕ) → stands (cloud_in w) (roots_in w) (ix ∷ []) ≡ false → (q : List ℕ) → is_there q ix ≡ true → (new : List (List ℕ)) → PassesOver q (left_of w) new → new ≡ left_of w
over_spent w s ix none q there new over =
    over_nothing q ix there (left_of w) new (subst (Each (λ t. is_there t ix ≡ true → ⊥)) (sym s.left) (away (cloud_in w) (query_in w) (roots_in w) ix none s.some)) over

-- where a walk has left roots, it doesn't look at them again
done_still : (w u v : Walk) → Leaves u v → roots_in u ≡ roots_in w → cloud_in u ≡ cloud_in w → (n : ℕ) → AreDone (cloud_in w) (roots_in w) 0 n → AreDone (cloud_in w) (roots_in v) 0 n
done_still w u v leaves roots cloud n done r from less low =
    leaves.roots r (rw cloud low) ∙ ap (λ b. b && not (stand_at (cloud_in u) u.path.items r)) (ap (λ m. is_looked_at m r) roots ∙ done r from less low)

-- what it looks at no more it looks at no more when it has gone on
pub done_next : (w u v z : Walk) → Leaves u v → Stays v z → roots_in u ≡ roots_in w → cloud_in u ≡ cloud_in w → (n : ℕ) → AreDone (cloud_in w) (roots_in w) 0 n → AreDone (cloud_in z) (roots_in z) 0 n
done_next w u v z leaves still roots cloud n done = rw (still.cloud ∙ (leaves.cloud ∙ cloud), still.roots) (done_still w u v leaves roots cloud n done)

pub done_then : (all : List Provider) (roots : Option (List Bool)) (m n : ℕ) → AreDone all roots 0 m → AreDone all roots m n → AreDone all roots 0 n
done_then all roots m n first then r from less low = elim (cases_lt r m) [ inl l ↦ first r from l low | inr g ↦ then r (omega (arith, g)) less low ]

-- where it looks at none, all that the query takes were found
pub settled_all : (w : Walk) → Settles w → AreDone (cloud_in w) (roots_in w) 0 (length (cloud_in w)) → IsSettled w
settled_all w s done r low = elim (cases_Bool (takes_root (cloud_in w) (query_in w) r)) [
  | inl takes ↦ s.found r low takes (done r (omega arith) low low) ∙ sym (rw (takes, done r (omega arith) low low) refl)
  | inr leaves ↦ rw leaves refl
]

-- a walk that has the same left still looks for the roots at which candidates stand
pub settles_still : (v u : Walk) → Settles v → Stays v u → Settles u
settles_still v u s still = record {
  some = rw still.roots s.some;
  left = rw (still.left, still.cloud, still.query, still.roots) s.left;
  taken = rw (still.cloud, still.query, still.roots) s.taken;
  found = rw (still.cloud, still.query, still.roots) s.found;
}
