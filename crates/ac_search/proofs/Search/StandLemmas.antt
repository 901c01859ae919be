-- A search at some roots looks for those candidates that stand there.
use Rattle.std.proofs.Common.{◌≡◌, ℕ, Bool, true, false, ◌&&◌, List, [], ◌∷◌, ◌++◌, Option, Some, None, refl, sym, ◌∙◌, arith}
use Rattle.std.specs.List.{filter, list_any, range_with_len, AllByRecursion as Each}
use Rattle.std.specs.Prelude.{◌<◌, slice_index_or, length}
use Rattle.std.proofs.lemmas.Bool.{and_parts, and_from, false_from_ne_true, false≢true}
use Rattle.std.proofs.lemmas.List.Folds.{list_all-append}
use Rattle.ac_query.specs.Asked.{Asked}
use Rattle.ac_cloud.specs.World.{Provider, is_available_at}
use Rattle.ac_rules.specs.Judge.{is_candidate}
use Rattle.ac_rules.specs.Pages.{candidates, rest}
use Rattle.ac_prune.specs.Marks.{stand_at, stand_at_marked}
use Rattle.ac_prune.specs.Search.{IsDead, choices_at, sought}
use Rattle.ac_prune.specs.QuerySearch.{search_of}
use Rattle.ac_search.specs.Search.{left_from}
use Rattle.ac_search.specs.Hosts.{stands, standing, is_sought, search_at}
use Rattle.ac_rules.proofs.Elements.{each_all, each_weaker, filter_all}
use Rattle.ac_rules.proofs.EachSlot.AnchorLemmas.{each_range}
use Rattle.ac_prune.proofs.Search.SoughtLemmas.{IsSearch}
use Rattle.ac_prune.proofs.Search.OpenLemmas.{is_search}

pub sought_candidate : (all : List Provider) (asked : Asked) (roots : Option (List Bool)) (t : List ℕ) → is_sought all asked roots t ≡ true → is_candidate all asked t ≡ true
sought_candidate all asked None t h = h
sought_candidate all asked (Some marks) t h = (and_parts (is_candidate all asked t) (stand_at_marked all marks t) h).0

-- where a list stands, it is looked for exactly where it is a candidate
pub sought_standing : (all : List Provider) (asked : Asked) (roots : Option (List Bool)) (t : List ℕ) → stands all roots t ≡ true → is_sought all asked roots t ≡ is_candidate all asked t
sought_standing all asked None t h = refl
sought_standing all asked (Some marks) t h = grind (arith, h)

pub is_search_at : (all : List Provider) (asked : Asked) (roots : Option (List Bool)) → IsSearch (search_at all asked roots)
unfolding choices_at
is_search_at all asked roots =
    let laws = is_search all asked in
    record {
      slots = laws.slots;
      rising = laws.rising;
      low = laws.low;
      few = laws.few;
      among = laws.among;
      front = laws.front;
      wanted = λ t h. laws.wanted t (sought_candidate all asked roots t h);
      begins = laws.begins;
    }

-- ---- Where nothing is to be found

pub dead_at : (all : List Provider) (asked : Asked) (roots : Option (List Bool)) (q : List ℕ) → IsDead (search_of all asked) q → IsDead (search_at all asked roots) q
dead_at all asked roots q dead v list = false_from_ne_true _ (λ h. false≢true (sym (dead v list) ∙ sought_candidate all asked roots (q ++ v) h))

pub any_weaker : (f g : ℕ → Bool) (rs : List ℕ) → Each (λ r. f r ≡ true → g r ≡ true) rs → list_any f rs ≡ true → list_any g rs ≡ true
any_weaker f g [] weaker h = h
any_weaker f g (r ∷ rs) weaker h = grind (arith, weaker.0, any_weaker f g rs weaker.1)

-- for all roots of a cloud
pub at_each : (n : ℕ) (P : ℕ → Type 0) → ((r : ℕ) → r < n → P r) → Each P (range_with_len 0 n)
at_each n P each = each_weaker (λ r. r < n) P (range_with_len 0 n) each (each_range 0 n n (omega arith))

-- where a list stands, so does its front
stand_front : (all : List Provider) (marks : List Bool) (q v : List ℕ) → stand_at_marked all marks (q ++ v) ≡ true → stand_at_marked all marks q ≡ true
unfolding stand_at_marked
stand_front all marks q v h = any_weaker (λ r. slice_index_or marks r false && stand_at all (q ++ v) r) (λ r. slice_index_or marks r false && stand_at all q r) (range_with_len 0 (length all))
    (at_each (length all) _ (λ r _ both.
    let parts = and_parts (slice_index_or marks r false) (stand_at all (q ++ v) r) both in
    and_from _ _ parts.0 (and_parts (stand_at all q r) (stand_at all v r) (sym (list_all-append (λ p. is_available_at all p r) q v) ∙ parts.1)).0)) h

pub away_dead : (all : List Provider) (asked : Asked) (roots : Option (List Bool)) (q : List ℕ) → stands all roots q ≡ false → IsDead (search_at all asked roots) q
away_dead all asked None q away v list = absurd (false≢true (sym away))
away_dead all asked (Some marks) q away v list = false_from_ne_true _ (λ h.
    false≢true (sym away ∙ stand_front all marks q v (and_parts (is_candidate all asked (q ++ v)) (stand_at_marked all marks (q ++ v)) h).1))

-- ---- What is looked for

filter_both : {X : Type 0} (f a b : X → Bool) (xs : List X) → filter f (filter (λ x. a x && b x) xs) ≡ filter b (filter f (filter a xs))
filter_both f a b [] = refl
filter_both f a b (x ∷ xs) = grind (arith, filter_both f a b xs)

pub sought_at : (all : List Provider) (asked : Asked) (roots : Option (List Bool)) (x : List ℕ) → sought (search_at all asked roots) x ≡ standing all roots (sought (search_of all asked) x)
sought_at all asked None x = refl
sought_at all asked (Some marks) x = filter_both _ (is_candidate all asked) (stand_at_marked all marks) _

filter_fewer : {X : Type 0} (f a b : X → Bool) → ((x : X) → b x ≡ true → a x ≡ true) → (xs : List X) → filter f (filter b xs) ≡ filter b (filter f (filter a xs))
filter_fewer f a b fewer [] = refl
filter_fewer f a b fewer (x ∷ xs) = grind (arith, fewer x, filter_fewer f a b fewer xs)

-- without a token nothing is left out
pub rest_none : (all : List Provider) (asked : Asked) → rest all asked None ≡ candidates all asked
unfolding rest
rest_none all asked = filter_all (λ t. true) (candidates all asked) (each_all (λ t. true ≡ true) (candidates all asked) (λ t. refl))

-- ---- Where fewer roots are looked at

-- each root that is marked was marked before
abbrev pub AreFewer : List Provider → List Bool → List Bool → Type 0
AreFewer all old new = (r : ℕ) → r < length all → slice_index_or new r false ≡ true → slice_index_or old r false ≡ true

stand_fewer : (all : List Provider) (old new : List Bool) → AreFewer all old new → (t : List ℕ) → stand_at_marked all new t ≡ true → stand_at_marked all old t ≡ true
unfolding stand_at_marked
stand_fewer all old new fewer t = any_weaker (λ r. slice_index_or new r false && stand_at all t r) (λ r. slice_index_or old r false && stand_at all t r) (range_with_len 0 (length all))
    (at_each (length all) _ (λ r low both. let parts = and_parts (slice_index_or new r false) (stand_at all t r) both in and_from _ _ (fewer r low parts.0) parts.1))

pub standing_fewer : (all : List Provider) (old new : List Bool) → AreFewer all old new → (ts : List (List ℕ)) → filter (stand_at_marked all new) ts ≡ filter (stand_at_marked all new) (filter (stand_at_marked all old) ts)
standing_fewer all old new fewer [] = refl
standing_fewer all old new fewer (t ∷ ts) = grind (arith, stand_fewer all old new fewer t, standing_fewer all old new fewer ts)

-- what is left there
pub left_fewer : (all : List Provider) (asked : Asked) (old new : List Bool) → AreFewer all old new → (x c : List ℕ)
    → left_from (search_at all asked (Some new)) x c ≡ filter (stand_at_marked all new) (left_from (search_at all asked (Some old)) x c)
unfolding left_from
left_fewer all asked old new fewer x c =
    rw (sought_at all asked (Some new) x, sought_at all asked (Some old) x)
    (filter_fewer _ (stand_at_marked all old) (stand_at_marked all new) (stand_fewer all old new fewer) (sought (search_of all asked) x))
