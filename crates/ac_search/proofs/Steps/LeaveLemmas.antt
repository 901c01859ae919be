-- A walk leaves roots at which it has found a candidate, until none is left that has one.
use Rattle.std.proofs.Common.{◌≡◌, ◌∙◌, ℕ, ◌<◌, Bool, true, false, not, ◌&&◌, List, [], ◌∷◌, length, map, Option, Some, None, inl, inr, refl, sym, ap, ap₂, subst, arith, slice_index_or, ◌≤◌}
use Rattle.std.specs.Prelude.{◌==◌, IsSome, MatchBool}
use Rattle.std.specs.List.{All, filter, list_any, range_with_len, AllByRecursion as Each}
use Rattle.std.proofs.lemmas.Bool.{cases_Bool, cases_eq, and_parts, and_from, eq-eqb, ne_eqb, false≢true}
use Rattle.ac_query.specs.Asked.{Asked}
use Rattle.ac_cloud.specs.World.{Provider}
use Rattle.ac_rules.specs.Together.{takes_root}
use Rattle.ac_rules.specs.Pages.{candidates}
use Rattle.ac_prune.specs.Marks.{stand_at, stand_at_marked}
use Rattle.ac_prune.specs.Search.{choices_at}
use Rattle.ac_search.specs.Search.{met, IsSound}
use Rattle.ac_prune.specs.Fitting.{fits_at}
use Rattle.ac_search.specs.Hosts.{is_looked_at, standing, search_at}
use Rattle.ac_search.specs.Search.Steps.{Advances, Finishes}
use Rattle.ac_search.specs.Shown.Hosts.{Settles, Leaves, IsSettled}
use Rattle.ac_search.specs.Shown.Walk.{cloud_in, query_in, token_in, most_in, roots_in, left_of, may_stop, MayStop}
use Rattle.ac_search.specs.declared.walk.Walk.{Walk}
use Rattle.ac_prune.proofs.Paths.LedgerLemmas.{mapped_at}
use Rattle.ac_prune.proofs.Search.OpenLemmas.{filter_few}
use Rattle.ac_rules.proofs.Elements.{each_filter}
use Rattle.ac_rules.proofs.Lists.RestLemmas.{IsChosen, each_candidate}
use Rattle.ac_prune.proofs.Roots.TreeLemmas.{any_there, range_there}
use Rattle.ac_search.proofs.Search.StandLemmas.{AreFewer, at_each, standing_fewer}

-- what a walk keeps true doesn't depend on the roots that it looks at
pub sound_at_roots : (all : List Provider) (asked : Asked) (old new : Option (List Bool)) {x q used : List ℕ} {d j : ℕ} {seeking : Bool} {probes : ℕ}
    → IsSound (search_at all asked old) x q used d j seeking probes → IsSound (search_at all asked new) x q used d j seeking probes
unfolding choices_at met
sound_at_roots all asked old new s = record {
  long = s.long;
  used_long = s.used_long;
  least_len = s.least_len;
  within = s.within;
  begun = s.begun;
  placed = s.placed;
  place = s.place;
  opens = s.opens;
  reached = s.reached;
  seeks = s.seeks;
  passed = s.passed;
  paid = s.paid;
}

-- ---- A list that was given, and the roots at which it stands

given_by : {X : Type 0} (f : X → Bool) (P : X → Type 0) (xs more : List X) (y : X) → Each P xs → filter f xs ≡ y ∷ more → P y
given_by f P xs more y each is = (subst (Each (λ x. (f x ≡ true) × P x)) is (each_filter P f xs each)).0.1

any_given : {X : Type 0} (f g : X → Bool) (xs more : List X) (y : X) → filter f xs ≡ y ∷ more → g y ≡ true → list_any g xs ≡ true
any_given f g [] more y is h = absurd (cc)
any_given f g (x ∷ xs) more y is h = grind (arith, any_given f g xs more y)

any_none : {X : Type 0} (f g : X → Bool) → ((x : X) → g x ≡ true → f x ≡ true) → (xs : List X) → filter f xs ≡ [] → list_any g xs ≡ false
any_none f g weaker [] is = refl
any_none f g weaker (x ∷ xs) is = grind (arith, weaker x, any_none f g weaker xs)

any_some : {X : Type 0} (f g : X → Bool) → ((x : X) → f x ≡ true → g x ≡ true) → (xs more : List X) (y : X) → filter f xs ≡ y ∷ more → list_any g xs ≡ true
any_some f g stronger [] more y is = absurd (cc)
any_some f g stronger (x ∷ xs) more y is = grind (arith, stronger x, any_some f g stronger xs more y)

-- the marks that stay where a list stands no more
abbrev pub AreLeft : List Provider → List ℕ → Option (List Bool) → Option (List Bool) → Type 0
AreLeft all y old new = (r : ℕ) → r < length all → is_looked_at new r ≡ (is_looked_at old r && not (stand_at all y r))

any_false : (f : ℕ → Bool) (rs : List ℕ) → Each (λ r. f r ≡ false) rs → list_any f rs ≡ false
any_false f [] h = refl
any_false f (r ∷ rs) h = rw h.0 (any_false f rs h.1)

-- it stands at none of them
stands_nowhere : (all : List Provider) (y : List ℕ) (old new : List Bool) → AreLeft all y (Some old) (Some new) → stand_at_marked all new y ≡ false
unfolding stand_at_marked
stands_nowhere all y old new left = any_false (λ r. slice_index_or new r false && stand_at all y r) (range_with_len 0 (length all)) (at_each (length all) _ (λ r low. let is = left r low in grind arith))

pub are_fewer : (all : List Provider) (y : List ℕ) (old new : List Bool) → AreLeft all y (Some old) (Some new) → AreFewer all old new
are_fewer all y old new left r low h = (and_parts (slice_index_or old r false) _ (sym (left r low) ∙ h)).0

-- what stands at a marked root stands at one
marked_stands : (all : List Provider) (marks : List Bool) (r : ℕ) → r < length all → slice_index_or marks r false ≡ true → (t : List ℕ) → stand_at all t r ≡ true → stand_at_marked all marks t ≡ true
unfolding stand_at_marked
marked_stands all marks r low marked t here =
    any_there (λ z. slice_index_or marks z false && stand_at all t z) (range_with_len 0 (length all)) r (range_there (length all) r low) (and_from _ _ marked here)

-- what stands at a root that is marked alone stands there
stands_alone : (all : List Provider) (marks : List Bool) (r : ℕ) → marks ≡ map (λ q. q == r) (range_with_len 0 (length all)) → (t : List ℕ) → stand_at_marked all marks t ≡ true → stand_at all t r ≡ true
unfolding stand_at_marked
stands_alone all marks r are t h = elim (cases_Bool (stand_at all t r)) [
  | inl here ↦ here
  | inr away ↦ absurd (false≢true (sym (any_false (λ q. slice_index_or marks q false && stand_at all t q) (range_with_len 0 (length all)) (at_each (length all) _ (λ q low.
      let is : slice_index_or marks q false ≡ (q == r) = rw are (mapped_at (λ q. q == r) (length all) q low) in
      elim (cases_eq q r) [
        | inl e ↦ rw (e, away) (grind arith)
        | inr e ↦ rw (is, ne_eqb q r e) refl
      ]))) ∙ h))
]

-- what stands at a root that is marked alone, where a test holds, stands there where the test holds
only_marked : (all : List Provider) (marks : List Bool) (r : ℕ) (b : Bool) → r < length all → marks ≡ map (λ q. (q == r) && b) (range_with_len 0 (length all))
    → (t : List ℕ) → stand_at_marked all marks t ≡ (b && stand_at all t r)
unfolding stand_at_marked
only_marked all marks r b low are t = elim (cases_Bool (b && stand_at all t r)) [
  | inl both ↦
      let parts = and_parts b (stand_at all t r) both in
      let marked : slice_index_or marks r false ≡ true = rw are (mapped_at (λ q. (q == r) && b) (length all) r low) ∙ and_from (r == r) b (eq-eqb r r refl) parts.0 in
      marked_stands all marks r low marked t parts.1 ∙ sym both
  | inr away ↦ any_false (λ q. slice_index_or marks q false && stand_at all t q) (range_with_len 0 (length all)) (at_each (length all) _ (λ q inside.
      let is : slice_index_or marks q false ≡ ((q == r) && b) = rw are (mapped_at (λ q. (q == r) && b) (length all) q inside) in
      elim (cases_eq q r) [
        | inl e ↦ rw (is, e, eq-eqb r r refl) away
        | inr e ↦ rw (is, ne_eqb q r e) refl
      ])) ∙ sym away
]

same_filter : {X : Type 0} (f g : X → Bool) → ((x : X) → f x ≡ g x) → (xs : List X) → filter f xs ≡ filter g xs
same_filter f g same [] = refl
same_filter f g same (x ∷ xs) = grind (arith, same x, same_filter f g same xs)

-- of some lists those stand at it that stand at a marked root
pub standing_only : (all : List Provider) (marks : List Bool) (r : ℕ) (b : Bool) → r < length all → marks ≡ map (λ q. (q == r) && b) (range_with_len 0 (length all))
    → (ts : List (List ℕ)) → filter (stand_at_marked all marks) ts ≡ filter (λ t. b && stand_at all t r) ts
standing_only all marks r b low are ts = same_filter (stand_at_marked all marks) (λ t. b && stand_at all t r) (only_marked all marks r b low are) ts

-- a root that the query takes and that is marked alone fits exactly where a candidate is left
pub fits_alone : (all : List Provider) (asked : Asked) (marks : List Bool) (r : ℕ) → r < length all → marks ≡ map (λ q. q == r) (range_with_len 0 (length all)) → takes_root all asked r ≡ true
    → (old new : Walk) (b : Bool) → left_of old ≡ filter (stand_at_marked all marks) (candidates all asked) → MatchBool b (Advances old new) (Finishes old new) → b ≡ fits_at all asked r
fits_alone all asked marks r low are takes old new true left on =
    sym (and_from _ _ takes (any_some (stand_at_marked all marks) (λ t. stand_at all t r) (stands_alone all marks r are) (candidates all asked) (left_of new) new.path.items (sym left ∙ on.head)))
fits_alone all asked marks r low are takes old new false left end =
    let marked : slice_index_or marks r false ≡ true = rw are (mapped_at (λ q. q == r) (length all) r low) ∙ eq-eqb r r refl in
    rw (takes, any_none (stand_at_marked all marks) (λ t. stand_at all t r) (marked_stands all marks r low marked) (candidates all asked) (sym left ∙ end.nothing)) refl

module _ (all : List Provider) (asked : Asked) where
  -- what is known of the roots that aren't looked at
  abbrev pub AreFound : Option (List Bool) → Type 0
  AreFound roots = (r : ℕ) → r < length all → takes_root all asked r ≡ true → is_looked_at roots r ≡ false → fits_at all asked r ≡ true

  pub given_low : (roots : Option (List Bool)) (y : List ℕ) (more : List (List ℕ)) → standing all roots (candidates all asked) ≡ y ∷ more → All (λ p. p < length all) y
  given_low None y more is = (subst (Each (IsChosen all asked)) is (each_candidate all asked)).0.list.below
  given_low (Some marks) y more is = (given_by (stand_at_marked all marks) (IsChosen all asked) (candidates all asked) more y (each_candidate all asked) is).list.below

  -- the candidates that stand at the roots that stay
  pub standing_left : (old new : Option (List Bool)) (y : List ℕ) (more : List (List ℕ)) → IsSome old → IsSome new → AreLeft all y old new
      → standing all old (candidates all asked) ≡ y ∷ more → standing all new more ≡ standing all new (candidates all asked)
  standing_left None new y more some _ left is = absurd (false≢true some)
  standing_left (Some old) None y more _ some left is = absurd (false≢true some)
  standing_left (Some old) (Some new) y more _ _ left is =
      let away = stands_nowhere all y old new left in
      sym (standing_fewer all old new (are_fewer all y old new left) (candidates all asked) ∙ rw (is, away) refl)

  -- where the list stands, the root fits
  pub found_left : (old new : Option (List Bool)) (y : List ℕ) (more : List (List ℕ)) → IsSome old → AreLeft all y old new → standing all old (candidates all asked) ≡ y ∷ more
      → AreFound old → AreFound new
  found_left None new y more some left is found r low takes away = absurd (false≢true some)
  found_left (Some old) new y more _ left is found r low takes away = elim (cases_Bool (slice_index_or old r false)) [
    | inl was ↦
        let here : stand_at all y r ≡ true = let told = left r low in grind arith in
        and_from _ _ takes (any_given (stand_at_marked all old) (λ t. stand_at all t r) (candidates all asked) more y is here)
    | inr was ↦ found r low takes was
  ]

  -- at the end no root that is looked at has a candidate
  pub settled : (roots : Option (List Bool)) → IsSome roots → standing all roots (candidates all asked) ≡ [] → ((r : ℕ) → r < length all → is_looked_at roots r ≡ true → takes_root all asked r ≡ true)
      → AreFound roots → (r : ℕ) → r < length all → fits_at all asked r ≡ (takes_root all asked r && not (is_looked_at roots r))
  settled None some is taken found r low = absurd (false≢true some)
  settled (Some marks) _ is taken found r low = elim (cases_Bool (slice_index_or marks r false)) [
    | inl marked ↦
        let none = any_none (stand_at_marked all marks) (λ t. stand_at all t r) (marked_stands all marks r low marked) (candidates all asked) is in
        rw (marked, none) (grind arith)
    | inr away ↦ elim (cases_Bool (takes_root all asked r)) [ inl takes ↦ rw (takes, away) (rw takes at (found r low takes away)) | inr leaves ↦ rw leaves refl ]
  ]

-- ---- A walk

standing_few : (all : List Provider) (roots : Option (List Bool)) (ts : List (List ℕ)) → length (standing all roots ts) ≤ length ts
standing_few all None ts = omega arith
standing_few all (Some marks) ts = filter_few (stand_at_marked all marks) ts

-- it begins with the roots that the query takes
pub settles_begin : (w : Walk) (all : List Provider) (asked : Asked) (marks : List Bool) → cloud_in w ≡ all → query_in w ≡ asked → roots_in w ≡ Some marks
    → left_of w ≡ filter (stand_at_marked all marks) (candidates all asked) → marks ≡ map (takes_root all asked) (range_with_len 0 (length all)) → Settles w
settles_begin w all asked marks cloud query roots left are =
    let here : (r : ℕ) → r < length all → slice_index_or marks r false ≡ takes_root all asked r = λ r low. rw are (mapped_at (takes_root all asked) (length all) r low) in
    record {
      some = rw roots refl;
      left = left ∙ sym (ap (λ m. standing (cloud_in w) m (candidates (cloud_in w) (query_in w))) roots ∙ ap₂ (λ all asked. filter (stand_at_marked all marks) (candidates all asked)) cloud query);
      taken = rw (cloud, query, roots) (λ r low h. sym (here r low) ∙ h);
      found = rw (cloud, query, roots) (λ r low takes away. absurd (false≢true (sym away ∙ (here r low ∙ takes))));
    }

-- where it goes on, it may stop as before
pub may_on : (w u : Walk) → Advances w u → may_stop u → may_stop w
may_on w u on may =
    subst (λ most. MayStop most (cloud_in w) (query_in w) (token_in w)) on.tries.most
    (subst (λ all. MayStop (most_in u) all (query_in w) (token_in w)) on.tries.cloud
    (subst (λ asked. MayStop (most_in u) (cloud_in u) asked (token_in w)) on.tries.query
    (subst (MayStop (most_in u) (cloud_in u) (query_in u)) on.tries.token may)))

-- it goes on to a candidate, and leaves the roots at which that stands
module _ (w u : Walk) (s : Settles w) (on : Advances w u) where
  given : standing (cloud_in w) (roots_in w) (candidates (cloud_in w) (query_in w)) ≡ u.path.items ∷ left_of u
  given = sym s.left ∙ on.head

  pub path_within : All (λ p. p < length (cloud_in u)) u.path.items
  path_within = rw on.tries.cloud (given_low (cloud_in w) (query_in w) (roots_in w) u.path.items (left_of u) given)

  pub roots_still : IsSome (roots_in u)
  roots_still = rw on.roots s.some

  module _ (v : Walk) (leaves : Leaves u v) where
    cloud_still : cloud_in v ≡ cloud_in w
    cloud_still = leaves.cloud ∙ on.tries.cloud

    query_still : query_in v ≡ query_in w
    query_still = leaves.query ∙ on.tries.query

    gone : AreLeft (cloud_in w) u.path.items (roots_in w) (roots_in v)
    gone = rw (on.tries.cloud, on.roots) at leaves.roots

    left_there : left_of v ≡ standing (cloud_in w) (roots_in v) (left_of u)
    left_there = leaves.left ∙ ap (λ all. standing all (roots_in v) (left_of u)) on.tries.cloud

    pub settles_on : Settles v
    settles_on = record {
      some = leaves.some;
      left = left_there ∙ (standing_left (cloud_in w) (query_in w) (roots_in w) (roots_in v) u.path.items (left_of u) s.some leaves.some gone given
          ∙ ap₂ (λ all asked. standing all (roots_in v) (candidates all asked)) (sym cloud_still) (sym query_still));
      taken = rw (cloud_still, query_still) (λ r low h. s.taken r low (and_parts (is_looked_at (roots_in w) r) _ (sym (gone r low) ∙ h)).0);
      found = rw (cloud_still, query_still) (found_left (cloud_in w) (query_in w) (roots_in w) (roots_in v) u.path.items (left_of u) s.some gone given s.found);
    }

    -- what is left gets less
    pub less_left : length (left_of v) < length (left_of w)
    less_left = omega (arith, ap length left_there, standing_few (cloud_in w) (roots_in v) (left_of u), ap length on.head)

-- at the end
pub settles_end : (w u : Walk) → Settles w → Finishes w u → IsSettled u
settles_end w u s end = rw (end.tries.cloud, end.tries.query, end.roots) (settled (cloud_in w) (query_in w) (roots_in w) s.some (sym s.left ∙ end.nothing) s.taken s.found)
