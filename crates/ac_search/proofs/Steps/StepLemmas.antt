-- What a walk does as a step in its slot.
use Rattle.std.proofs.Common.{◌≡◌, ℕ, ◌+◌, ◌<◌, ◌≤◌, false, List, length, take, set, Option, refl, sym, ap, ◌∙◌, subst, arith, get_or-set_same, slice_index_or}
use Rattle.std.specs.List.{slice_index}
use Rattle.std.specs.Option.{option_map}
use Rattle.std.proofs.lemmas.Bool.Decides.{nat_tests}
use Rattle.std.proofs.lemmas.List.{take-set, get_or_default}
use Rattle.std.specs.Prelude.{min, None, Some, IfSome}
use Rattle.ac_base.specs.Devices.{last_count, one_more}
use Rattle.ac_query.specs.Shown.Queries.{asked_of}
use Rattle.ac_cloud.specs.Cloud.CloudWorld.{providers_of}
use Rattle.ac_search.specs.Search.{next_front, left_from, IsSound}
use Rattle.ac_search.specs.Shown.Walk.{search_in, place_in, slot_in, front_in, path_in, left_of, roots_in, cloud_in, query_in, token_in, changed, is_spent, most_in, may_stop, IsSame, MayStop, StaysWithin}
use Rattle.ac_search.specs.Search.Steps.{IsTried, Goes, Skips}
use Rattle.ac_search.specs.declared.walk.Walk.{Walk}
use Rattle.ac_prune.proofs.Search.SoughtLemmas.{IsSearch}
use Rattle.ac_search.proofs.Search.StandLemmas.{is_search_at}
use Rattle.ac_search.proofs.Search.BoundLemmas.{front_rises}
use Rattle.ac_search.proofs.Steps.MoveLemmas.{sound_on}
use Rattle.ac_search.proofs.Steps.ChangeLemmas.{one_more_kept, one_more_most}

pub laws_in : (w : Walk) → IsSearch (search_in w)
laws_in w = is_search_at (providers_of w.ledger.cloud.now) (asked_of w.ledger.query.now) (roots_in w)

pub search_same : (w v : Walk) → IsSame w v → search_in v ≡ search_in w
search_same w v s = rw (s.cloud, s.query, s.roots) refl

pub itself : (w : Walk) → IsSame w w
itself w = record { cloud = refl; query = refl; after = refl; least = refl; roots = refl; most = refl }

pub same_then : (w u v : Walk) → IsSame w u → IsSame u v → IsSame w v
same_then w u v a b = record { cloud = b.cloud ∙ a.cloud; query = b.query ∙ a.query; after = b.after ∙ a.after; least = b.least ∙ a.least; roots = b.roots ∙ a.roots; most = b.most ∙ a.most }

-- so it may stop as before
pub may_same : (w v : Walk) → IsSame w v → may_stop v → may_stop w
may_same w v s may =
    subst (λ most. MayStop most (cloud_in w) (query_in w) (token_in w)) s.most
    (subst (λ all. MayStop v.most all (query_in w) (token_in w)) (ap (λ c. providers_of c.now) s.cloud)
    (subst (λ asked. MayStop v.most (cloud_in v) asked (token_in w)) (ap (λ q. asked_of q.now) s.query)
    (subst (MayStop v.most (cloud_in v) (query_in v)) (ap (λ ids. option_map (λ v. v.items) ids) s.after) may)))

-- a count stays within the most that it may be, step by step
pub within_then : (w u v : Walk) → u.most ≡ w.most → StaysWithin w u → StaysWithin u v → StaysWithin w v
within_then w u v same a b = by w.most a (rw same at b)
  where
    by : (most : Option ℕ) → IfSome most (λ n. w.probes ≤ n → u.probes ≤ n) → IfSome most (λ n. u.probes ≤ n → v.probes ≤ n) → IfSome most (λ n. w.probes ≤ n → v.probes ≤ n)
    by None a b = tt
    by (Some n) a b = λ h. b (a h)

-- one more try is within the most where that isn't spent
pub within_more : (w v : Walk) → is_spent (most_in w) w.probes ≡ false → v.probes ≡ one_more w.probes → StaysWithin w v
within_more w v may counted = by w.most may
  where
    by : (most : Option ℕ) → is_spent most w.probes ≡ false → IfSome most (λ n. w.probes ≤ n → v.probes ≤ n)
    by None may = tt
    by (Some n) may = λ h. let more = one_more_most w.probes in grind (arith, nat_tests, counted)

-- so it is where the count stays
pub within_kept : (w v : Walk) → v.probes ≡ w.probes → StaysWithin w v
within_kept w v kept = by w.most
  where
    by : (most : Option ℕ) → IfSome most (λ n. w.probes ≤ n → v.probes ≤ n)
    by None = tt
    by (Some n) = λ h. omega (arith, kept, h)

-- along the same path no further slot is to be paid
pub tried_on : (w u : Walk) → path_in u ≡ path_in w → w.probes ≤ u.probes → (x : Option (List ℕ)) (n : ℕ) → IsTried x n w → IsTried x n u
tried_on w u path kept x n h = subst (λ (q : List ℕ). min (n + changed x q) last_count ≤ u.probes) (sym path) (omega (arith, h, kept))

-- a place that was read
pub place_read : (w : Walk) (place : ℕ) → place ≡ slice_index_or w.places.items w.depth place → place ≡ place_in w
place_read w place is = is ∙ get_or_default w.places.items w.depth place 0 (omega (arith, w.places_len, w.sound.within))

-- at a later place of its slot
pub sound_at : (w : Walk) (k n : ℕ) → place_in w < k → k ≤ length (slot_in w) → w.probes ≤ n → n ≤ w.probes + 1
    → IsSound (search_in w) w.least.items (path_in w) (take w.depth (set w.places.items w.depth k)) w.depth (slice_index (set w.places.items w.depth k) w.depth) false n
sound_at w k n later within kept more =
    rw (take-set w.places.items w.depth k, get_or-set_same w.places.items w.depth k 0 (omega (arith, w.places_len, w.sound.within))) (sound_on (laws_in w) w.sound k n later within kept more)

-- the front behind the next choice
abbrev pub front_after : Walk → List ℕ
front_after w = next_front (search_in w) (path_in w) w.depth (place_in w + 1)

module _ (w v : Walk) (s : Skips w v) where
  front_skip : front_in v ≡ front_after w
  front_skip = rw (s.same.cloud, s.same.query, s.same.roots, s.path, s.at, s.depth) refl

  pub left_skip : left_of v ≡ left_from (search_in w) w.least.items (front_after w)
  left_skip = rw (front_skip, s.same.cloud, s.same.query, s.same.roots, s.same.least) refl

  pub kept_skip : w.probes ≤ v.probes
  kept_skip = omega (arith, s.counted, one_more_kept w.probes)

  pub goes_skip : place_in w < length (slot_in w) → left_of w ≡ left_from (search_in w) w.least.items (front_after w) → Goes w v
  goes_skip among left = record {
    same = s.same;
    left = left_skip ∙ sym left;
    up = rw front_skip (front_rises (search_in w) (laws_in w) (path_in w) w.depth (place_in w) (place_in w + 1) w.sound.within (omega arith) (omega arith));
    kept = kept_skip;
    counted = λ _. s.counted;
    tried = tried_on w v s.path kept_skip;
  }
