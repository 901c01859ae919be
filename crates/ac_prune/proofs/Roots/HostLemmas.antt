-- What a root must have where a candidate stands.
use Rattle.std.proofs.Common.{◌≡◌, ℕ, ◌<◌, Bool, true, false, List, [], ◌∷◌, ◌++◌, length, refl, sym, ◌∙◌, arith, length-append, length-drop}
use Rattle.std.specs.List.{list_all, range_with_len, AllByRecursion as Each}
use Rattle.std.proofs.lemmas.Bool.{and_parts, and_from, false≢true, false_from_ne_true}
use Rattle.std.proofs.lemmas.List.Elements.{recursion_from_All}
use Rattle.std.proofs.lemmas.List.Folds.{list_all-append}
use Rattle.ac_query.specs.Asked.{Asked, Slot, slots_of}
use Rattle.ac_cloud.specs.World.{Provider, is_available_at, anchors_of}
use Rattle.ac_rules.specs.Placed.{Placed, placed, assigned}
use Rattle.ac_rules.specs.Together.{hosts_all, anchor}
use Rattle.ac_rules.specs.Judge.{is_candidate, is_open}
use Rattle.ac_prune.specs.Ahead.{load_of, hosts_of, later, IsHosted, RoomsReach}
use Rattle.ac_rules.proofs.Elements.{Among, among_filter}
use Rattle.ac_rules.proofs.Lists.ListLemmas.{among_range}
use Rattle.ac_rules.proofs.PlacedLemmas.{placed_append}
use Rattle.ac_rules.proofs.EachSlot.FrontLemmas.{Opens, candidate_opens}
use Rattle.ac_prune.proofs.Search.OpenLemmas.{is_search}
use Rattle.ac_prune.proofs.Roots.CountLemmas.{boxes_reach}
use Rattle.ac_prune.proofs.Roots.TreeLemmas.{all_there, anchor_there, any_found, each_there}
use Rattle.ac_prune.specs.QuerySearch.{search_of}
use Rattle.ac_prune.specs.Search.{IsDead}
use Rattle.ac_prune.specs.Trees.Keys.{is_there}
use Rattle.ac_rules.proofs.EachSlot.AnchorLemmas.{each_range, hosts_list}
use Rattle.ac_rules.specs.Lists.{IsListBelow}
use Rattle.std.proofs.Common.{rules}

-- a provider that is available at a root is among its hosts
pub among_hosts : (all : List Provider) (r p : ℕ) → p < length all → is_available_at all p r ≡ true → Among (hosts_of all r) p
unfolding hosts_of
among_hosts all r p h a = among_filter (λ p. is_available_at all p r) (range_with_len 0 (length all)) p (among_range 0 (length all) p (omega arith) (omega arith)) a

-- what slots weigh, each of which is placed
pub weight_placed : (w : Slot → ℕ) (ss : List Slot) (t : List ℕ) → length t ≡ length ss → load_of (λ x. w x.slot) (placed ss t) ≡ load_of w ss
weight_placed w [] t h = refl
weight_placed w (s ∷ ss) [] h = absurd (omega arith)
weight_placed w (s ∷ ss) (p ∷ t) h = let more = weight_placed w ss t (omega arith) in omega arith

-- each provider is available there
each_host : (all : List Provider) (r : ℕ) (ss : List Slot) (t : List ℕ) → Each (λ p. p < length all) t → list_all (λ x. is_available_at all x.provider r) (placed ss t) ≡ true
    → Each (λ x. Among (hosts_of all r) x.provider) (placed ss t)
each_host all r [] t low h = tt
each_host all r (s ∷ ss) [] low h = tt
each_host all r (s ∷ ss) (p ∷ t) low h = search (rules, and_parts, among_hosts, each_host all r ss t low.1)

each_behind : {X : Type 0} (P : X → Type 0) (xs ys : List X) → Each P (xs ++ ys) → Each P ys
each_behind P [] ys h = h
each_behind P (x ∷ xs) ys h = each_behind P xs ys h.1

pub all_behind : {X : Type 0} (f : X → Bool) (xs ys : List X) → list_all f (xs ++ ys) ≡ true → list_all f ys ≡ true
all_behind f xs ys h = (and_parts (list_all f xs) (list_all f ys) (sym (list_all-append f xs ys) ∙ h)).1

-- those behind the front stand there too
pub behind_hosts : (all : List Provider) (asked : Asked) (q v : List ℕ) (r : ℕ) → IsHosted all asked r (q ++ v) → Each (λ x. Among (hosts_of all r) x.provider) (placed (later asked q) v)
unfolding hosts_all
behind_hosts all asked q v r h = search (rules, placed_append, each_host, each_behind, recursion_from_All, all_behind)

-- as many as the later slots
pub behind_long : (all : List Provider) (asked : Asked) (q v : List ℕ) (r : ℕ) → IsHosted all asked r (q ++ v) → length v ≡ length (later asked q)
behind_long all asked q v r h = omega (arith, h.list.long, length-append q v, length-drop (length q) (slots_of asked))

-- a candidate is open
pub candidate_open : (all : List Provider) (asked : Asked) (t : List ℕ) → is_candidate all asked t ≡ true → is_open all asked t ≡ true
candidate_open all asked t h = (is_search all asked).wanted t h

pub rooms_reach : RoomsReach
rooms_reach all asked q v r weight room bears h =
    let reach = boxes_reach (λ (x : Placed). x.provider) (λ (x : Placed). weight x.slot) room (placed (later asked q) v) (hosts_of all r) (behind_hosts all asked q v r h)
    (bears v (candidate_open all asked (q ++ v) h.candidate)) in
    omega (arith, reach, weight_placed weight (later asked q) v (behind_long all asked q v r h))

-- ---- What a root must have

pub candidate_parts : (all : List Provider) (asked : Asked) (t : List ℕ) → is_candidate all asked t ≡ true → Opens all asked (assigned asked t)
unfolding is_candidate
candidate_parts all asked t h = candidate_opens all asked (assigned asked t) h

-- ---- A root at which a candidate stands

-- all of the candidate is available there
pub record Stands (all : List Provider) (asked : Asked) (t : List ℕ) : Type 0 where
  pub root : ℕ
  pub low : root < length all
  pub hosted : IsHosted all asked root t
  pub available : list_all (λ p. is_available_at all p root) t ≡ true

pub stands : (all : List Provider) (asked : Asked) (t : List ℕ) → IsListBelow (length all) (length (slots_of asked)) t → is_candidate all asked t ≡ true → Stands all asked t
unfolding anchor
stands all asked t list candidate =
    let opens : Opens all asked (assigned asked t) = candidate_parts all asked t candidate in
    search (rules, any_found, and_parts, each_there, each_range, hosts_list)

-- the last provider of a front, and those before it
pub front_parts : (f : ℕ → Bool) (q v : List ℕ) (p : ℕ) → list_all f ((q ++ p ∷ []) ++ v) ≡ true → (list_all f q ≡ true) × (f p ≡ true)
front_parts f [] v p h = (refl, (and_parts (f p) (list_all f v) h).0)
front_parts f (x ∷ q) v p h = let both = and_parts (f x) (list_all f ((q ++ p ∷ []) ++ v)) h in let more = front_parts f q v p both.1 in (and_from _ _ both.0 more.0, more.1)

-- no candidate goes on by what isn't available where a provider of the path is
pub elsewhere_dead : (all : List Provider) (asked : Asked) (q : List ℕ) (b p : ℕ) → is_there q b ≡ true
    → ((r : ℕ) → is_there (anchors_of all b) r ≡ true → r < length all → is_available_at all p r ≡ false) → IsDead (search_of all asked) (q ++ p ∷ [])
elsewhere_dead all asked q b p there away v list = false_from_ne_true _ (λ candidate.
    let s = stands all asked ((q ++ p ∷ []) ++ v) list candidate in
    let parts = front_parts (λ x. is_available_at all x s.root) q v p s.available in
    false≢true (sym (away s.root (anchor_there all b s.root s.low (all_there (λ x. is_available_at all x s.root) q b parts.0 there)) s.low) ∙ parts.1))
