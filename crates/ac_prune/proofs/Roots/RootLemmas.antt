-- What is counted for all roots: a root at which a candidate stands stays marked.
use Rattle.std.proofs.Common.{◌≡◌, ◌∙◌, ℕ, ◌+◌, ◌/◌, ◌<◌, ◌≤◌, zero, suc, Bool, true, false, ◌&&◌, List, [], ◌∷◌, ◌++◌, length, map, Result, Ok, Err, refl, sym, ap, ap₂, subst, arith, nat_le, slice_index, slice_index_or}
use Rattle.std.specs.Prelude.{if◌then◌else◌, min, take, IfOk}
use Rattle.std.specs.List.{All, list_all, list_any, range_with_len, AllByRecursion as Each}
use Rattle.std.specs.Global.{Vec}
use Rattle.std.proofs.lemmas.Slice.Eq.{bytes_eq-Decides}
use Rattle.std.proofs.lemmas.Bool.{and_parts, and_from, false≢true, false_from_ne_true}
use Rattle.std.proofs.lemmas.List.{get_or-map, take_more}
use Rattle.std.proofs.lemmas.List.Folds.{list_all-append}
use Rattle.std.proofs.lemmas.List.Elements.{All-from_recursion}
use Rattle.std.proofs.lemmas.List.FromFn.{length-range_with_len, get_or-range_with_len}
use Rattle.std.proofs.lemmas.Bool.Decides.{nat_tests}
use Rattle.ac_query.specs.Asked.{Asked, Slot, slots_of}
use Rattle.ac_cloud.specs.World.{Provider, provider_at, is_available_at}
use Rattle.ac_prune.specs.Marks.{stand_at, stand_at_marked}
use Rattle.ac_prune.specs.Search.{IsDead}
use Rattle.ac_rules.specs.Placed.{Placed, placed, slot_at, no_slot, assigned}
use Rattle.ac_rules.specs.Together.{amount_of, sum_on, holds, takes_root}
use Rattle.ac_rules.specs.Own.{fits}
use Rattle.ac_prune.specs.QuerySearch.{choice_of, search_of}
use Rattle.ac_rules.specs.Room.{class_number, IsKnown}
use Rattle.ac_prune.specs.Left.{ask_pair, numbered, wanted}
use Rattle.ac_prune.specs.Left.Accounts.{providers_in, asked_in, texts_in, left_in}
use Rattle.ac_prune.specs.Loads.{AreServing, ArePieces, AreOnes, AreLimited, MayHost, choice_in, load_at, pairs_of, is_much}
use Rattle.ac_prune.specs.Loads.Columns.{count_of_lone}
use Rattle.ac_prune.specs.Ahead.{load_of, hosts_of, later, Bears, IsHosted, left_on, asks_much, lone_much, serves, AreHosts, AreRoots}
use Rattle.ac_base.specs.Names.{class_bytes}
use Rattle.ac_prune.specs.declared.hosts.column.Column.{Column}
use Rattle.ac_prune.specs.declared.ledger.Ledger.{Ledger}
use Rattle.ac_prune.specs.declared.ledger.rooms.Ask.{Ask}
use Rattle.ac_rules.proofs.Elements.{Among, each_weaker, each_filter}
use Rattle.ac_rules.proofs.EachSlot.AnchorLemmas.{each_range}
use Rattle.ac_prune.proofs.Paths.LeftLemmas.{wanted_is}
use Rattle.ac_prune.proofs.Search.OpenLemmas.{each_choice}
use Rattle.ac_prune.proofs.Search.SoughtLemmas.{place_of}
use Rattle.ac_prune.proofs.Paths.LedgerLemmas.{known_in, asks_at, lone_at}
use Rattle.ac_prune.proofs.Roots.CountLemmas.{load_of_append}
use Rattle.ac_prune.proofs.Paths.BearLemmas.{left_bears, pieces_bear, lone_bears}
use Rattle.ac_prune.proofs.Roots.PartLemmas.{choice_there}
use Rattle.ac_prune.proofs.Roots.HostLemmas.{rooms_reach, behind_hosts, stands}
use Rattle.ac_prune.proofs.Roots.TreeLemmas.{any_there, range_there}
use Rattle.std.proofs.Common.{rules}

pub if_ok : {X E : Type 0} (P Q : X → Type 0) (r : Result X E) → ((x : X) → P x → Q x) → IfOk r P → IfOk r Q
if_ok P Q (Ok x) f h = f x h
if_ok P Q (Err e) f h = tt

-- where a further test leaves each root at which a candidate stands
pub keeps : (all : List Provider) (asked : Asked) (old new : List Bool) (test : ℕ → Bool) → AreHosts all asked old
    → ((r : ℕ) → r < length all → slice_index_or new r false ≡ (slice_index_or old r false && test r))
    → ((r : ℕ) (t : List ℕ) → r < length all → IsHosted all asked r t → test r ≡ true) → AreHosts all asked new
keeps all asked old new test was is passes r t h hosted = is r h ∙ and_from (slice_index_or old r false) (test r) (was r t h hosted) (passes r t h hosted)

pub hosts_low : (all : List Provider) (r : ℕ) → Each (λ p. p < length all) (hosts_of all r)
unfolding hosts_of
hosts_low all r = search (rules, each_weaker, each_filter, each_range)

pub load_within : (f g : ℕ → ℕ) (n : ℕ) (xs : List ℕ) → Each (λ x. x < n) xs → ((x : ℕ) → x < n → f x ≤ g x) → load_of f xs ≤ load_of g xs
load_within f g n [] low h = omega arith
load_within f g n (x ∷ xs) low h = let here = h x low.0 in let more = load_within f g n xs low.1 h in omega (arith, here, more)

pub each_index : {X : Type 0} (P : X → Type 0) (xs : List X) (d : X) → ((i : ℕ) → i < length xs → P (slice_index_or xs i d)) → Each P xs
each_index P [] d h = tt
each_index P (x ∷ xs) d h = (h 0 (omega arith), each_index P xs d (λ i l. h (suc i) (omega (arith, l))))

-- what all slots ask of a class, by its number
pub asks_load : (classes : List (List ℕ)) (c : List ℕ) (f : ℕ → ℕ) (ss : List Slot) → Each (λ s. Each (λ need. IsKnown classes need.0) s.needs) ss
    → load_of (λ a. f (wanted a (class_number classes c))) (map (λ s. map (numbered classes) s.needs) ss) ≡ load_of (λ s. f (amount_of s.needs c)) ss
asks_load classes c f [] h = refl
asks_load classes c f (s ∷ ss) h = ap₂ (λ m n. f m + n) (wanted_is classes s.needs c h.0) (asks_load classes c f ss h.1)

pub all_known : (l : Ledger) → Each (λ s. Each (λ need. IsKnown (texts_in l) need.0) s.needs) (slots_of (asked_in l))
all_known l = each_index (λ s. Each (λ need. IsKnown (texts_in l) need.0) s.needs) (slots_of (asked_in l)) no_slot (known_in l)

pub asks_in : (l : Ledger) (c : List ℕ) (f : ℕ → ℕ) → load_of (λ a. f (wanted a (class_number (texts_in l) c))) (pairs_of l.asks.items) ≡ load_of (λ s. f (amount_of s.needs c)) (slots_of (asked_in l))
asks_in l c f = ap (load_of (λ a. f (wanted a (class_number (texts_in l) c)))) l.asked ∙ asks_load (texts_in l) c f (slots_of (asked_in l)) (all_known l)

-- Where no provider bears more of a weight than its room, rooms that are no less reach at a root what the later slots weigh.
pub reached : (all : List Provider) (asked : Asked) (q v : List ℕ) (r : ℕ) (weight : Slot → ℕ) (room rooms : ℕ → ℕ) → Bears all asked q weight room → ((p : ℕ) → p < length all → room p ≤ rooms p)
    → IsHosted all asked r (q ++ v) → load_of weight (later asked q) ≤ load_of rooms (hosts_of all r)
reached all asked q v r weight room rooms bears fits hosted =
    omega (arith, rooms_reach all asked q v r weight room bears hosted, load_within room rooms (length all) (hosts_of all r) (hosts_low all r) fits)

-- so the roots stay where they reach some of what all slots weigh
pub weighed_keeps : (all : List Provider) (asked : Asked) (old new : List Bool) (rooms : List ℕ) (most : ℕ) (weight : Slot → ℕ) (room : ℕ → ℕ) → Bears all asked [] weight room
    → ((p : ℕ) → p < length all → room p ≤ slice_index rooms p) → most ≤ load_of weight (slots_of asked) → AreRoots all asked old → length new ≡ length old → AreLimited all rooms most old new → AreRoots all asked new
weighed_keeps all asked old new rooms most weight room bears fits wants was count is = record {
  count = count ∙ was.count;
  hosts = keeps all asked old new (λ r. nat_le most (load_at all rooms r)) was.hosts is
      (λ r t low hosted. let reach = reached all asked [] t r weight room (λ p. slice_index rooms p) bears fits hosted in grind (arith, nat_tests));
}

-- what a column has left
pub column_left : (column : Column) (p : ℕ) → p < length (providers_in column.ledger.now) → left_on (providers_in column.ledger.now) (asked_in column.ledger.now) [] (class_bytes column.class.now) p ≡ slice_index column.rooms.items p
column_left column p h = omega (arith, column.empty.left p (class_bytes column.class.now) h column.known, column.left p h, ap (left_in column.ledger.now p) column.numbered)

pub sum_keeps : (column : Column) (old new : List Bool) (most : ℕ) → most ≤ load_of (λ a. wanted a column.number) (pairs_of column.ledger.now.asks.items) → MayHost column.ledger.now old → length new ≡ length old
    → AreLimited (providers_in column.ledger.now) column.rooms.items most old new → MayHost column.ledger.now new
sum_keeps column old new most less was count is =
    let l = column.ledger.now in
    let c = class_bytes column.class.now in
    weighed_keeps (providers_in l) (asked_in l) old new column.rooms.items most (λ s. amount_of s.needs c) (left_on (providers_in l) (asked_in l) [] c) (left_bears (providers_in l) (asked_in l) [] c)
    (λ p h. omega (arith, column_left column p h)) (omega (arith, asks_in l c (λ n. n), rw column.numbered at less)) was count is

pub pieces_keep : (column : Column) (old new : List Bool) (pieces : List ℕ) (a most : ℕ) → 0 < a → ArePieces column.rooms.items a pieces → most ≤ load_of (is_much column.number a) (pairs_of column.ledger.now.asks.items)
    → MayHost column.ledger.now old → length new ≡ length old → AreLimited (providers_in column.ledger.now) pieces most old new → MayHost column.ledger.now new
pieces_keep column old new pieces a most some are less was count is =
    let l = column.ledger.now in
    let c = class_bytes column.class.now in
    weighed_keeps (providers_in l) (asked_in l) old new pieces most (asks_much c a) (λ p. left_on (providers_in l) (asked_in l) [] c p / a) (pieces_bear (providers_in l) (asked_in l) [] c a some)
    (λ p h. omega (arith, ap (λ (n : ℕ). n / a) (column_left column p h), are p (omega (arith, h, column.as_many)))) (omega (arith, asks_in l c (λ n. if nat_le a n then 1 else 0), rw column.numbered at less)) was count is

pub lone_keep : (column : Column) (old new : List Bool) (pieces ones : List ℕ) (a most : ℕ) → 0 < a → ArePieces column.rooms.items a pieces → length pieces ≡ length column.rooms.items → AreOnes pieces ones
    → most ≤ count_of_lone column a → MayHost column.ledger.now old → length new ≡ length old → AreLimited (providers_in column.ledger.now) ones most old new → MayHost column.ledger.now new
lone_keep column old new pieces ones a most some are size one wants was count is =
    let l = column.ledger.now in
    let c = class_bytes column.class.now in
    weighed_keeps (providers_in l) (asked_in l) old new ones most (lone_much (asked_in l) c a) (λ p. min (left_on (providers_in l) (asked_in l) [] c p / a) 1) (lone_bears (providers_in l) (asked_in l) [] c a some)
    (λ p h. omega (arith, ap (λ (n : ℕ). n / a) (column_left column p h), are p (omega (arith, h, column.as_many)), one p (omega (arith, h, size, column.as_many)))) wants was count is

-- each class of a list is known there
known_at_place : {X : Type 0} (text : X → List ℕ) (xs : List X) (i : ℕ) (d : X) → i < length xs → IsKnown (map text xs) (text (slice_index_or xs i d))
known_at_place text [] i d h = absurd (omega arith)
known_at_place text (x ∷ xs) zero d h = let same = (bytes_eq-Decides (text x) (text x)).1 refl in rw same (omega arith)
known_at_place text (x ∷ xs) (suc i) d h = search (rules, known_at_place text xs i d (omega arith))

pub known_item : {X : Type 0} (text : X → List ℕ) (xs : List X) (i : ℕ) (x : X) → i < length xs → x ≡ slice_index_or xs i x → IsKnown (map text xs) (text x)
known_item text xs i x h is = subst (λ y. IsKnown (map text xs) (text y)) (sym is) (known_at_place text xs i x h)

-- ---- A choice for each slot

among_load : (f : ℕ → ℕ) (xs : List ℕ) (x : ℕ) → Among xs x → f x ≤ load_of f xs
among_load f [] x h = absurd h
among_load f (y ∷ xs) x h = search (rules, among_load f xs x)

-- what holds of each slot with its provider
placed_holds : (P : Slot → ℕ → Type 0) (ss : List Slot) (t : List ℕ) (s : ℕ) → length t ≡ length ss → s < length ss → Each (λ (y : Placed). P y.slot y.provider) (placed ss t)
    → P (slice_index_or ss s no_slot) (slice_index t s)
placed_holds P [] t s size h each = absurd (omega (arith, h))
placed_holds P (x ∷ ss) [] s size h each = absurd (omega (arith, size))
placed_holds P (x ∷ ss) (p ∷ t) zero size h each = each.0
placed_holds P (x ∷ ss) (p ∷ t) (suc s) size h each = placed_holds P ss t s (omega (arith, size)) (omega (arith, h)) each.1

-- a provider that serves a slot before anything is placed fits it, and holds what it asks
pub served_fits : (all : List Provider) (asked : Asked) (slot : Slot) (p : ℕ) → serves all asked [] slot p ≡ true
    → (fits all (record { slot = slot; provider = p }) ≡ true)
    × (list_all (λ (need : List ℕ × ℕ). holds (provider_at all p) need.0 (sum_on (assigned asked []) p need.0 + amount_of slot.needs need.0)) slot.needs ≡ true)
unfolding serves
served_fits all asked slot p h = and_parts _ _ h

-- at a root at which a candidate stands some choice of a slot is available
pub slot_hosted : (l : Ledger) (r : ℕ) (t : List ℕ) (s : ℕ) (choices rooms : List ℕ) → s < length (slots_of (asked_in l)) → IsHosted (providers_in l) (asked_in l) r t
    → choices ≡ choice_of (providers_in l) (asked_in l) (slot_at (asked_in l) s) → AreServing choices rooms → 1 ≤ load_of (λ p. slice_index rooms p) (hosts_of (providers_in l) r)
slot_hosted l r t s choices rooms h hosted are some =
    let all = providers_in l in
    let asked = asked_in l in
    let p = slice_index t s in
    let host = placed_holds (λ slot p. Among (hosts_of all r) p) (slots_of asked) t s hosted.list.long h (behind_hosts all asked [] t r hosted) in
    let there : Among choices p = subst (λ (xs : List ℕ). Among xs p) (sym are) (choice_there all asked t s hosted.list hosted.candidate h) in
    grind (arith, nat_tests, place_of, among_load)

pub slot_keeps : (l : Ledger) (old new : List Bool) (choices rooms : List ℕ) (s : ℕ) → s < length (slots_of (asked_in l)) → choices ≡ choice_in l s → AreServing choices rooms
    → MayHost l old → length new ≡ length old → AreLimited (providers_in l) rooms 1 old new → MayHost l new
slot_keeps l old new choices rooms s h are some was count is = record {
  count = count ∙ was.count;
  hosts = keeps (providers_in l) (asked_in l) old new (λ r. nat_le 1 (load_at (providers_in l) rooms r)) was.hosts is
      (λ r t low hosted. let reach = slot_hosted l r t s choices rooms h hosted are some in grind (arith, nat_tests));
}

-- it begins with the roots that the query takes
pub takes_host : (all : List Provider) (asked : Asked) (taken : List Bool) → taken ≡ map (takes_root all asked) (range_with_len 0 (length all)) → AreHosts all asked taken
takes_host all asked taken is r t h hosted =
    let n = length all in
    let size : r < length (range_with_len 0 n) = omega (arith, h, length-range_with_len 0 n) in
    let here : slice_index_or (range_with_len 0 n) r 0 ≡ r = get_or-range_with_len 0 n r 0 h ∙ omega arith in
    search (rules, get_or-map)

pub choice_low : (all : List Provider) (asked : Asked) (slot : Slot) → All (λ p. p < length all) (choice_of all asked slot)
choice_low all asked slot = All-from_recursion (λ p. p < length all) (choice_of all asked slot) (each_weaker _ (λ p. p < length all) (choice_of all asked slot) (λ p h. h.1) (each_choice all asked slot))

-- ---- Fronts that no marked root has

pub any_within : (f g : ℕ → Bool) (zs : List ℕ) → Each (λ z. f z ≡ true → g z ≡ true) zs → list_any f zs ≡ true → list_any g zs ≡ true
any_within f g [] each h = h
any_within f g (z ∷ zs) each h = search (rules, any_within f g zs each.1)

-- a front is dead where it stands at no marked root
pub root_dead : (all : List Provider) (asked : Asked) (q : List ℕ) (may : List Bool) → AreRoots all asked may → stand_at_marked all may q ≡ false → IsDead (search_of all asked) q
unfolding stand_at_marked
root_dead all asked q may roots none v list = false_from_ne_true _ (λ candidate.
    let s = stands all asked (q ++ v) list candidate in
    let all_here = (and_parts (stand_at all q s.root) (stand_at all v s.root) (sym (list_all-append (λ p. is_available_at all p s.root) q v) ∙ s.available)).0 in
    let has = any_there (λ r. slice_index_or may r false && stand_at all q r) (range_with_len 0 (length all)) s.root (range_there (length all) s.root s.low) (and_from _ _ (roots.hosts s.root _ s.low s.hosted) all_here) in
    false≢true (sym none ∙ has))

-- one slot more
pub load_take : (w : Slot → ℕ) (ss : List Slot) (s : ℕ) → s < length ss → load_of w (take (s + 1) ss) ≡ load_of w (take s ss) + w (slice_index_or ss s no_slot)
load_take w ss s h = ap (load_of w) (take_more ss s no_slot h) ∙ (load_of_append w (take s ss) (slice_index_or ss s no_slot ∷ []) ∙ omega arith)

-- what is told of a slot that needs a provider for itself
pub lone_told : (l : Ledger) (s k a w : ℕ) (c : List ℕ) (b : Bool) (v : Vec Ask) → s < length (slots_of (asked_in l)) → k ≡ class_number (texts_in l) c → b ≡ slice_index_or l.lone.items s b → v ≡ slice_index_or l.asks.items s v
    → w ≤ wanted (map ask_pair v.items) k → b ≡ true → a ≤ w → 1 ≤ lone_much (asked_in l) c a (slot_at (asked_in l) s)
lone_told l s k a w c b v h number is of less lone much = search (rules, lone_at, asks_at, wanted_is, known_in)
