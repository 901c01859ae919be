-- What a ledger knows of a slot and a provider, and how it accounts for one provider more and less.
use Rattle.std.proofs.Common.{◌≡◌, ◌∙◌, ℕ, ◌+◌, ◌*◌, ◌<◌, ◌≤◌, ◌^◌, Bool, true, false, not, ◌&&◌, List, [], ◌∷◌, ◌++◌, map, length, Option, Some, None, refl, sym, ap, ap₂, arith, length-append, nat_le, nat_lt, replicate, slice_index, slice_index_or}
use Rattle.std.specs.Prelude.{◌==◌, if◌then◌else◌}
use Rattle.std.specs.Global.{Vec}
use Rattle.std.specs.List.{list_all, range_with_len, All, AllByRecursion as Each}
use Rattle.std.proofs.lemmas.Bool.{eq-eqb, false≢true, false_from_ne_true, leb-true}
use Rattle.std.proofs.lemmas.Nat.{mul-add-lt}
use Rattle.std.proofs.lemmas.List.Folds.{list_all-map}
use Rattle.std.proofs.lemmas.List.Sums.{AllPass-from_list_all}
use Rattle.std.proofs.lemmas.Bool.Decides.{nat_tests}
use Rattle.std.proofs.lemmas.List.{get_or-map, get_or-replicate, length-map}
use Rattle.std.proofs.lemmas.List.FromFn.{length-range_with_len, get_or-range_with_len}
use Rattle.std.proofs.lemmas.List.Elements.{recursion_from_All}
use Rattle.std.specs.List.Sorted.{IsStrictlySortedBy}
use Rattle.ac_base.specs.Names.{class_bytes}
use Rattle.ac_base.specs.Texts.{text_cmp}
use Rattle.ac_query.proofs.Values.NameSets.{one_rises}
use Rattle.ac_query.proofs.Values.NeedSteps.{classes_kept}
use Rattle.ac_query.specs.Asked.{Asked, Slot, Group, slots_of, slots_from, group_slots, class_slot}
use Rattle.ac_query.specs.Shown.Groups.{need_entry, suffix_of, group_asked, group_entry}
use Rattle.ac_query.specs.Shown.Queries.{asked_of}
use Rattle.ac_query.specs.Shown.Slots.{slot_shown}
use Rattle.ac_query.specs.declared.group.Need.{Need}
use Rattle.ac_query.specs.declared.group.Group as rust
use Rattle.ac_query.specs.declared.query.Query.{Query}
use Rattle.ac_cloud.specs.World.{Provider, provider_at, is_available_at, anchors_of}
use Rattle.ac_rules.specs.Placed.{placed, placed_at, slot_at, no_slot, assigned}
use Rattle.ac_rules.specs.Together.{amount_of, sum_on, holds, sums, isolate, takes_root}
use Rattle.ac_rules.specs.Judge.{is_open}
use Rattle.ac_rules.specs.Own.{fits}
use Rattle.ac_prune.specs.QuerySearch.{has_room_alone}
use Rattle.ac_rules.specs.Laws.{AskAmounts}
use Rattle.ac_rules.specs.Room.{class_number, IsKnown}
use Rattle.ac_prune.specs.Left.{AreLeft, AreRooms, ask_pair, numbered, wanted, wanted_at, has_each, suffices}
use Rattle.ac_prune.specs.Marks.{needs_own, marks_at, hits_at, turned, IsWithAll, AreMarks, AreHits, stand_at_marked}
use Rattle.ac_prune.specs.Trees.Keys.{is_there}
use Rattle.ac_prune.specs.Left.Accounts.{providers_in, asked_in, texts_in, left_in, Accounts}
use Rattle.ac_prune.specs.declared.ledger.rooms.Ask.{Ask}
use Rattle.ac_prune.specs.declared.ledger.Ledger.{Ledger}
use Rattle.ac_rules.proofs.Elements.{each_append, each_map, each_weaker}
use Rattle.ac_rules.proofs.SlotLemmas.{each_at}
use Rattle.ac_rules.proofs.ClassLemmas.{known_at}
use Rattle.ac_rules.proofs.PlacedLemmas.{placed_none}
use Rattle.ac_rules.proofs.EachSlot.FrontLemmas.{Opens, open_parts}
use Rattle.ac_prune.proofs.Search.OpenLemmas.{placed_next, open_together, front_open}
use Rattle.ac_prune.proofs.Paths.RowLemmas.{wanted_here, wanted_there}
use Rattle.ac_prune.proofs.Paths.LeftLemmas.{sums_next, sum_here, sum_more, wanted_is, each_suffices, holds_less, less_holds}
use Rattle.ac_prune.proofs.Paths.MarkLemmas.{isolate_next, anchor_marked, marks_more, marks_most, hits_more, hits_most, stand_more}
use Rattle.ac_prune.proofs.Roots.TreeLemmas.{anchor_there}
use Rattle.std.proofs.Common.{rules}

-- ---- Queries ask for amounts

needs_positive : (needs : List Need) → Each (λ need. 0 < need.1) (map need_entry needs)
needs_positive [] = tt
needs_positive (n ∷ needs) = (n.amount.positive, needs_positive needs)

abbrev Asks : Slot → Type 0
Asks s = Each (λ need. 0 < need.1) s.needs

group_asks : (i : ℕ) (suffix : Option (List ℕ)) (g : Group) → Each (λ need. 0 < need.1) g.needs → Each Asks (group_slots i (suffix, g))
group_asks i None g h = each_map Asks (class_slot i g) g.needs (each_weaker (λ need. 0 < need.1) (λ need. Asks (class_slot i g need)) g.needs (λ need p. (p, tt)) h)
group_asks i (Some s) g h = (h, tt)

slots_ask : (i : ℕ) (gs : List rust.Group) → Each Asks (slots_from i (map group_entry gs))
slots_ask i [] = tt
slots_ask i (g ∷ gs) = each_append Asks (group_slots i (group_entry g)) (slots_from (i + 1) (map group_entry gs)) (group_asks i (suffix_of g) (group_asked g) (needs_positive g.needs.items)) (slots_ask (i + 1) gs)

query_asks : (query : Query) → Each Asks (slots_of (asked_of query))
query_asks query = slots_ask 0 query.groups.items

-- ---- Queries ask for each class of a group once

abbrev Rises : Slot → Type 0
Rises s = IsStrictlySortedBy text_cmp (map (λ need. need.0) s.needs)

group_rises : (i : ℕ) (suffix : Option (List ℕ)) (g : Group) → IsStrictlySortedBy text_cmp (map (λ need. need.0) g.needs) → Each Rises (group_slots i (suffix, g))
group_rises i None g h = each_map Rises (class_slot i g) g.needs (each_needs g.needs)
  where
    each_needs : (needs : List (List ℕ × ℕ)) → Each (λ need. Rises (class_slot i g need)) needs
    each_needs [] = tt
    each_needs (n ∷ needs) = (one_rises n.0, each_needs needs)
group_rises i (Some s) g h = (h, tt)

slots_rise : (i : ℕ) (gs : List rust.Group) → Each Rises (slots_from i (map group_entry gs))
slots_rise i [] = tt
slots_rise i (g ∷ gs) = search (rules, each_append, group_rises, classes_kept, slots_rise (i + 1) gs)

pub slot_rises : (query : Query) (s : ℕ) → s < length (slots_of (asked_of query)) → Rises (slot_at (asked_of query) s)
slot_rises query s h = each_at Rises (slots_of (asked_of query)) s no_slot (slots_rise 0 query.groups.items) h

slot_asks : (query : Query) (s : ℕ) → s < length (slots_of (asked_of query)) → Asks (slot_at (asked_of query) s)
slot_asks query s h = each_at Asks (slots_of (asked_of query)) s no_slot (query_asks query) h

placed_ask : (ss : List Slot) (q : List ℕ) → Each Asks ss → AskAmounts (placed ss q)
placed_ask [] q h = tt
placed_ask (s ∷ ss) [] h = tt
placed_ask (s ∷ ss) (p ∷ q) h = (h.0, placed_ask ss q h.1)

pub few_slots : (query : Query) → length (slots_of (asked_of query)) ≤ 64
few_slots query = omega (arith, query.few, ap length query.slotted, length-map query.slots.items (slot_shown (map group_entry query.groups.items)), length-map (slots_of (asked_of query)) (λ (s : Slot). Some s))

-- ---- What it knows of a slot

pub known_in : (l : Ledger) (s : ℕ) → s < length (slots_of (asked_in l)) → Each (λ need. IsKnown (texts_in l) need.0) (slot_at (asked_in l) s).needs
known_in l s h = recursion_from_All (λ need. IsKnown (texts_in l) need.0) (slot_at (asked_in l) s).needs (l.known s h)

pub asks_at : (l : Ledger) (s : ℕ) (v : Vec Ask) → s < length (slots_of (asked_in l)) → v ≡ slice_index_or l.asks.items s v
    → map ask_pair v.items ≡ map (numbered (texts_in l)) (slot_at (asked_in l) s).needs
asks_at l s v h e =
    let f = λ (u : Vec Ask). map ask_pair u.items in
    let g = λ (slot : Slot). map (numbered (texts_in l)) slot.needs in
    let many : s < length l.asks.items = omega (arith, h, ap length l.asked, length-map l.asks.items f, length-map (slots_of (asked_in l)) g) in
    ap f e ∙ (sym (get_or-map f l.asks.items s v [] many) ∙ (ap (λ (ls : List (List (ℕ × ℕ))). slice_index_or ls s []) l.asked ∙ get_or-map g (slots_of (asked_in l)) s no_slot [] h))

-- some class has a number
abbrev HasClass : List (List ℕ) → ℕ → Type 0
HasClass texts k = (c : List ℕ) × IsKnown texts c × (class_number texts c ≡ k)

class_at : (l : Ledger) (s : ℕ) (v : Vec Ask) → s < length (slots_of (asked_in l)) → v ≡ slice_index_or l.asks.items s v → All (λ a. HasClass (texts_in l) a.class) v.items
class_at l s v h e i d less =
    let needs = (slot_at (asked_in l) s).needs in
    let is = asks_at l s v h e in
    let many : i < length needs = omega (arith, less, ap length is, length-map v.items ask_pair, length-map needs (numbered (texts_in l))) in
    let none : List ℕ × ℕ = ([], 0) in
    let pair = sym (get_or-map ask_pair v.items i d (0, 0) less) ∙ (ap (λ (ls : List (ℕ × ℕ)). slice_index_or ls i (0, 0)) is ∙ get_or-map (numbered (texts_in l)) needs i none (0, 0) many) in
    ((slice_index_or needs i none).0, each_at (λ need. IsKnown (texts_in l) need.0) needs i none (known_in l s h) many, sym (ap (λ (a : ℕ × ℕ). a.0) pair))

-- so its number is a column of each row
pub asks_low : (l : Ledger) (s : ℕ) (v : Vec Ask) → s < length (slots_of (asked_in l)) → v ≡ slice_index_or l.asks.items s v → All (λ a. a.class < length l.classes.items) v.items
asks_low l s v h e i d less = let at = class_at l s v h e i d less in omega (arith, at.1, at.2, length-map l.classes.items (λ v. class_bytes v.now))

pub row_low : (l : Ledger) (s p : ℕ) (v : Vec Ask) → s < length (slots_of (asked_in l)) → p < length (providers_in l) → v ≡ slice_index_or l.asks.items s v
    → All (λ a. p * length l.classes.items + a.class < length l.rooms.items) v.items
row_low l s p v h k e i d less = search (rules, mul-add-lt, asks_low)

pub lone_at : (l : Ledger) (s : ℕ) (b : Bool) → s < length (slots_of (asked_in l)) → b ≡ slice_index_or l.lone.items s b → b ≡ needs_own (asked_in l) (slot_at (asked_in l) s)
lone_at l s b h e = search (rules, get_or-map)

-- a test of each number below n, at one of them
pub mapped_at : (f : ℕ → Bool) (n r : ℕ) → r < n → slice_index_or (map f (range_with_len 0 n)) r false ≡ f r
mapped_at f n r h =
    let size : r < length (range_with_len 0 n) = omega (arith, h, length-range_with_len 0 n) in
    let here : slice_index_or (range_with_len 0 n) r 0 ≡ r = get_or-range_with_len 0 n r 0 h ∙ omega arith in
    search (rules, get_or-map)

taken_at : (l : Ledger) (r : ℕ) → r < length (providers_in l) → slice_index_or l.taken.items r false ≡ takes_root (providers_in l) (asked_in l) r
taken_at l r h = ap (λ (taken : List Bool). slice_index_or taken r false) l.rooted ∙ mapped_at (takes_root (providers_in l) (asked_in l)) (length (providers_in l)) r h

-- ---- One more provider

-- the sums hold exactly where the rooms suffice
sums_here : (l : Ledger) (q : List ℕ) (p : ℕ) → length q < length (slots_of (asked_in l)) → p < length (providers_in l) → Accounts l q → is_open (providers_in l) (asked_in l) q ≡ true
    → sums (providers_in l) (assigned (asked_in l) (q ++ p ∷ [])) ≡ suffices (left_in l p) (map (numbered (texts_in l)) (slot_at (asked_in l) (length q)).needs)
unfolding is_open
sums_here l q p h k accounts open_q =
    let asked = asked_in l in
    let slots = query_asks l.query.now in
    let next = placed_next asked q p h in
    let front : Opens (providers_in l) asked (assigned asked q) = open_parts (providers_in l) asked (assigned asked q) open_q in
    grind (arith, nat_tests, sums_next, known_in, placed_ask, slot_asks)

pub open_next : (l : Ledger) (q : List ℕ) (p : ℕ) → length q < length (slots_of (asked_in l)) → p < length (providers_in l) → Accounts l q
    → list_all (λ x. fits (providers_in l) x) (assigned (asked_in l) (q ++ p ∷ [])) ≡ true → is_open (providers_in l) (asked_in l) q ≡ true
    → is_open (providers_in l) (asked_in l) (q ++ p ∷ [])
    ≡ (suffices (left_in l p) (map (numbered (texts_in l)) (slot_at (asked_in l) (length q)).needs)
    && (not (needs_own (asked_in l) (slot_at (asked_in l) (length q)) && nat_lt 0 (slice_index l.marks.items p))
    && stand_at_marked (providers_in l) l.taken.items (q ++ p ∷ [])))
unfolding is_open
open_next l q p h k accounts own open_q =
    let all = providers_in l in
    let asked = asked_in l in
    let front : Opens all asked (assigned asked q) = open_parts all asked (assigned asked q) open_q in
    let apart : isolate asked (assigned asked (q ++ p ∷ [])) ≡ not (needs_own asked (slot_at asked (length q)) && nat_lt 0 (slice_index l.marks.items p)) =
    rw (placed_next asked q p h, accounts.marks p k) (isolate_next asked (assigned asked q) (placed_at asked (length q) p) front.isolate) in
    open_together all asked (q ++ p ∷ []) own
    ∙ ap₂ (λ a b. a && b) (sums_here l q p h k accounts open_q)
    (ap₂ (λ a b. a && b) apart (sym (anchor_marked all asked (slots_of asked) (q ++ p ∷ []) l.taken.items (omega (arith, h, length-append q (p ∷ []))) (taken_at l))))

-- ---- Room to count

placed_few : (ss : List Slot) (q : List ℕ) → length (placed ss q) ≤ length q
placed_few [] q = omega arith
placed_few (s ∷ ss) [] = omega arith
placed_few (s ∷ ss) (p ∷ q) = let more = placed_few ss q in omega arith

-- an open front has room for what its last provider takes
pub room_for : (l : Ledger) (q : List ℕ) (p : ℕ) (v : Vec Ask) → length q < length (slots_of (asked_in l)) → p < length (providers_in l) → Accounts l q → is_open (providers_in l) (asked_in l) (q ++ p ∷ []) ≡ true
    → v ≡ slice_index_or l.asks.items (length q) v
    → All (λ a. wanted_at (p * length l.classes.items) v.items (p * length l.classes.items + a.class) ≤ slice_index l.rooms.items (p * length l.classes.items + a.class)) v.items
unfolding is_open
room_for l q p v h within accounts opens e i d less =
    let whole : Opens (providers_in l) (asked_in l) (assigned (asked_in l) (q ++ p ∷ [])) = open_parts (providers_in l) (asked_in l) (assigned (asked_in l) (q ++ p ∷ [])) opens in
    let enough : suffices (left_in l p) (map ask_pair v.items) ≡ true =
    ap (suffices (left_in l p)) (asks_at l (length q) v h e) ∙ (sym (sums_here l q p h within accounts (front_open (providers_in l) (asked_in l) q (p ∷ []) opens)) ∙ whole.sums) in
    let fits = leb-true _ _ (AllPass-from_list_all _ v.items (sym (list_all-map (λ a. nat_le (wanted (map ask_pair v.items) a.0) (left_in l p a.0)) ask_pair v.items) ∙ enough) i d less) in
    omega (arith, fits, wanted_here v.items (p * length l.classes.items) (slice_index_or v.items i d).class)

pub room_to_mark : (l : Ledger) (q : List ℕ) (p : ℕ) → length q < length (slots_of (asked_in l)) → p < length (providers_in l) → Accounts l q → slice_index l.marks.items p < 64
room_to_mark l q p h within accounts = search (rules, marks_most, placed_few, few_slots)

-- what is given back was taken of a small room
pub room_back : (l : Ledger) (q : List ℕ) (p : ℕ) (v : Vec Ask) → length q < length (slots_of (asked_in l)) → p < length (providers_in l) → Accounts l (q ++ p ∷ [])
    → v ≡ slice_index_or l.asks.items (length q) v
    → All (λ a. slice_index l.rooms.items (p * length l.classes.items + a.class) + wanted_at (p * length l.classes.items) v.items (p * length l.classes.items + a.class) < 2 ^ 64) v.items
room_back l q p v h within accounts e i d less =
    let at = class_at l (length q) v h e i d less in
    let c = at.0 in
    let sum = sum_here (assigned (asked_in l) q) (placed_at (asked_in l) (length q) p) p c refl in
    let same = ap (λ xs. sum_on xs p c) (placed_next (asked_in l) q p h) in
    search (rules, wanted_here, asks_at, wanted_is, known_in)

pub mark_there : (l : Ledger) (q : List ℕ) (p : ℕ) → length q < length (slots_of (asked_in l)) → p < length (providers_in l) → Accounts l (q ++ p ∷ [])
    → needs_own (asked_in l) (slot_at (asked_in l) (length q)) ≡ true → 0 < slice_index l.marks.items p
mark_there l q p h within accounts lone =
    let asked = asked_in l in
    let itself = eq-eqb p p refl in
    let more = rw (lone, itself) at (marks_more asked (assigned asked q) (placed_at asked (length q) p) p) in
    let same = ap (λ xs. marks_at asked xs p) (placed_next asked q p h) in
    omega (arith, accounts.marks p within, same, more)

-- ---- The accounts of one more and of one less

-- what a provider more takes of each room
moved : (l : Ledger) (s p r : ℕ) (v : Vec Ask) (c : List ℕ) (less more : List ℕ) → s < length (slots_of (asked_in l)) → v ≡ slice_index_or l.asks.items s v → IsKnown (texts_in l) c
    → ((i : ℕ) → slice_index less i + wanted_at (p * length l.classes.items) v.items i ≡ slice_index more i)
    → slice_index less (r * length l.classes.items + class_number (texts_in l) c) + (if p == r then amount_of (slot_at (asked_in l) s).needs c else 0) ≡ slice_index more (r * length l.classes.items + class_number (texts_in l) c)
moved l s p r v c less more h e known moves = search (rules, wanted_there, recursion_from_All, asks_low, length-map, asks_at, wanted_is, known_in)

pub left_next : (l : Ledger) (q : List ℕ) (p : ℕ) (v : Vec Ask) (new : List ℕ) → length q < length (slots_of (asked_in l)) → v ≡ slice_index_or l.asks.items (length q) v
    → ((i : ℕ) → slice_index new i + wanted_at (p * length l.classes.items) v.items i ≡ slice_index l.rooms.items i) → Accounts l q
    → AreLeft (providers_in l) (texts_in l) (λ r k. slice_index new (r * length l.classes.items + k)) (assigned (asked_in l) (q ++ p ∷ []))
left_next l q p v new h e moves accounts r c low known =
    omega (arith, moved l (length q) p r v c new l.rooms.items h e known moves, accounts.left r c low known, sum_more (assigned (asked_in l) q) (placed_at (asked_in l) (length q) p) r c, ap (λ xs. sum_on xs r c) (placed_next (asked_in l) q p h))

pub left_back : (l : Ledger) (q : List ℕ) (p : ℕ) (v : Vec Ask) (new : List ℕ) → length q < length (slots_of (asked_in l)) → v ≡ slice_index_or l.asks.items (length q) v
    → ((i : ℕ) → slice_index new i ≡ slice_index l.rooms.items i + wanted_at (p * length l.classes.items) v.items i) → Accounts l (q ++ p ∷ [])
    → AreLeft (providers_in l) (texts_in l) (λ r k. slice_index new (r * length l.classes.items + k)) (assigned (asked_in l) q)
left_back l q p v new h e moves accounts r c low known =
    omega (arith, moved l (length q) p r v c l.rooms.items new h e known (λ i. sym (moves i)), accounts.left r c low known, sum_more (assigned (asked_in l) q) (placed_at (asked_in l) (length q) p) r c, ap (λ xs. sum_on xs r c) (placed_next (asked_in l) q p h))

pub marks_next : (all : List Provider) (asked : Asked) (q : List ℕ) (p : ℕ) (lone : Bool) (old new : List ℕ) → length q < length (slots_of asked) → lone ≡ needs_own asked (slot_at asked (length q))
    → ((r : ℕ) → slice_index new r ≡ slice_index old r + (if lone && (p == r) then 1 else 0)) → AreMarks all asked old (assigned asked q) → AreMarks all asked new (assigned asked (q ++ p ∷ []))
marks_next all asked q p lone old new h is change old_marks r within = search (rules, marks_more, placed_next)

pub marks_back : (all : List Provider) (asked : Asked) (q : List ℕ) (p : ℕ) (lone : Bool) (old new : List ℕ) → length q < length (slots_of asked) → lone ≡ needs_own asked (slot_at asked (length q))
    → ((r : ℕ) → slice_index new r + (if lone && (p == r) then 1 else 0) ≡ slice_index old r) → AreMarks all asked old (assigned asked (q ++ p ∷ [])) → AreMarks all asked new (assigned asked q)
marks_back all asked q p lone old new h is change old_marks r within = search (rules, marks_more, placed_next)

-- one more is counted at each root where all before it are, of a provider that is available wherever all are
turn_more : (there here : Bool) (n m : ℕ) → ((m == n) && here ≡ true → there ≡ true) → turned (there && here) n (n + 1) m ≡ turned here n (n + 1) m
turn_more there here n m h = grind (arith, nat_tests)

pub hits_next : (all : List Provider) (q : List ℕ) (p other : ℕ) (old new : List ℕ) → IsWithAll all (q ++ p ∷ []) other
    → ((r : ℕ) → slice_index new r ≡ turned (is_there (anchors_of all other) r && is_available_at all p r) (length q) (length q + 1) (slice_index old r))
    → AreHits all old q → AreHits all new (q ++ p ∷ [])
hits_next all q p other old new with_all change old_hits r within =
    let there : (hits_at all q r == length q) && is_available_at all p r ≡ true → is_there (anchors_of all other) r ≡ true = λ e. anchor_there all other r within (with_all r (stand_more all q p r ∙ e)) in
    rw (change r, old_hits r within, turn_more (is_there (anchors_of all other) r) (is_available_at all p r) (length q) (hits_at all q r) there) (sym (hits_more all q p r))

-- and given back at each where it was counted
turn_back : (there here : Bool) (n m : ℕ) → m ≤ n → ((m == n) && here ≡ true → there ≡ true) → turned there (n + 1) n (turned here n (n + 1) m) ≡ m
turn_back there here n m most h = grind (arith, nat_tests)

pub hits_back : (all : List Provider) (q : List ℕ) (p other : ℕ) (old new : List ℕ) → IsWithAll all (q ++ p ∷ []) other
    → ((r : ℕ) → slice_index new r ≡ turned (is_there (anchors_of all other) r) (length q + 1) (length q) (slice_index old r))
    → AreHits all old (q ++ p ∷ []) → AreHits all new q
hits_back all q p other old new with_all change old_hits r within = search (rules, turn_back, hits_most, anchor_there, stand_more, hits_more)

-- ---- The accounts of nothing

pub left_none : (all : List Provider) (asked : Asked) (texts : List (List ℕ)) (w : ℕ) (rooms : List ℕ) → w ≡ length texts → AreRooms all texts w rooms → AreLeft all texts (λ p k. slice_index rooms (p * w + k)) (assigned asked [])
left_none all asked texts w rooms e are p c h known = search (rules, known_at, placed_none)

pub marks_empty : (all : List Provider) (asked : Asked) (marks : List ℕ) → marks ≡ replicate (length all) 0 → AreMarks all asked marks (assigned asked [])
marks_empty all asked marks made p h = search (rules, get_or-replicate, placed_none)

pub hits_empty : (all : List Provider) (hits : List ℕ) → hits ≡ replicate (length all) 0 → AreHits all hits []
hits_empty all hits made r h = ap (λ (l : List ℕ). slice_index l r) made ∙ get_or-replicate (length all) r 0 0 h

-- ---- Room for a slot alone

each_alone : (l : Ledger) (p : ℕ) (needs : List (List ℕ × ℕ)) → p < length (providers_in l) → Accounts l [] → Each (λ need. IsKnown (texts_in l) need.0) needs → Each (λ need. 0 < need.1) needs
    → has_each (left_in l p) (map (numbered (texts_in l)) needs) ≡ list_all (λ (need : List ℕ × ℕ). holds (provider_at (providers_in l) p) need.0 need.1) needs
each_alone l p [] low accounts known some = refl
each_alone l p (n ∷ ns) low accounts known some = search (rules, placed_none, holds_less, false_from_ne_true, false≢true, less_holds, each_alone l p ns low accounts known.1 some.1)

-- the row of a provider has enough for a slot exactly where the provider has room for it alone
pub enough_alone : (l : Ledger) (s p : ℕ) → s < length (slots_of (asked_in l)) → p < length (providers_in l) → Accounts l []
    → suffices (left_in l p) (map (numbered (texts_in l)) (slot_at (asked_in l) s).needs) ≡ has_room_alone (providers_in l) (placed_at (asked_in l) s p)
unfolding has_room_alone
enough_alone l s p h low accounts =
    let needs = (slot_at (asked_in l) s).needs in
    sym (each_suffices (texts_in l) (left_in l p) needs (known_in l s h) (slot_rises l.query.now s h))
    ∙ each_alone l p needs low accounts (known_in l s h) (each_at Asks (slots_of (asked_in l)) s no_slot (query_asks l.query.now) h)
