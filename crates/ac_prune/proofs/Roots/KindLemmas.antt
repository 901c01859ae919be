-- Slots that have the same choices: what a root must have of these for them.
use Rattle.std.proofs.Common.{◌≡◌, ◌∙◌, ℕ, ◌/◌, ◌<◌, ◌≤◌, suc, Bool, true, false, List, [], ◌∷◌, inl, inr, length, map, refl, sym, ap, subst, arith, nat_le, slice_index, slice_index_or}
use Rattle.std.specs.Prelude.{if◌then◌else◌, min}
use Rattle.std.specs.List.{AllByRecursion as Each}
use Rattle.std.specs.Str.{bytes_eq}
use Rattle.std.specs.Global.{Vec}
use Rattle.std.proofs.lemmas.Bool.{cases_Bool, cases_eq, ne_eqb, eq-eqb, false≢true}
use Rattle.std.proofs.lemmas.Bool.Decides.{nat_tests}
use Rattle.std.proofs.lemmas.List.{get_or_default}
use Rattle.std.proofs.lemmas.Slice.Eq.{bytes_eq-Decides}
use Rattle.ac_base.specs.Names.{class_bytes}
use Rattle.ac_query.specs.Asked.{Asked, Slot, slots_of}
use Rattle.ac_cloud.specs.World.{Provider}
use Rattle.ac_rules.specs.Placed.{Placed, placed, slot_at, no_slot}
use Rattle.ac_rules.specs.Room.{class_number}
use Rattle.ac_prune.specs.Ahead.{load_of, weight_on, hosts_of, Bears, IsHosted, left_on, asks_much, lone_much, AreRoots}
use Rattle.ac_prune.specs.Left.{ask_pair, wanted}
use Rattle.ac_prune.specs.Left.Accounts.{providers_in, asked_in, texts_in}
use Rattle.ac_prune.specs.Loads.{AreLimited, MayHost, load_at}
use Rattle.ac_prune.specs.Loads.Kinds.{ArePiecesAmong, weight_among, asks_so, asks_alike, count_alike}
use Rattle.ac_prune.specs.Marks.{needs_own}
use Rattle.ac_prune.specs.QuerySearch.{choice_of}
use Rattle.ac_prune.specs.Trees.Keys.{is_there}
use Rattle.ac_prune.specs.declared.hosts.column.Column.{Column}
use Rattle.ac_prune.specs.declared.ledger.Ledger.{Ledger}
use Rattle.ac_prune.specs.declared.ledger.rooms.Ask.{Ask}
use Rattle.ac_rules.proofs.Elements.{Among}
use Rattle.ac_prune.proofs.Paths.BearLemmas.{pieces_bear, lone_bears}
use Rattle.ac_prune.proofs.Paths.LedgerLemmas.{asks_at, known_in}
use Rattle.ac_prune.proofs.Paths.LeftLemmas.{wanted_is}
use Rattle.ac_prune.proofs.Roots.CountLemmas.{boxes_reach, load_weaker}
use Rattle.ac_prune.proofs.Roots.HostLemmas.{behind_hosts, candidate_open, weight_placed}
use Rattle.ac_prune.proofs.Roots.PartLemmas.{choice_there}
use Rattle.ac_prune.proofs.Roots.RootLemmas.{column_left, keeps}
use Rattle.ac_prune.proofs.Roots.TreeLemmas.{among_there, there_at}
use Rattle.std.proofs.Common.{rules}

-- what holds of each slot with its provider, holds of all placed
placed_each : (P : Slot → ℕ → Type 0) (ss : List Slot) (t : List ℕ) → length t ≡ length ss → ((s : ℕ) → s < length ss → P (slice_index_or ss s no_slot) (slice_index t s)) → Each (λ (y : Placed). P y.slot y.provider) (placed ss t)
placed_each P [] t size h = tt
placed_each P (x ∷ ss) [] size h = absurd (omega (arith, size))
placed_each P (x ∷ ss) (p ∷ t) size h = (h 0 (omega arith), placed_each P ss t (omega (arith, size)) (λ s l. h (suc s) (omega (arith, l))))

-- a provider that isn't among some choices bears nothing of the slots that have these
outside_none : (all : List Provider) (asked : Asked) (choices : List ℕ) (weight : Slot → ℕ) (ys : List Placed) (p : ℕ) → Each (λ (y : Placed). Among (choice_of all asked y.slot) y.provider) ys → is_there choices p ≡ false
    → weight_on (weight_among all asked choices weight) ys p ≡ 0
outside_none all asked choices weight [] p each out = refl
outside_none all asked choices weight (y ∷ ys) p each out =
    let more = outside_none all asked choices weight ys p each.1 out in
    elim (cases_eq y.provider p) [
      | inr e ↦ let other = ne_eqb y.provider p e in rw other (omega (arith, more))
      | inl e ↦ let here = eq-eqb y.provider p e in elim (cases_Bool (bytes_eq (choice_of all asked y.slot) choices)) [
        | inr d ↦ rw (here, d) (omega (arith, more))
        | inl d ↦ absurd (false≢true (sym out ∙ among_there choices p (subst (Among choices) e (subst (λ (xs : List ℕ). Among xs y.provider) ((bytes_eq-Decides (choice_of all asked y.slot) choices).0 d) each.0))))
      ]
    ]

lighter : (all : List Provider) (asked : Asked) (choices : List ℕ) (weight : Slot → ℕ) (s : Slot) → weight_among all asked choices weight s ≤ weight s
lighter all asked choices weight s = elim (cases_Bool (bytes_eq (choice_of all asked s) choices)) [ inl e ↦ rw e (omega arith) | inr e ↦ rw e (omega arith) ]

-- Where no provider bears more of a weight than its room, the rooms of some choices reach at a root what the slots weigh that have these.
alike_reach : (all : List Provider) (asked : Asked) (t : List ℕ) (r : ℕ) (choices rooms : List ℕ) (weight : Slot → ℕ) (room : ℕ → ℕ) → Bears all asked [] weight room
    → ((p : ℕ) → is_there choices p ≡ true → room p ≤ slice_index rooms p) → IsHosted all asked r t → load_of (weight_among all asked choices weight) (slots_of asked) ≤ load_of (λ p. slice_index rooms p) (hosts_of all r)
alike_reach all asked t r choices rooms weight room bears fits hosted =
    let w = weight_among all asked choices weight in
    let ys = placed (slots_of asked) t in
    let each : Each (λ (y : Placed). Among (choice_of all asked y.slot) y.provider) ys =
    placed_each (λ slot p. Among (choice_of all asked slot) p) (slots_of asked) t hosted.list.long (λ s h. choice_there all asked t s hosted.list hosted.candidate h) in
    let bear : (p : ℕ) → weight_on w ys p ≤ slice_index rooms p = λ p. elim (cases_Bool (is_there choices p)) [
      | inl e ↦ omega (arith, load_weaker (λ (y : Placed). y.provider) (λ (y : Placed). w y.slot) (λ (y : Placed). weight y.slot) ys p (λ y. lighter all asked choices weight y.slot), bears t (candidate_open all asked t hosted.candidate) p, fits p e)
      | inr e ↦ omega (arith, outside_none all asked choices weight ys p each e)
    ] in
    omega (arith, boxes_reach (λ (y : Placed). y.provider) (λ (y : Placed). w y.slot) (λ p. slice_index rooms p) ys (hosts_of all r) (behind_hosts all asked [] t r hosted) bear, weight_placed w (slots_of asked) t hosted.list.long)

-- so the roots stay where they reach some of that
alike_keeps : (all : List Provider) (asked : Asked) (old new : List Bool) (choices rooms : List ℕ) (most : ℕ) (weight : Slot → ℕ) (room : ℕ → ℕ) → Bears all asked [] weight room
    → ((p : ℕ) → is_there choices p ≡ true → room p ≤ slice_index rooms p) → most ≤ load_of (weight_among all asked choices weight) (slots_of asked)
    → AreRoots all asked old → length new ≡ length old → AreLimited all rooms most old new → AreRoots all asked new
alike_keeps all asked old new choices rooms most weight room bears fits wants was count is = record {
  count = count ∙ was.count;
  hosts = keeps all asked old new (λ r. nat_le most (load_at all rooms r)) was.hosts is
      (λ r t low hosted. let reach = alike_reach all asked t r choices rooms weight room bears fits hosted in grind (arith, nat_tests));
}

-- the pieces of some choices in a column
pieces_here : (column : Column) (choices pieces : List ℕ) (a p : ℕ) (lone : Bool) → ArePiecesAmong column.rooms.items choices a lone pieces → ((j : ℕ) → j < length choices → slice_index choices j < length (providers_in column.ledger.now)) → is_there choices p ≡ true
    → (if lone then min (left_on (providers_in column.ledger.now) (asked_in column.ledger.now) [] (class_bytes column.class.now) p / a) 1 else left_on (providers_in column.ledger.now) (asked_in column.ledger.now) [] (class_bytes column.class.now) p / a) ≡ slice_index pieces p
pieces_here column choices pieces a p lone are low there =
    let at = there_at choices p there in
    let is : slice_index choices at.0 ≡ p = sym (get_or_default choices at.0 p 0 at.1) ∙ at.2 in
    let same = column_left column (slice_index choices at.0) (low at.0 at.1) in
    subst (λ (q : ℕ). (if lone then min (left_on (providers_in column.ledger.now) (asked_in column.ledger.now) [] (class_bytes column.class.now) q / a) 1 else left_on (providers_in column.ledger.now) (asked_in column.ledger.now) [] (class_bytes column.class.now) q / a) ≡ slice_index pieces q) is
    (ap (λ (n : ℕ). if lone then min (n / a) 1 else n / a) same ∙ sym (are at.0 at.1))

pub alike_pieces : (column : Column) (old new : List Bool) (choices pieces : List ℕ) (a most : ℕ) (lone : Bool) → 0 < a → ArePiecesAmong column.rooms.items choices a lone pieces
    → ((j : ℕ) → j < length choices → slice_index choices j < length (providers_in column.ledger.now)) → most ≤ count_alike column choices a lone
    → MayHost column.ledger.now old → length new ≡ length old → AreLimited (providers_in column.ledger.now) pieces most old new → MayHost column.ledger.now new
alike_pieces column old new choices pieces a most true some are low wants was count is =
    let l = column.ledger.now in
    let c = class_bytes column.class.now in
    alike_keeps (providers_in l) (asked_in l) old new choices pieces most (lone_much (asked_in l) c a) (λ p. min (left_on (providers_in l) (asked_in l) [] c p / a) 1) (lone_bears (providers_in l) (asked_in l) [] c a some)
    (λ p there. omega (arith, pieces_here column choices pieces a p true are low there)) wants was count is
alike_pieces column old new choices pieces a most false some are low wants was count is =
    let l = column.ledger.now in
    let c = class_bytes column.class.now in
    alike_keeps (providers_in l) (asked_in l) old new choices pieces most (asks_much c a) (λ p. left_on (providers_in l) (asked_in l) [] c p / a) (pieces_bear (providers_in l) (asked_in l) [] c a some)
    (λ p there. omega (arith, pieces_here column choices pieces a p false are low there)) wants was count is

-- ---- What is told of one slot

much_told : (l : Ledger) (s k a w : ℕ) (c : List ℕ) (v : Vec Ask) → s < length (slots_of (asked_in l)) → k ≡ class_number (texts_in l) c → v ≡ slice_index_or l.asks.items s v
    → w ≤ wanted (map ask_pair v.items) k → a ≤ w → 1 ≤ asks_much c a (slot_at (asked_in l) s)
much_told l s k a w c v h number of less much = search (rules, asks_at, wanted_is, known_in)

among_told : (all : List Provider) (asked : Asked) (choices : List ℕ) (weight : Slot → ℕ) (s : Slot) → choice_of all asked s ≡ choices → 1 ≤ weight s → 1 ≤ weight_among all asked choices weight s
among_told all asked choices weight s is some = let same = (bytes_eq-Decides (choice_of all asked s) choices).1 is in rw same some

own_much : (asked : Asked) (c : List ℕ) (a : ℕ) (s : Slot) → needs_own asked s ≡ true → 1 ≤ asks_much c a s → 1 ≤ lone_much asked c a s
own_much asked c a s own much = rw own much

pub alike_told : (column : Column) (s a w : ℕ) (choices : List ℕ) (lone : Bool) (v : Vec Ask) → s < length (slots_of (asked_in column.ledger.now)) → choice_of (providers_in column.ledger.now) (asked_in column.ledger.now) (slot_at (asked_in column.ledger.now) s) ≡ choices
    → v ≡ slice_index_or column.ledger.now.asks.items s v → w ≤ wanted (map ask_pair v.items) column.number → a ≤ w
    → (lone ≡ true → needs_own (asked_in column.ledger.now) (slot_at (asked_in column.ledger.now) s) ≡ true) → 1 ≤ asks_alike column choices a lone (slot_at (asked_in column.ledger.now) s)
alike_told column s a w choices lone v h same of less much own =
    let l = column.ledger.now in
    let c = class_bytes column.class.now in
    let some : 1 ≤ asks_much c a (slot_at (asked_in l) s) = much_told l s column.number a w c v h column.numbered of less much in
    among_told (providers_in l) (asked_in l) choices (asks_so (asked_in l) c a lone) (slot_at (asked_in l) s) same (by_kind lone own some)
  where
    by_kind : (b : Bool) → (b ≡ true → needs_own (asked_in column.ledger.now) (slot_at (asked_in column.ledger.now) s) ≡ true) → 1 ≤ asks_much (class_bytes column.class.now) a (slot_at (asked_in column.ledger.now) s)
        → 1 ≤ asks_so (asked_in column.ledger.now) (class_bytes column.class.now) a b (slot_at (asked_in column.ledger.now) s)
    by_kind true needs some = own_much (asked_in column.ledger.now) (class_bytes column.class.now) a (slot_at (asked_in column.ledger.now) s) (needs refl) some
    by_kind false needs some = some
