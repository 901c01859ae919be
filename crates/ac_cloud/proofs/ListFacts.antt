-- Lists that stand one after the other in one list.
use Rattle.ac_cloud.proofs.Common.{◌≡◌, ◌∙◌, ◌+◌, ◌-◌, ◌<◌, ◌≤◌, ◌++◌, ◌⊎◌, ℕ, zero, suc, List, [], ◌∷◌, map, length, get_or, take, drop, refl, sym, ap, ap₂, inl, inr, ◌≢◌, rules, arith, range_with_len, sum_by, length-map, length-take-le, get_or_append_left, get_or-map-range_with_len, length-range_with_len, map-map}
use Rattle.std.proofs.lemmas.List.FromFn.{map-range_with_len_more, sum_by-map-range_with_len_more}
use Rattle.std.proofs.lemmas.Bool.{cases_lt}
use Rattle.std.proofs.lemmas.List.{drop-append-le, drop-map, drop-set-add, drop-set-lt, ext_get_or, get_or-drop, get_or-set_other, get_or-set_same, get_or-take, length-set, take-append-le, take-map, take-set-le}
use Rattle.std.proofs.Math.Seq.{drop-append_seam, get_or-append_seam, take-length, take-set-lt}
use Rattle.std.proofs.Common.{add-one, length-append, length-drop, set}
use Rattle.ac_cloud.specs.ListBounds.{AreBounds, list_at, lists_in}

pub map_same : {X Y : Type 0} (f g : X → Y) → ((x : X) → f x ≡ g x) → (xs : List X) → map f xs ≡ map g xs
map_same f g same [] = refl
map_same f g same (x ∷ xs) = ap₂ (λ y l. y ∷ l) (same x) (map_same f g same xs)

-- equal at each number of a range
pub range_same : {X : Type 0} (f g : ℕ → X) (k n : ℕ) → ((p : ℕ) → k ≤ p → p < k + n → f p ≡ g p) → map f (range_with_len k n) ≡ map g (range_with_len k n)
range_same f g k zero same = refl
range_same f g k (suc n) same = ap₂ (λ y l. y ∷ l) (same k (omega arith) (omega arith)) (range_same f g (k + 1) n (λ p low high. same p (omega arith) (omega arith)))

module _ {X : Type 0} (items : List X) (starts : List ℕ) where
  pub lists_size : length (lists_in items starts) ≡ length starts - 1
  unfolding lists_in
  lists_size = length-map (range_with_len 0 (length starts - 1)) (list_at items starts) ∙ length-range_with_len 0 (length starts - 1)

  pub list_here : (p : ℕ) → p < length (lists_in items starts) → get_or (lists_in items starts) p [] ≡ list_at items starts p
  unfolding lists_in
  list_here p h = grind (arith, get_or-map-range_with_len, length-map, length-range_with_len)

  sum_to : AreBounds (length items) starts → (n : ℕ) → n < length starts → sum_by length (map (list_at items starts) (range_with_len 0 n)) ≡ get_or starts n 0
  sum_to b zero h = sym b.first
  sum_to b (suc n) h =
      let fits = b.inside (n + 1) (omega arith) in
      let size = length-take-le (get_or starts (n + 1) 0 - get_or starts n 0) (drop (get_or starts n 0) items) (omega (arith, length-drop (get_or starts n 0) items, fits)) in
      let here : sum_by length (map (list_at items starts) (range_with_len 0 n)) + length (list_at items starts n) ≡ get_or starts (n + 1) 0 =
      omega (arith, sum_to b n (omega arith), size, b.order n (omega arith)) in
      ap (λ m. sum_by length (map (list_at items starts) (range_with_len 0 m))) (sym (add-one n))
      ∙ sum_by-map-range_with_len_more length (list_at items starts) 0 n n (omega arith) ∙ here ∙ ap (λ m. get_or starts m 0) (add-one n)

  pub lists_sum : AreBounds (length items) starts → length items ≡ sum_by length (lists_in items starts)
  unfolding lists_in
  lists_sum b = let some = b.some in sym (sum_to b (length starts - 1) (omega arith) ∙ b.last)

  pub lists_map : {Y : Type 0} (f : X → Y) → lists_in (map f items) starts ≡ map (map f) (lists_in items starts)
  unfolding lists_in
  lists_map f =
      map_same (list_at (map f items) starts) (λ p. map f (list_at items starts p)) (λ p.
      ap (take (get_or starts (p + 1) 0 - get_or starts p 0)) (drop-map f (get_or starts p 0) items)
      ∙ take-map f (get_or starts (p + 1) 0 - get_or starts p 0) (drop (get_or starts p 0) items)) (range_with_len 0 (length starts - 1))
      ∙ sym (map-map (map f) (list_at items starts) (range_with_len 0 (length starts - 1)))

-- one list more
module _ {X : Type 0} (items : List X) (starts : List ℕ) (b : AreBounds (length items) starts) (list : List X) where
  abbrev more : List ℕ
  more = starts ++ length (items ++ list) ∷ []

  size : length more ≡ length starts + 1
  size = length-append starts (length (items ++ list) ∷ [])

  before : (p : ℕ) → p < length starts → get_or (starts ++ length (items ++ list) ∷ []) p 0 ≡ get_or starts p 0
  before p h = get_or_append_left starts (length (items ++ list) ∷ []) 0 p h

  behind : get_or (starts ++ length (items ++ list) ∷ []) (length starts) 0 ≡ length (items ++ list)
  behind = get_or-append_seam starts (length (items ++ list)) [] 0

  fits : length items ≤ length (items ++ list)
  fits = omega (arith, length-append items list)

  at_or_before : (p : ℕ) → p < length more → (p < length starts) ⊎ (p ≡ length starts)
  at_or_before p h = let s = size in search (arith, rules)

  pub bounds_more : AreBounds (length (items ++ list)) (starts ++ length (items ++ list) ∷ [])
  bounds_more = record {
    some = omega (arith, size);
    first = before 0 b.some ∙ b.first;
    last = ap (λ (p : ℕ). get_or more p 0) (omega (arith, size)) ∙ behind;
    order = λ p h. elim (at_or_before (p + 1) h) [
      | inl k ↦ omega (arith, before p (omega arith), before (p + 1) k, b.order p k)
      | inr e ↦ omega (arith, before p (omega arith), b.inside p (omega arith), fits, ap (λ (q : ℕ). get_or more q 0) e ∙ behind)
    ];
    inside = λ p h. elim (at_or_before p h) [
      | inl k ↦ omega (arith, before p k, b.inside p k, fits)
      | inr e ↦ omega (arith, ap (λ (q : ℕ). get_or more q 0) e ∙ behind)
    ];
  }

  same_list : (p : ℕ) → p + 1 < length starts → list_at (items ++ list) (starts ++ length (items ++ list) ∷ []) p ≡ list_at items starts p
  same_list p h =
      let from = get_or starts p 0 in
      let to = get_or starts (p + 1) 0 in
      ap₂ (λ (s e : ℕ). take (e - s) (drop s (items ++ list))) (before p (omega arith)) (before (p + 1) h)
      ∙ ap (take (to - from)) (drop-append-le from items list (b.inside p (omega arith)))
      ∙ take-append-le (to - from) (drop from items) list (omega (arith, length-drop from items, b.inside (p + 1) h))

  last_list : list_at (items ++ list) (starts ++ length (items ++ list) ∷ []) (length starts - 1) ≡ list
  last_list =
      let some = b.some in
      let from : get_or more (length starts - 1) 0 ≡ length items = before (length starts - 1) (omega arith) ∙ b.last in
      let to : get_or more (length starts - 1 + 1) 0 ≡ length (items ++ list) = ap (λ (p : ℕ). get_or more p 0) (omega arith) ∙ behind in
      ap₂ (λ (s e : ℕ). take (e - s) (drop s (items ++ list))) from to
      ∙ ap₂ (λ (n : ℕ) (l : List X). take n l) (omega (arith, length-append items list)) (drop-append_seam items list)
      ∙ take-length list

  pub lists_more : lists_in (items ++ list) (starts ++ length (items ++ list) ∷ []) ≡ lists_in items starts ++ list ∷ []
  unfolding lists_in
  lists_more =
      let some = b.some in
      let n = length starts - 1 in
      ap (λ (k : ℕ). map (list_at (items ++ list) more) (range_with_len 0 k)) (omega (arith, size))
      ∙ map-range_with_len_more (list_at (items ++ list) more) 0 n n (omega arith)
      ∙ ap₂ (λ (l : List (List X)) (x : List X). l ++ x ∷ [])
      (range_same (list_at (items ++ list) more) (list_at items starts) 0 n (λ p low high. same_list p (omega arith))) last_list

-- one item replaced
module _ {X : Type 0} (items : List X) (starts : List ℕ) (b : AreBounds (length items) starts) where
  starts_rise : (p n q : ℕ) → p + n ≡ q → q < length starts → get_or starts p 0 ≤ get_or starts q 0
  starts_rise p zero q e h = let same : p ≡ q = omega (arith, e) in omega (arith, ap (λ (j : ℕ). get_or starts j 0) same)
  starts_rise p (suc n) q e h =
      omega (arith, starts_rise (p + 1) n q (omega arith) h, b.order p (omega arith))

  abbrev from : ℕ → ℕ
  from p = get_or starts p 0

  same_before : (p k q : ℕ) (x : X) → q < p → p < length starts → list_at (set items (get_or starts p 0 + k) x) starts q ≡ list_at items starts q
  same_before p k q x less h =
      let up : get_or starts q 0 ≤ get_or starts (q + 1) 0 = b.order q (omega arith) in
      let below : get_or starts (q + 1) 0 ≤ get_or starts p 0 = starts_rise (q + 1) (p - (q + 1)) p (omega arith) h in
      ap (λ (j : ℕ). take (from (q + 1) - from q) (drop (from q) (set items j x))) (omega (arith, up, below))
      ∙ ap (take (from (q + 1) - from q)) (drop-set-add (from q) items (from p + k - from q) x)
      ∙ take-set-le (from (q + 1) - from q) (drop (from q) items) (from p + k - from q) x (omega (arith, up, below))

  same_behind : (p k q : ℕ) (x : X) → p < q → q < length starts → k < get_or starts (p + 1) 0 - get_or starts p 0
      → list_at (set items (get_or starts p 0 + k) x) starts q ≡ list_at items starts q
  same_behind p k q x less h inside =
      ap (take (from (q + 1) - from q)) (drop-set-lt (from q) items (from p + k) x (omega (arith, starts_rise (p + 1) (q - (p + 1)) q (omega arith) h)))

  set_here : (p k : ℕ) (x : X) → k < get_or starts (p + 1) 0 - get_or starts p 0
      → list_at (set items (get_or starts p 0 + k) x) starts p ≡ set (list_at items starts p) k x
  set_here p k x inside =
      ap (take (from (p + 1) - from p)) (drop-set-add (from p) items k x)
      ∙ take-set-lt (from (p + 1) - from p) (drop (from p) items) k x inside

  -- a place of a list is one of all items
  pub place_inside : (p k : ℕ) → p < length (lists_in items starts) → k < length (get_or (lists_in items starts) p [])
      → (k < get_or starts (p + 1) 0 - get_or starts p 0) × (get_or starts p 0 + k < length items)
  place_inside p k h inside =
      let fits = b.inside (p + 1) (omega (arith, lists_size items starts)) in
      let size = length-take-le (from (p + 1) - from p) (drop (from p) items) (omega (arith, length-drop (from p) items, fits)) in
      let small : k < get_or starts (p + 1) 0 - get_or starts p 0 = omega (arith, inside, size, ap length (list_here items starts p h)) in
      (small, omega (arith, small, fits))

  pub item_here : (p k : ℕ) (d : X) → p < length (lists_in items starts) → k < length (get_or (lists_in items starts) p [])
      → get_or (get_or (lists_in items starts) p []) k d ≡ get_or items (get_or starts p 0 + k) d
  item_here p k d h inside =
      ap (λ l. get_or l k d) (list_here items starts p h)
      ∙ get_or-take (from (p + 1) - from p) (drop (from p) items) k d (place_inside p k h inside).0 ∙ get_or-drop (from p) items k d

  pub lists_set : (p k : ℕ) (x : X) → p < length (lists_in items starts) → k < length (get_or (lists_in items starts) p [])
      → lists_in (set items (get_or starts p 0 + k) x) starts ≡ set (lists_in items starts) p (set (get_or (lists_in items starts) p []) k x)
  lists_set p k x h inside =
      let news = set items (from p + k) x in
      let some : p + 1 < length starts = omega (arith, lists_size items starts) in
      let small = (place_inside p k h inside).0 in
      let size : length (lists_in news starts) ≡ length (set (lists_in items starts) p (set (get_or (lists_in items starts) p []) k x)) =
      lists_size news starts ∙ sym (lists_size items starts) ∙ sym (length-set (lists_in items starts) p (set (get_or (lists_in items starts) p []) k x)) in
      ext_get_or [] (lists_in news starts) (set (lists_in items starts) p (set (get_or (lists_in items starts) p []) k x)) size
      (λ q there.
      let low : q + 1 < length starts = omega (arith, lists_size news starts) in
      list_here news starts q there
      ∙ elim (cases_lt q p) [
        | inl less ↦
            let other : q ≢ p = omega arith in
            same_before p k q x less (omega arith)
            ∙ sym (get_or-set_other (lists_in items starts) p q (set (get_or (lists_in items starts) p []) k x) [] other ∙ list_here items starts q (omega (arith, lists_size items starts)))
        | inr more ↦ elim (cases_lt p q) [
          | inl less ↦
              let other : q ≢ p = omega arith in
              same_behind p k q x less (omega arith) small
              ∙ sym (get_or-set_other (lists_in items starts) p q (set (get_or (lists_in items starts) p []) k x) [] other ∙ list_here items starts q (omega (arith, lists_size items starts)))
          | inr least ↦
              let same : q ≡ p = omega arith in
              ap (list_at news starts) same ∙ set_here p k x small
              ∙ ap (λ l. set l k x) (sym (list_here items starts p h))
              ∙ sym (ap (λ (j : ℕ). get_or (set (lists_in items starts) p (set (get_or (lists_in items starts) p []) k x)) j []) same
              ∙ get_or-set_same (lists_in items starts) p (set (get_or (lists_in items starts) p []) k x) [] h)
        ]
      ])

-- what shows that a list was put behind others
pub ruleset one_more = (bounds_more, lists_more)

-- what shows how many lists there are, which ones, and how many items
pub ruleset of_lists = (lists_size, list_here, lists_sum)
