-- Inventories beside how much of each is used.
use Rattle.ac_tables.proofs.Common.{◌≡◌, ◌∙◌, ◌+◌, ◌++◌, ◌<◌, ℕ, zero, suc, List, [], ◌∷◌, map, length, get_or, take, drop, subst, refl, sym, ap, ap₂, arith, ◌==◌, All, filter, range_with_len, unwrap_or, bytes_eq, map-append, InventoryNumbers, ClassName, TextMap, UsedInventory, with_used, entry_class, entry_pair, Entry, class_bytes, class_pair, with_used_lists, TableRow, map-map}
use Rattle.std.specs.Map.{lookup}
use Rattle.std.proofs.lemmas.List.{take_more}
use Rattle.std.proofs.lemmas.List.FromFn.{map-range_with_len_more}

-- of maps of one list
pub zip_maps : (f : ℕ → TextMap ℕ) (g : ℕ → TextMap InventoryNumbers) (ids : List ℕ) → with_used_lists (map f ids) (map g ids) ≡ map (λ id. with_used (f id) (g id)) ids
zip_maps f g [] = refl
zip_maps f g (x ∷ ids) = ap (λ l. with_used (f x) (g x) ∷ l) (zip_maps f g ids)

-- what a provider has of its classes, by its place
abbrev pub used_at : List (TableRow ClassName ℕ) → List (TableRow ClassName InventoryNumbers) → ℕ → TextMap UsedInventory
used_at usages inventories p = with_used (map class_pair (filter (λ r. r.place == p) usages)) (map class_pair (filter (λ r. r.place == p) inventories))

-- one entry more
pub entry_more : (used : TextMap ℕ) (rows : List (TableRow ClassName InventoryNumbers)) (i : ℕ) (row : TableRow ClassName InventoryNumbers) (entries : List Entry) (entry : Entry)
    → i < length rows → row ≡ get_or rows i row → map entry_pair entries ≡ with_used used (map class_pair (take i rows)) → entry_pair entry ∷ [] ≡ with_used used (class_pair row ∷ [])
    → map entry_pair (entries ++ entry ∷ []) ≡ with_used used (map class_pair (take (i + 1) rows))
entry_more used rows i row entries entry inside is before here =
    map-append entry_pair entries (entry ∷ []) ∙ ap₂ (λ (a b : List (List ℕ × UsedInventory)). a ++ b) before here
    ∙ sym (ap (λ (l : List (TableRow ClassName InventoryNumbers)). with_used used (map class_pair l)) (take_more rows i row inside)
    ∙ ap (with_used used) (map-append class_pair (take i rows) (get_or rows i row ∷ []))
    ∙ map-append (λ (e : List ℕ × InventoryNumbers). (e.0, record { inventory = e.1; used = unwrap_or (lookup (bytes_eq e.0) used) 0 })) (map class_pair (take i rows)) (class_pair (get_or rows i row) ∷ [])
    ∙ ap (λ (r : TableRow ClassName InventoryNumbers). with_used used (map class_pair (take i rows)) ++ with_used used (class_pair r ∷ [])) (sym is))

-- the entries of one provider more
pub entries_more : (f : ℕ → TextMap UsedInventory) (place : ℕ) (lists : List (List Entry)) (entries : List Entry)
    → map (map entry_pair) lists ≡ map f (range_with_len 0 place) → map entry_pair entries ≡ f place → map (map entry_pair) (lists ++ entries ∷ []) ≡ map f (range_with_len 0 (place + 1))
entries_more f place lists entries before here =
    map-append (map entry_pair) lists (entries ∷ []) ∙ ap₂ (λ a b. a ++ b ∷ []) before here ∙ sym (map-range_with_len_more f 0 place place (omega arith))

-- all of them
pub joined_lists : (usages : List (TableRow ClassName ℕ)) (inventories : List (TableRow ClassName InventoryNumbers)) (n : ℕ)
    → map (used_at usages inventories) (range_with_len 0 n)
    ≡ with_used_lists (map (map class_pair) (map (λ p. filter (λ r. r.place == p) usages) (range_with_len 0 n))) (map (map class_pair) (map (λ p. filter (λ r. r.place == p) inventories) (range_with_len 0 n)))
joined_lists usages inventories n =
    sym (zip_maps (λ p. map class_pair (filter (λ r. r.place == p) usages)) (λ p. map class_pair (filter (λ r. r.place == p) inventories)) (range_with_len 0 n))
    ∙ sym (ap₂ with_used_lists (map-map (map class_pair) (λ p. filter (λ (r : TableRow ClassName ℕ). r.place == p) usages) (range_with_len 0 n))
    (map-map (map class_pair) (λ p. filter (λ (r : TableRow ClassName InventoryNumbers). r.place == p) inventories) (range_with_len 0 n)))

first_keys : (e : List Entry) (u : TextMap ℕ) (r : List (TableRow ClassName InventoryNumbers)) → map entry_pair e ≡ with_used u (map class_pair r) → map entry_class e ≡ map (λ a. class_bytes a.key) r
first_keys e u r same = sym (own e) ∙ ap (map (λ (d : List ℕ × UsedInventory). d.0)) same ∙ used r
  where
    own : (es : List Entry) → map (λ (d : List ℕ × UsedInventory). d.0) (map entry_pair es) ≡ map entry_class es
    own [] = refl
    own (x ∷ es) = ap (λ l. entry_class x ∷ l) (own es)

    used : (rs : List (TableRow ClassName InventoryNumbers)) → map (λ (d : List ℕ × UsedInventory). d.0) (with_used u (map class_pair rs)) ≡ map (λ a. class_bytes a.key) rs
    used [] = refl
    used (x ∷ rs) = ap (λ l. class_bytes x.key ∷ l) (used rs)

-- the classes of entries rise as those of their inventories
pub entries_rise : (P : List (List ℕ) → Type 0) (es : List (List Entry)) (us : List (TextMap ℕ)) (rs : List (List (TableRow ClassName InventoryNumbers)))
    → map (map entry_pair) es ≡ with_used_lists us (map (map class_pair) rs) → All (λ r. P (map (λ a. class_bytes a.key) r)) rs → All (λ e. P (map entry_class e)) es
entries_rise P [] us rs e all k d inside = absurd (omega (arith, inside))
entries_rise P (x ∷ es) [] rs e all k d inside = absurd (cc)
entries_rise P (x ∷ es) (u ∷ us) [] e all k d inside = absurd (cc)
entries_rise P (x ∷ es) (u ∷ us) (r ∷ rs) e all zero d inside =
    subst P (sym (first_keys x u r (ap (λ l. get_or l 0 []) e))) (all zero r (omega arith))
entries_rise P (x ∷ es) (u ∷ us) (r ∷ rs) e all (suc k) d inside =
    entries_rise P es us rs (ap (drop 1) e) (λ j b i. all (suc j) b (omega arith)) k d (omega arith)
