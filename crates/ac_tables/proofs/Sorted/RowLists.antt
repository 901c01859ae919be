-- What is made of the rows of each provider.
use Rattle.ac_tables.proofs.Common.{◌≡◌, ◌∙◌, ◌<◌, ℕ, List, map, length, get_or, subst, sym, ap, arith, ◌==◌, All, filter, range_with_len, length-map, get_or-map, TableRow, map-map}
use Rattle.std.proofs.lemmas.List.FromFn.{fill_by_all}

-- what is made of each place is what is made of each item
pub by_places : {X : Type 0} (f : ℕ → X) (g : ℕ → X) (xs : List ℕ) → ((i : ℕ) → i < length xs → f i ≡ g (get_or xs i 0)) → map f (range_with_len 0 (length xs)) ≡ map g xs
by_places f g xs same = sym (fill_by_all f (map g xs) (length xs) (f 0) (length-map xs g) (λ k h. get_or-map g xs k 0 (f 0) h ∙ sym (same k h)))

-- what is made of the rows of each provider, where it is known provider by provider
pub of_each : {K X G : Type 0} (rows : List (TableRow K X)) (show : List (TableRow K X) → G) (gather : ℕ → G) (ids : List ℕ) (lists : List (List (TableRow K X)))
    → lists ≡ map (λ p. filter (λ (r : TableRow K X). r.place == p) rows) (range_with_len 0 (length ids))
    → ((p : ℕ) → p < length ids → show (filter (λ (r : TableRow K X). r.place == p) rows) ≡ gather (get_or ids p 0)) → map show lists ≡ map gather ids
of_each rows show gather ids lists are here =
    ap (map show) are ∙ map-map show (λ p. filter (λ r. r.place == p) rows) (range_with_len 0 (length ids))
    ∙ by_places (λ p. show (filter (λ r. r.place == p) rows)) gather ids here

-- what holds of what is gathered holds of each list
pub all_gathered : {X G : Type 0} (P : G → Type 0) (show : X → G) (gather : ℕ → G) (lists : List X) (ids : List ℕ) → map show lists ≡ map gather ids → ((id : ℕ) → P (gather id)) → All (λ l. P (show l)) lists
all_gathered P show gather lists ids e holds k d inside =
    let size : length ids ≡ length lists = sym (length-map ids gather) ∙ ap length (sym e) ∙ length-map lists show in
    subst P (sym (sym (get_or-map show lists k d (show d) inside) ∙ ap (λ l. get_or l k (show d)) e ∙ get_or-map gather ids k 0 (show d) (omega arith))) (holds (get_or ids k 0))
