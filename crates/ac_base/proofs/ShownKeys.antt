-- Maps and sets whose keys are shown as something else, in the same order: what a look-up or a change does to what is shown.
use Rattle.std.proofs.Common.{◌≡◌, Bool, List, [], ◌∷◌, map, Option, Some, refl, sym, ap, ◌∙◌, if◌then◌else◌, is_some}
use Rattle.std.specs.declared.cmp.Ordering.{Ordering}
use Rattle.std.specs.Ordering.{match_ordering, is_eq}
use Rattle.std.specs.Map.{lookup}
use Rattle.std.specs.Option.{option_map}
use Rattle.std.specs.BTreeMap.{insert_entry, is_at}
use Rattle.std.specs.BTreeSet.{insert_key}
use Rattle.std.proofs.Common.{arith}
use Rattle.std.proofs.lemmas.Grind.{common_steps}
use Rattle.std.proofs.lemmas.Bool.{cases_Bool}

pub map_match : {A B : Type 0} (f : A → B) (o : Ordering) (x y z : List A) → map f (match_ordering o x y z) ≡ match_ordering o (map f x) (map f y) (map f z)
map_match f o x y z = grind (arith, common_steps)

-- entries whose keys are shown by f and ordered as shown
module _ {K L X Y : Type 0} (f : K → L) (g : X → Y) (cmp : K → K → Ordering) (shown_cmp : L → L → Ordering) (same : (a b : K) → cmp a b ≡ shown_cmp (f a) (f b)) where
  abbrev show : K × X → L × Y
  show e = (f e.0, g e.1)

  pub insert_shown : (es : List (K × X)) (k : K) (v : X) → map show (insert_entry cmp es k v) ≡ insert_entry shown_cmp (map show es) (f k) (g v)
  insert_shown [] k v = refl
  insert_shown (e ∷ es) k v =
      map_match show (cmp k e.0) _ _ _
      ∙ ap (λ o. match_ordering o (show (k, v) ∷ show e ∷ map show es) ((f e.0, g v) ∷ map show es) (show e ∷ map show (insert_entry cmp es k v))) (same k e.0)
      ∙ ap (λ l. match_ordering (shown_cmp (f k) (f e.0)) (show (k, v) ∷ show e ∷ map show es) ((f e.0, g v) ∷ map show es) (show e ∷ l)) (insert_shown es k v)

  pub lookup_shown : (es : List (K × X)) (k : K) → lookup (is_at (shown_cmp (f k))) (map show es) ≡ option_map g (lookup (is_at (cmp k)) es)
  lookup_shown [] k = refl
  lookup_shown (e ∷ es) k =
      ap (λ o. if is_eq o then Some (g e.1) else lookup (is_at (shown_cmp (f k))) (map show es)) (sym (same k e.0))
      ∙ ap (λ l. if is_at (cmp k) e.0 then Some (g e.1) else l) (lookup_shown es k)
      ∙ map_if (is_at (cmp k) e.0) e.1 (lookup (is_at (cmp k)) es)
    where
      map_if : (b : Bool) (x : X) (o : Option X) → (if b then Some (g x) else option_map g o) ≡ option_map g (if b then Some x else o)
      map_if b x o = grind (arith, common_steps, cases_Bool)

  pub is_some_shown : (es : List (K × X)) (k : K) → is_some (lookup (is_at (shown_cmp (f k))) (map show es)) ≡ is_some (lookup (is_at (cmp k)) es)
  is_some_shown es k = ap is_some (lookup_shown es k) ∙ is_some_map (lookup (is_at (cmp k)) es)
    where
      is_some_map : (o : Option X) → is_some (option_map g o) ≡ is_some o
      is_some_map o = grind (arith, common_steps)

-- a set of keys
module _ {K L : Type 0} (f : K → L) (cmp : K → K → Ordering) (shown_cmp : L → L → Ordering) (same : (a b : K) → cmp a b ≡ shown_cmp (f a) (f b)) where
  pub insert_key_shown : (ks : List K) (k : K) → map f (insert_key cmp ks k) ≡ insert_key shown_cmp (map f ks) (f k)
  insert_key_shown [] k = refl
  insert_key_shown (x ∷ xs) k =
      map_match f (cmp k x) _ _ _
      ∙ ap (λ o. match_ordering o (f k ∷ f x ∷ map f xs) (f x ∷ map f xs) (f x ∷ map f (insert_key cmp xs k))) (same k x)
      ∙ ap (λ l. match_ordering (shown_cmp (f k) (f x)) (f k ∷ f x ∷ map f xs) (f x ∷ map f xs) (f x ∷ l)) (insert_key_shown xs k)
