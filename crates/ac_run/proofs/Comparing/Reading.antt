-- Requests read from JSON: what each of some items gives, one after another.
use Rattle.std.proofs.Common.{◌≡◌, ◌∙◌, ◌+◌, ◌<◌, ◌∷◌, ℕ, drop, get_or, length, Bool, true, false, List, [], Option, Some, None, option_map, refl, sym, ap}
use Rattle.std.proofs.lemmas.List.{drop_more}
use Rattle.std.proofs.lemmas.Str.{IsUtf8-from_is_utf8, is_utf8-from_IsUtf8}
use Rattle.std.specs.Str.{IsUtf8, is_utf8}
use Rattle.serde_json.specs.Data.{Data}
use Rattle.serde_json.specs.Read.{read}
use Rattle.serde_json.specs.View.{items_of}
use Rattle.ac_run.specs.Compared.{each, items_listed, value_read}

-- ---- the value of a text

pub value_known : (bytes : List ℕ) (d : Data) → IsUtf8 bytes → read bytes ≡ Some d → value_read bytes ≡ Some d
value_known bytes d text is = rw (is_utf8-from_IsUtf8 bytes text) is

pub value_refused : (bytes : List ℕ) → (IsUtf8 bytes → read bytes ≡ None) → value_read bytes ≡ None
value_refused bytes no_value = by_text (is_utf8 bytes) refl
  where
    by_text : (b : Bool) → is_utf8 bytes ≡ b → value_read bytes ≡ None
    by_text true e = rw e (no_value (IsUtf8-from_is_utf8 bytes e))
    by_text false e = rw e refl

-- ---- lists

pub items_back : (ds : List Data) → items_listed (items_of ds) ≡ ds
items_back [] = refl
items_back (d ∷ ds) = ap (λ l. d ∷ l) (items_back ds)

-- ---- what each gives, gathered

-- the first gives something: it is gathered, and then what the others give
pub gathers_on : {A B C : Type 0} (f : A → Option B) (onto : C → List B → C) (done more : C) (x : A) (xs : List A) (y : B) → f x ≡ Some y
    → ((ys : List B) → onto done (y ∷ ys) ≡ onto more ys) → option_map (onto done) (each f (x ∷ xs)) ≡ option_map (onto more) (each f xs)
gathers_on {B = B} f onto done more x xs y gives on = rw gives (by_others (each f xs))
  where
    by_others : (others : Option (List B)) → option_map (onto done) (option_map (λ ys. y ∷ ys) others) ≡ option_map (onto more) others
    by_others None = refl
    by_others (Some ys) = ap Some (on ys)

-- it gives nothing
pub gathers_none : {A B C : Type 0} (f : A → Option B) (onto : C → List B → C) (done : C) (x : A) (xs : List A) → f x ≡ None → option_map (onto done) (each f (x ∷ xs)) ≡ None
gathers_none f onto done x xs gives = rw gives refl

-- the item at a place, before those behind it
pub next_item : {A : Type 0} (xs : List A) (i : ℕ) (x : A) → x ≡ get_or xs i x → i < length xs → x ∷ drop (i + 1) xs ≡ drop i xs
next_item xs i x is inside = ap (λ y. y ∷ drop (i + 1) xs) is ∙ sym (drop_more xs i x inside)
