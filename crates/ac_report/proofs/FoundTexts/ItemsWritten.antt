-- Items of a list, each told by its text: all in order, or the first behind a mark and each further one behind a comma.
use Rattle.std.proofs.Common.{◌≡◌, ◌∙◌, ℕ, suc, ◌+◌, ◌<◌, List, ◌∷◌, ◌++◌, codes, drop, drop-cons, get_or, length, map, Option, ap, subst, sym}
use Rattle.std.proofs.lemmas.List.{drop_more}
use Rattle.std.specs.Io.KnownBytes.{Appends}
use Rattle.std.specs.List.{flat_map}
use Rattle.ac_base.specs.Writing.Pieces.{listed, marked}
use Rattle.ac_base.specs.Devices.{TakesPart}
use Rattle.ac_base.proofs.Leaving.{Leaves, leaves_appends, leaves_takes_part}

-- the item at a place is the first from there on
pub item_turn : {X : Type 0} (xs : List X) (i : ℕ) (x : X) → i < length xs → x ≡ get_or xs i x → drop i xs ≡ x ∷ drop (i + 1) xs
item_turn {X} xs i x low is = drop_more xs i x low ∙ ap (λ (y : X). y ∷ drop (i + 1) xs) (sym is)

module _ {X : Type 0} (a b : Option (List ℕ)) (whole : List ℕ) where
  -- a part of the text of an item
  pub item_part : {Y : Type 0} (c : Option (List ℕ)) (e : X → Y) (text : Y → List ℕ) (xs : List X) (i : ℕ) (x : X) → i < length xs → x ≡ get_or xs i x
      → Leaves a b whole (flat_map text (map e (drop i xs))) → TakesPart b c (text (e x)) → TakesPart a c whole
  item_part c e text xs i x low is leaves =
      leaves_takes_part a b c whole (text (e x)) (flat_map text (map e (drop (i + 1) xs)))
      (subst (λ (left : List X). Leaves a b whole (flat_map text (map e left))) (item_turn xs i x low is) leaves)

  -- an item that is told by its place
  pub piece_first : (text : X → List ℕ) (xs : List X) (i : ℕ) (d : X) → i < length xs → Leaves a b whole (flat_map text (drop i xs))
      → Leaves a b whole (text (get_or xs i d) ++ flat_map text (drop (suc i) xs))
  piece_first text xs i d low leaves = subst (Leaves a b whole) (ap (flat_map text) (drop-cons xs i d low)) leaves

  -- ---- the text of an item behind a mark

  module _ (e : X → List ℕ) (mark text : List ℕ) (left rest : List X) (x : X) (turn : left ≡ x ∷ rest) (said : text ≡ e x)
      (leaves : Leaves a b whole (listed mark (map e left))) where
    pub listed_first : Leaves a b whole (marked mark text ++ listed (codes ",") (map e rest))
    listed_first =
        subst (λ (t : List ℕ). Leaves a b whole (marked mark t ++ listed (codes ",") (map e rest))) (sym said)
        (subst (λ (xs : List X). Leaves a b whole (listed mark (map e xs))) turn leaves)

    -- a part of that text
    pub listed_part : (c : Option (List ℕ)) → TakesPart b c (marked mark text) → TakesPart a c whole
    listed_part c = leaves_takes_part a b c whole (marked mark text) (listed (codes ",") (map e rest)) listed_first

    pub listed_written : (c : Option (List ℕ)) → Appends b c (marked mark text) → Leaves a c whole (listed (codes ",") (map e rest))
    listed_written c = leaves_appends a b c whole (marked mark text) (listed (codes ",") (map e rest)) listed_first
