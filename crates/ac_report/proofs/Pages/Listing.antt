-- The rows of lists, list by list.
use Rattle.std.proofs.Common.{◌≡◌, ◌∙◌, ℕ, ◌+◌, ◌<◌, Bool, true, false, List, [], ◌∷◌, ◌++◌, codes, map, take, length, slice_index, refl, sym, ap, append-nil}
use Rattle.std.proofs.lemmas.List.{map-append}
use Rattle.std.proofs.lemmas.List.Elements.{filter_more}
use Rattle.std.proofs.lemmas.List.Concat.{flat_map-append}
use Rattle.std.specs.List.{filter, flat_map}
use Rattle.csv.specs.Writing.{default_writer, fields_text, is_blank, row_text}
use Rattle.ac_cloud.specs.World.{Provider}
use Rattle.ac_query.specs.Asked.{Asked}
use Rattle.ac_report.specs.ListRows.{block_text, blocks, header_text, list_columns, list_pieces, list_text, next_number, rows_of_list, rows_of_lists}
use Rattle.ac_report.specs.Texts.{joined}

-- ---- of some numbers those that pass a test, up to a place

module _ {X : Type 0} (f : ℕ → X) (t : ℕ → Bool) (xs : List ℕ) (i : ℕ) (low : i < length xs) where
  pub row_more : t (slice_index xs i) ≡ true → map f (filter t (take (i + 1) xs)) ≡ map f (filter t (take i xs)) ++ f (slice_index xs i) ∷ []
  row_more here = rw (filter_more t xs i 0 low, here) (map-append f (filter t (take i xs)) (slice_index xs i ∷ []))

  pub row_same : t (slice_index xs i) ≡ false → map f (filter t (take (i + 1) xs)) ≡ map f (filter t (take i xs))
  row_same away = rw (filter_more t xs i 0 low, away) (ap (map f) (append-nil (filter t (take i xs))))

-- ---- the pieces

pub header_is : header_text ≡ codes "#,allocation,resource provider,inventory used/capacity,traits,name\n"
unfolding fields_text is_blank
header_is = refl

module _ (all : List Provider) (asked : Asked) where
  blocks_joined : (number : ℕ) (lists : List (List ℕ)) → joined (blocks all asked number lists) ≡ flat_map (row_text default_writer) (rows_of_lists all asked number lists)
  unfolding block_text
  blocks_joined number [] = refl
  blocks_joined number (list ∷ more) =
      ap (λ l. block_text all asked number list ++ l) (blocks_joined (next_number number) more)
      ∙ sym (flat_map-append (row_text default_writer) (rows_of_list all asked number list) (rows_of_lists all asked (next_number number) more))

  pub is_list_text : (lists : List (List ℕ)) → joined (list_pieces all asked lists) ≡ list_text all asked lists
  unfolding list_text
  is_list_text lists = ap (λ l. row_text default_writer list_columns ++ l) (blocks_joined 1 lists)
