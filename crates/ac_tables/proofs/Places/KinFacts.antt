-- The ids of a fine table of providers: their parents are there, and their chains end.
use Rattle.ac_tables.proofs.Common.{◌≡◌, ◌<◌, ◌+◌, ◌∙◌, ℕ, true, false, List, [], ◌∷◌, map, length, get_or, Option, Some, None, refl, sym, ap, ap₂, inl, inr, ◌==◌, is_some, option_and_then, position_from, nat_cmp, cases_Bool, rising, is_one_of, AreKin, is_endless, ProviderRecord, record_at, said_parent, no_record, has_endless_chain}
use Rattle.ac_tables.specs.Tables.ProviderTable.{is_at, place_of}
use Rattle.ac_tables.specs.declared.fault.Table.TheVariants as table
use Rattle.ac_tables.specs.declared.fault.TableKind.TheVariants as kind
use Rattle.std.proofs.lemmas.Iterator.Adapters.{position_from-zero}
use Rattle.std.proofs.lemmas.List.Quantifiers.{position-Some}
use Rattle.ac_tables.proofs.Records.ProviderFaults.{none_fails}
use Rattle.ac_cloud.proofs.Rising.{one_of_place}
use Rattle.ac_base.proofs.Sorted.SameItems.{member_rising}
use Rattle.ac_base.proofs.Small.{are_equal}
use Rattle.ac_tables.proofs.Records.TreeFaults.{AreTrees, endless_fault}

-- a place that was found has that id
pub place_found : (all : List ProviderRecord) (q j : ℕ) → place_of all q ≡ Some j → (j < length all) × ((record_at all j).id ≡ q)
unfolding place_of
place_found all q j e =
    let found = position-Some (is_at q) all j no_record (position_from-zero (is_at q) all ∙ e) in
    (found.0, are_equal (record_at all j).id q found.1)

position_member : (q k : ℕ) (rows : List ProviderRecord) → is_some (position_from (is_at q) k rows) ≡ is_one_of (map (λ p. p.id) rows) q
position_member q k [] = refl
position_member q k (p ∷ rows) = elim (cases_Bool (p.id == q)) [ inl e ↦ rw e refl | inr e ↦ rw e (position_member q (k + 1) rows) ]

pub place_member : (rows : List ProviderRecord) (q : ℕ) → is_some (place_of rows q) ≡ is_one_of (map (λ p. p.id) rows) q
unfolding place_of
place_member rows q = position_member q 0 rows

some_of : (o : Option ℕ) → is_some o ≡ true → (j : ℕ) × (o ≡ Some j)
some_of None e = absurd (cc)
some_of (Some j) e = (j, refl)

module _ (rows : List ProviderRecord) (ids : List ℕ) (all : ids ≡ rising nat_cmp (map (λ p. p.id) rows)) (count : length ids ≡ length rows) (trees : AreTrees rows) where
  pub there : (q : ℕ) → is_one_of ids q ≡ is_some (place_of rows q)
  there q = ap (λ l. is_one_of l q) all ∙ member_rising q (map (λ p. p.id) rows) ∙ sym (place_member rows q)

  here : (i : ℕ) → i < length ids → (j : ℕ) × (place_of rows (get_or ids i 0) ≡ Some j)
  here i h = some_of (place_of rows (get_or ids i 0)) (sym (there (get_or ids i 0)) ∙ one_of_place ids (get_or ids i 0) i h refl)

  pub kin_known : (i q : ℕ) → i < length ids → said_parent rows (get_or ids i 0) ≡ Some q → is_one_of ids q ≡ true
  kin_known i q h e =
      let (j, at) = here i h in
      let f = place_found rows (get_or ids i 0) j at in
      let parent : (record_at rows j).parent ≡ Some q = sym (ap (option_and_then (λ (k : ℕ). (record_at rows k).parent)) at) ∙ e in
      let k = trees.known j q f.0 parent in
      there q ∙ ap is_some k.1

  kin_ends : endless_fault rows ≡ None → (i : ℕ) → i < length ids → is_endless (said_parent rows) (length ids) (get_or ids i 0) ≡ false
  unfolding endless_fault
  kin_ends fine i h =
      let (j, at) = here i h in
      let f = place_found rows (get_or ids i 0) j at in
      let ends : has_endless_chain rows (record_at rows j) ≡ false = none_fails table.Providers kind.ParentCycle (has_endless_chain rows) 2 rows no_record fine j f.0 in
      ap₂ (λ (n : ℕ) (x : ℕ). is_endless (said_parent rows) n x) count (sym f.1) ∙ ends

  pub are_kin : endless_fault rows ≡ None → AreKin ids rows
  are_kin fine = record { known = kin_known; ends = kin_ends fine }
