-- What is told of the trees of the table of providers, by its rows.
use Rattle.ac_tables.proofs.Common.{◌≡◌, ◌∙◌, ◌<◌, ℕ, Bool, true, false, List, map, length, get_or, Option, Some, None, sym, ap, subst, arith, ◌==◌, ◌&&◌, not, is_some, is_none, option_map, option_and_then, nat_cmp, length-map, Tells, AreKin, IsFirst, rank, parent_in, AreParents, provider_shown, ProviderRecord, said_parent, has_unknown_parent, has_endless_chain, has_wrong_root, IsTable, top, TableFault, TableRow, Named}
use Rattle.ac_tables.specs.declared.fault.Table.TheVariants as table
use Rattle.ac_tables.specs.declared.fault.TableKind.TheVariants as kind
use Rattle.ac_tables.specs.declared.fault.TableFault.TheVariants as fault
use Rattle.ac_tables.proofs.Places.KinFacts.{are_kin}
use Rattle.ac_tables.proofs.Records.ProviderRecords.{no_row, ids_are, count, parents_are, unknown_same, trees, as_many, are_places, top_inside, endless_same, wrong_same}
use Rattle.ac_tables.proofs.Records.Marks.{passed}
use Rattle.ac_tables.proofs.Records.TreeFaults.{endless_fault, root_fault, unknown_fault}

-- a fault that is told
pub tells_this : (first : Option TableFault) (e told : TableFault) → e ≡ told → first ≡ Some told → Tells first e
tells_this first e (fault.At t r k) same h = subst (Tells first) (sym same) h
tells_this first e fault.NoMemory same h = subst (Tells first) (sym same) tt

module _ (said : List ProviderRecord) (rows : List (TableRow ℕ Named)) (t : IsTable nat_cmp provider_shown 1 true said rows) (ids : List ℕ) (own : ids ≡ map (λ r. r.key) rows)
    (parents : List (Option ℕ)) (are : parents ≡ map (λ r. option_and_then (rank ids) r.value.parent) rows) where
  own_places : parents ≡ map (λ r. option_and_then (rank (map (λ r. r.key) rows)) r.value.parent) rows
  own_places = subst (λ (l : List ℕ). parents ≡ map (λ (r : TableRow ℕ Named). option_and_then (rank l) r.value.parent) rows) own are

  pub same_parents : parents ≡ map (λ id. option_and_then (rank ids) (said_parent said id)) ids
  same_parents = subst (λ (l : List ℕ). parents ≡ map (λ id. option_and_then (rank l) (said_parent said id)) l) (sym own) (parents_are said rows t parents own_places)

  pub unknown_told : (marks : List Bool) → ((k : ℕ) (d : TableRow ℕ Named) → k < length rows → get_or marks k false ≡ (is_some (get_or rows k d).value.parent && is_none (get_or parents k None)))
      → (first : Option ℕ) → IsFirst rows marks first → unknown_fault said ≡ option_map (λ n. fault.At table.Providers n kind.UnknownParent) first
  unfolding unknown_fault
  unknown_told marks same first is =
      passed said rows t table.Providers kind.UnknownParent (has_unknown_parent said) marks no_row (λ k h. same k no_row h ∙ unknown_same said rows t parents own_places k h) first is

  module _ (known : unknown_fault said ≡ None) where
    pub parents_placed : AreParents parents
    parents_placed = are_places said rows t parents own_places known

    as_rows : length parents ≡ length rows
    as_rows = as_many said rows t parents own_places known ∙ length-map rows (λ (r : TableRow ℕ Named). r.key)

    pub as_ids : length parents ≡ length ids
    as_ids = as_many said rows t parents own_places known ∙ ap length (sym own)

    module _ (roots : List ℕ) (sized : length roots ≡ length parents) (tops : (i : ℕ) → i < length parents → get_or roots i 0 ≡ top (parent_in parents) (length parents) i) where
      pub roots_inside : (k : ℕ) → k < length roots → get_or roots k 0 < length parents
      roots_inside k h =
          let inside = top_inside said rows t parents own_places known k (omega (arith, h, sized, as_rows)) in
          let at = tops k (omega (arith, h, sized)) in
          omega (arith, inside, at, as_many said rows t parents own_places known)

      pub endless_told : (marks : List Bool) → ((k : ℕ) → k < length roots → get_or marks k false ≡ is_some (get_or parents (get_or roots k 0) None))
          → (first : Option ℕ) → IsFirst rows marks first → endless_fault said ≡ option_map (λ n. fault.At table.Providers n kind.ParentCycle) first
      unfolding endless_fault
      endless_told marks same first is =
          passed said rows t table.Providers kind.ParentCycle (has_endless_chain said) marks no_row (λ k h.
          same k (omega (arith, h, sized, as_rows)) ∙ ap (λ (j : ℕ). is_some (get_or parents j None)) (tops k (omega (arith, h, as_rows)))
          ∙ endless_same said rows t parents own_places known k h) first is

      pub wrong_told : (marks : List Bool) → ((k : ℕ) (d : TableRow ℕ Named) → k < length rows → get_or marks k false ≡ not (get_or ids (get_or roots k 0) 0 == (get_or rows k d).value.root))
          → (first : Option ℕ) → IsFirst rows marks first → root_fault said ≡ option_map (λ n. fault.At table.Providers n kind.WrongRoot) first
      unfolding root_fault
      wrong_told marks same first is =
          passed said rows t table.Providers kind.WrongRoot (has_wrong_root said) marks no_row (λ k h.
          same k no_row h
          ∙ ap (λ (j : ℕ). not (get_or ids j 0 == (get_or rows k no_row).value.root)) (tops k (omega (arith, h, as_rows)))
          ∙ ap (λ (l : List ℕ). not (get_or l (top (parent_in parents) (length parents) k) 0 == (get_or rows k no_row).value.root)) own
          ∙ wrong_same said rows t parents own_places known k h) first is

    pub kin_here : endless_fault said ≡ None → AreKin ids said
    kin_here fine = subst (λ (l : List ℕ). AreKin l said) (sym own) (are_kin said (map (λ r. r.key) rows) (ids_are said rows t) (count said rows t) (trees said rows t parents own_places known) fine)
