-- What claims leave as it was, and what they take away.
use Rattle.std.proofs.Common.{◌≡◌, ◌∙◌, ◌≤◌, ◌+◌, ◌-◌, ◌&&◌, ◌||◌, ◌==◌, ℕ, Bool, true, not, List, length, Option, None, Some, refl, ap, ap₂, arith, nat_le, option_map, unwrap_or, if◌then◌else◌, is_none, is_some}
use Rattle.std.specs.List.{list_all, list_any, range_with_len}
use Rattle.std.proofs.Math.Path.{fun_ext}
use Rattle.std.proofs.lemmas.Bool.Decides.{nat_tests}
use Rattle.ac_query.specs.Asked.{Asked, Group}
use Rattle.ac_query.specs.Pairs.Values.{AggregateRule}
use Rattle.ac_cloud.specs.Amounts.{provider_using, with_amounts}
use Rattle.ac_cloud.specs.World.{UsedInventory, Provider, provider_at, id_at, place_of, root_of, root_provider, entry_in, used_of, has_trait, is_member, is_above, is_root}
use Rattle.ac_cloud.proofs.Amounts.{above, amounts_again, amounts_alone, amounts_here, amounts_kept, amounts_same, amounts_size, are_roots, available, entries, places, roots}
use Rattle.ac_rules.specs.Claims.{claimed, released, is_in_use, uses_sums}
use Rattle.ac_rules.specs.Judge.{tests, all_hold, is_candidate}
use Rattle.ac_rules.specs.Laws.{ClaimsAlone, ClaimsNarrow, ClaimsInUse, ReleaseUndoes}
use Rattle.ac_rules.specs.Own.{inventory_of, admits, units_fit, traits_fit, has_none, has_all, has_required, counts_in, meets_rule, aggregates_fit, is_in_tree, tree_fits}
use Rattle.ac_rules.specs.Placed.{Placed, assigned}
use Rattle.ac_rules.specs.Together.{is_brought, is_one_brought, are_brought, collective, sum_on, has_room, holds, holds_sums, sums, listed, is_top, subtree, takes_root, hosts_all, anchor}
use Rattle.ac_rules.proofs.EachSlot.FrontLemmas.{all_weaker}

module _ (amount : ℕ → List ℕ → UsedInventory → ℕ) (all : List Provider) where
  abbrev new : List Provider
  new = with_amounts amount all

  abbrev here : (ix : ℕ) → provider_at (with_amounts amount all) ix ≡ provider_using (amount ix) (provider_at all ix)
  here = amounts_here amount all

  inventory_kept : (o : Option UsedInventory) (f : UsedInventory → ℕ) → option_map (λ (had : UsedInventory). had.inventory) (option_map (λ (had : UsedInventory). record { inventory = had.inventory; used = f had }) o) ≡ option_map (λ (had : UsedInventory). had.inventory) o
  inventory_kept None f = refl
  inventory_kept (Some had) f = refl

  inventories : (ix : ℕ) (class : List ℕ) → inventory_of (provider_at (with_amounts amount all) ix) class ≡ inventory_of (provider_at all ix) class
  inventories ix class = ap (option_map (λ (had : UsedInventory). had.inventory)) (entries amount all ix class) ∙ inventory_kept (entry_in (provider_at all ix) class) (amount ix class)

  pub units : (x : Placed) → units_fit (with_amounts amount all) x ≡ units_fit all x
  unfolding units_fit
  units x = ap (λ test. list_all test x.slot.needs) (fun_ext (λ (need : List ℕ × ℕ). ap (λ o. admits o need.1) (inventories x.provider need.0)))

  pub traits : (x : Placed) → traits_fit (with_amounts amount all) x ≡ traits_fit all x
  unfolding traits_fit
  traits x = ap (λ p. has_none p x.slot.group.forbidden && (is_none x.slot.suffix || has_required p x.slot.group)) (here x.provider)

  root_at : (p : Provider) (a : ℕ) → is_member (root_provider (with_amounts amount all) p) a ≡ is_member (root_provider all p) a
  root_at p a =
      let place = ap₂ unwrap_or (ap (λ (id : ℕ). place_of (with_amounts amount all) id) (roots amount all p.id) ∙ places amount all (root_of all p.id)) (amounts_size amount all) in
      ap (λ (ix : ℕ). is_member (provider_at (with_amounts amount all) ix) a) place
      ∙ ap (λ q. is_member q a) (here (unwrap_or (place_of all (root_of all p.id)) (length all)))

  counts : (x : Placed) (a : ℕ) → counts_in (with_amounts amount all) x a ≡ counts_in all x a
  counts x a =
      ap (λ p. is_member p a || (is_none x.slot.suffix && is_member (root_provider (with_amounts amount all) p) a)) (here x.provider)
      ∙ ap (λ b. is_member (provider_at all x.provider) a || (is_none x.slot.suffix && b)) (root_at (provider_using (amount x.provider) (provider_at all x.provider)) a)

  rules : (x : Placed) (rule : AggregateRule) → meets_rule (with_amounts amount all) x rule ≡ meets_rule all x rule
  unfolding meets_rule
  rules x rule = ap (λ test. if rule.forbids then not (list_any test rule.ids) else list_any test rule.ids) (fun_ext (counts x))

  pub aggregates : (x : Placed) → aggregates_fit (with_amounts amount all) x ≡ aggregates_fit all x
  unfolding aggregates_fit
  aggregates x = ap (λ test. list_all test x.slot.group.member_of) (fun_ext (rules x))

  in_tree : (p : Provider) (o : Option ℕ) → is_in_tree (with_amounts amount all) p o ≡ is_in_tree all p o
  in_tree p None = refl
  in_tree p (Some id) = ap₂ (λ a b. a && b) (ap is_some (places amount all id)) (ap₂ (λ (r s : ℕ). r == s) (roots amount all p.id) (roots amount all id))

  pub trees : (x : Placed) → tree_fits (with_amounts amount all) x ≡ tree_fits all x
  unfolding tree_fits
  trees x = ap (λ p. is_in_tree (with_amounts amount all) p x.slot.group.in_tree) (here x.provider) ∙ in_tree (provider_using (amount x.provider) (provider_at all x.provider)) x.slot.group.in_tree

  brought : (xs : List Placed) (name : List ℕ) → is_brought (with_amounts amount all) xs name ≡ is_brought all xs name
  unfolding is_brought
  brought xs name = ap (λ test. list_any test xs) (fun_ext (λ x. ap (λ p. is_none x.slot.suffix && has_trait p name) (here x.provider)))

  one_brought : (xs : List Placed) (names : List (List ℕ)) → is_one_brought (with_amounts amount all) xs names ≡ is_one_brought all xs names
  one_brought xs names = ap (λ test. list_any test xs) (fun_ext (λ x. ap (λ p. is_none x.slot.suffix && list_any (λ name. has_trait p name) names) (here x.provider)))

  groups : (xs : List Placed) (g : Group) → are_brought (with_amounts amount all) xs g ≡ are_brought all xs g
  groups xs g =
      ap₂ (λ a b. a && b) (ap (λ test. list_all test g.required) (fun_ext (brought xs))) (ap (λ test. list_all test g.any_of) (fun_ext (one_brought xs)))

  together : (asked : Asked) (xs : List Placed) → collective (with_amounts amount all) asked xs ≡ collective all asked xs
  unfolding collective
  together asked xs = ap (λ test. list_all (λ (g : Option (List ℕ) × Group). is_some g.0 || test g.1) asked.groups) (fun_ext (groups xs))

  tops : (ps : List ℕ) (a : ℕ) → is_top (with_amounts amount all) ps a ≡ is_top all ps a
  unfolding is_top
  tops ps a =
      ap (λ test. list_all test ps)
      (fun_ext (λ (b : ℕ). ap₂ (is_above (with_amounts amount all)) (ap (λ p. p.id) (here a)) (ap (λ p. p.id) (here b)) ∙ above amount all (id_at all a) (id_at all b)))

  subtrees : (asked : Asked) (xs : List Placed) → subtree (with_amounts amount all) asked xs ≡ subtree all asked xs
  unfolding subtree
  subtrees asked xs =
      ap (λ test. list_all test asked.subtrees) (fun_ext (λ (names : List (List ℕ)). ap (λ test. list_any test (listed names xs)) (fun_ext (tops (listed names xs)))))

  takes : (asked : Asked) (r : ℕ) → takes_root (with_amounts amount all) asked r ≡ takes_root all asked r
  unfolding takes_root
  takes asked r =
      ap₂ (λ a b. a && b)
      (ap₂ (λ a b. a && b) (ap (λ (p : Provider). is_root (with_amounts amount all) p.id) (here r) ∙ are_roots amount all (id_at all r)) (ap (λ p. has_all p asked.root_required) (here r)))
      (ap (λ p. has_none p asked.root_forbidden) (here r))

  hosts : (xs : List Placed) (r : ℕ) → hosts_all (with_amounts amount all) xs r ≡ hosts_all all xs r
  unfolding hosts_all
  hosts xs r = ap (λ test. list_all test xs) (fun_ext (λ (x : Placed). available amount all x.provider r))

  anchors : (asked : Asked) (xs : List Placed) → anchor (with_amounts amount all) asked xs ≡ anchor all asked xs
  unfolding anchor
  anchors asked xs =
      ap₂ (λ (test : ℕ → Bool) (n : ℕ). list_any test (range_with_len 0 n)) (fun_ext (λ (r : ℕ). ap₂ (λ a b. a && b) (takes asked r) (hosts xs r))) (amounts_size amount all)

  -- ---- rooms

  room_less : (o : Option UsedInventory) (f : UsedInventory → ℕ) (sum : ℕ) → ((had : UsedInventory) → had.used ≤ f had)
      → has_room (option_map (λ (had : UsedInventory). had.inventory) (option_map (λ (had : UsedInventory). record { inventory = had.inventory; used = f had }) o)) (unwrap_or (option_map (λ (had : UsedInventory). had.used) (option_map (λ (had : UsedInventory). record { inventory = had.inventory; used = f had }) o)) 0) sum ≡ true
      → has_room (option_map (λ (had : UsedInventory). had.inventory) o) (unwrap_or (option_map (λ (had : UsedInventory). had.used) o) 0) sum ≡ true
  room_less None f sum less h = h
  room_less (Some had) f sum less h = let l = less had in grind (arith, nat_tests)

  holds_less : ((ix : ℕ) (class : List ℕ) (had : UsedInventory) → had.used ≤ amount ix class had) → (ix : ℕ) (class : List ℕ) (sum : ℕ)
      → holds (provider_at (with_amounts amount all) ix) class sum ≡ true → holds (provider_at all ix) class sum ≡ true
  holds_less more ix class sum h = room_less (entry_in (provider_at all ix) class) (amount ix class) sum (more ix class) (rw (entries amount all ix class) at h)

  slot_less : ((ix : ℕ) (class : List ℕ) (had : UsedInventory) → had.used ≤ amount ix class had) → (xs : List Placed) (x : Placed) → holds_sums (with_amounts amount all) xs x ≡ true → holds_sums all xs x ≡ true
  unfolding holds_sums
  slot_less more xs x h = all_weaker _ _ (λ (need : List ℕ × ℕ) e. holds_less more x.provider need.0 (sum_on xs x.provider need.0) e) x.slot.needs h

  sums_less : ((ix : ℕ) (class : List ℕ) (had : UsedInventory) → had.used ≤ amount ix class had) → (xs : List Placed) → sums (with_amounts amount all) xs ≡ true → sums all xs ≡ true
  unfolding sums
  sums_less more xs h = all_weaker _ _ (slot_less more xs) xs h

  -- where more is used, candidates were candidates before
  pub narrows : ((ix : ℕ) (class : List ℕ) (had : UsedInventory) → had.used ≤ amount ix class had) → (asked : Asked) (xs : List Placed)
      → all_hold (tests (with_amounts amount all) asked xs) ≡ true → all_hold (tests all asked xs) ≡ true
  unfolding tests
  narrows more asked xs h =
      let own = rw (fun_ext units, fun_ext traits, fun_ext aggregates, fun_ext trees, together asked xs, subtrees asked xs, anchors asked xs) at h in
      let less = sums_less more xs in
      grind arith

  -- candidates stay candidates where Sums is kept
  pub keeps : (asked : Asked) (xs : List Placed) → all_hold (tests all asked xs) ≡ true → sums (with_amounts amount all) xs ≡ true
      → all_hold (tests (with_amounts amount all) asked xs) ≡ true
  unfolding tests
  keeps asked xs h kept = rw (fun_ext units, fun_ext traits, fun_ext aggregates, fun_ext trees, together asked xs, subtrees asked xs, anchors asked xs, kept) (grind arith)

pub claims_narrow : ClaimsNarrow
unfolding is_candidate claimed
claims_narrow all xs asked list h = narrows (λ ix class had. had.used + sum_on xs ix class) all (λ ix class had. omega arith) asked (assigned asked list) h

pub release_undoes : ReleaseUndoes
unfolding claimed released
release_undoes all xs =
    amounts_again (λ ix class had. had.used + sum_on xs ix class) (λ ix class had. had.used - sum_on xs ix class) all
    ∙ amounts_same _ (λ ix class had. had.used) all (λ ix class had. omega arith) ∙ amounts_kept all

pub claims_alone : ClaimsAlone
unfolding claimed released
claims_alone all xs = (amounts_alone (λ ix class had. had.used + sum_on xs ix class) all, amounts_alone (λ ix class had. had.used - sum_on xs ix class) all)

-- an inventory that admits an amount is there, and then as much is used as was claimed
claimed_there : (o : Option UsedInventory) (amount sum : ℕ) → admits (option_map (λ (had : UsedInventory). had.inventory) o) amount ≡ true
    → nat_le sum (unwrap_or (option_map (λ (had : UsedInventory). had.used) (option_map (λ (had : UsedInventory). record { inventory = had.inventory; used = had.used + sum }) o)) 0) ≡ true
claimed_there None amount sum h = absurd (cc)
claimed_there (Some had) amount sum h = grind (arith, nat_tests)

claimed_used : (all : List Provider) (xs : List Placed) (x : Placed) → units_fit all x ≡ true → uses_sums (claimed all xs) xs x ≡ true
unfolding units_fit uses_sums claimed
claimed_used all xs x h =
    all_weaker (λ need. admits (inventory_of (provider_at all x.provider) need.0) need.1)
    (λ need. nat_le (sum_on xs x.provider need.0) (used_of (provider_at (with_amounts (λ ix class had. had.used + sum_on xs ix class) all) x.provider) need.0))
    (λ (need : List ℕ × ℕ) e. rw (entries (λ ix class had. had.used + sum_on xs ix class) all x.provider need.0) (claimed_there (entry_in (provider_at all x.provider) need.0) need.1 (sum_on xs x.provider need.0) e))
    x.slot.needs h

units_of : (all : List Provider) (asked : Asked) (xs : List Placed) → all_hold (tests all asked xs) ≡ true → list_all (λ x. units_fit all x) xs ≡ true
unfolding tests
units_of all asked xs h = grind arith

pub claims_in_use : ClaimsInUse
unfolding is_candidate is_in_use
claims_in_use all asked list h =
    all_weaker (λ x. units_fit all x) (λ x. uses_sums (claimed all (assigned asked list)) (assigned asked list) x) (claimed_used all (assigned asked list)) (assigned asked list) (units_of all asked (assigned asked list) h)
