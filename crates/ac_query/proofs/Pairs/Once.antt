-- Where no pair has a fault, a parameter that may not be repeated is given once at most.
use Rattle.std.proofs.lemmas.Grind.{common_steps}
use Rattle.std.proofs.Common.{◌≡◌, ◌≤◌, arith, length, ℕ, ◌+◌, Bool, true, false, not, ◌&&◌, ◌||◌, List, [], ◌∷◌, ◌++◌, Option, Some, None, IfSome, is_none, refl, sym, ap, ap₂, ◌∙◌, if◌then◌else◌}
use Rattle.std.specs.List.{filter_map, cons_option}
use Rattle.std.specs.Option.{option_map, option_and_then}
use Rattle.std.specs.Cmp.Lexicographic.{same_text}
use Rattle.std.specs.Str.{bytes_eq}
use Rattle.std.proofs.lemmas.Cmp.{nat_list_eq_equiv}
use Rattle.std.proofs.lemmas.Option.{IfSome_then}
use Rattle.ac_base.specs.Texts.{id_value}
use Rattle.ac_query.specs.declared.reading.parameter.Field.{Field}
use Rattle.ac_query.specs.declared.reading.parameter.Field.TheVariants as field
use Rattle.ac_query.specs.declared.version.Version.{Version}
use Rattle.ac_query.specs.Texts.{has_text}
use Rattle.ac_query.specs.Pairs.Parameters.{Parameter, of_group, root_required, group_policy, same_subtree, limit, parameter, may_repeat}
use Rattle.ac_query.specs.Pairs.Values.{Part, needs, traits, any_of, aggregates, tree, Given, in_group, root_traits, policy, subtree, at_most, given_of, needs_value, traits_value, names_value, required_part, required_value, rule_value, policy_value, subtree_value, amount_value}
use Rattle.ac_query.specs.Asks.{same_suffix, group_part, part_for, parts_of, needs_in, tree_in, policy_in, limit_in}
use Rattle.ac_query.specs.Pairs.{read_pair, given}
use Rattle.ac_query.specs.Faults.{Fault, first_fault, is_repeat, conditions_of, pair_conditions, pairs_conditions}
use Rattle.ac_query.specs.Laws.InOrder.{AreNeeds}
use Rattle.ac_query.proofs.Values.Choosing.{map_some}
use Rattle.ac_query.proofs.Values.PositiveNeeds.{needs_are}
use Rattle.ac_query.proofs.Pairs.Earlier.{has_text-push}
use Rattle.ac_query.proofs.Pairs.ParameterNames.{name_of, IsLong, HasLong, Names, named}
use Rattle.ac_query.proofs.Pairs.PairSteps.{neither}

-- what is at most one
abbrev pub IsShort : {A : Type 0} → List A → Type 0
IsShort xs = length xs ≤ 1

-- ---- which parameter gave what is given
abbrev field_by : Part → Field
field_by (needs v) = field.Resources
field_by (traits t) = field.Required
field_by (any_of a) = field.Required
field_by (aggregates r) = field.MemberOf
field_by (tree u) = field.InTree

abbrev pub given_by : Given → Parameter
given_by (in_group g p) = of_group (field_by p) g
given_by (root_traits t) = root_required
given_by (policy b) = group_policy
given_by (subtree names) = same_subtree
given_by (at_most n) = limit

-- the suffix and the needs of a part of a group
abbrev pub IsSound : Option (List ℕ) × Part → Type 0
IsSound e = IsLong e.0 × IfSome (needs_in e.1) AreNeeds

pub record Gives (q : Parameter) (v : Given) : Type 0 where
  pub by : given_by v ≡ q
  pub sound : IfSome (group_part v) IsSound

made : {X Y : Type 0} (P : Y → Type 0) (make : X → Y) (o : Option X) → ((x : X) → P (make x)) → IfSome (option_map make o) P
made P make o h = grind (arith, common_steps)

required_by : (g : Option (List ℕ)) (text : List ℕ) (list : Option (List ℕ)) → IsLong g → IfSome (required_part text list) (λ p. Gives (of_group field.Required g) (in_group g p))
required_by g text (Some list) long = made _ any_of (names_value list) (λ v. record { by = refl; sound = (long, tt) })
required_by g text None long = made _ traits (traits_value text) (λ v. record { by = refl; sound = (long, tt) })

pub value_given : (version : Version) (q : Parameter) (text : List ℕ) → HasLong q → IfSome (given_of version q text) (Gives q)
unfolding required_value
value_given version (of_group field.Resources g) text long =
    map_some AreNeeds (Gives (of_group field.Resources g)) (λ v. in_group g (needs v)) (needs_value text) (needs_are text) (λ v h. record { by = refl; sound = (long, h) })
value_given version (of_group field.Required g) text long = grind (arith, common_steps, map_some, required_by)
value_given version (of_group field.MemberOf g) text long = made _ (λ v. in_group g (aggregates v)) (rule_value text) (λ v. record { by = refl; sound = (long, tt) })
value_given version (of_group field.InTree g) text long = made _ (λ v. in_group g (tree v)) (id_value text) (λ v. record { by = refl; sound = (long, tt) })
value_given version root_required text long = made _ root_traits (traits_value text) (λ v. record { by = refl; sound = tt })
value_given version group_policy text long = made _ policy (policy_value text) (λ v. record { by = refl; sound = tt })
value_given version same_subtree text long = made _ subtree (subtree_value text) (λ v. record { by = refl; sound = tt })
value_given version limit text long = made _ at_most (amount_value text) (λ v. record { by = refl; sound = tt })

-- ---- a pair without a fault
record IsFine (version : Version) (earlier : List (List ℕ)) (p : List ℕ × List ℕ) : Type 0 where
  value : Given
  read : read_pair version p ≡ Some value
  name : p.0 ≡ name_of (given_by value)
  fresh : is_repeat version earlier p.0 (given_by value) ≡ false

module _ (version : Version) (n : ℕ) (earlier : List (List ℕ)) (p : List ℕ × List ℕ) where
  fine_known : (q : Parameter) → parameter p.0 ≡ Some q → Names p.0 q → (b : Bool) → is_repeat version earlier p.0 q ≡ b
      → (o : Option Given) → given_of version q p.1 ≡ o → IfSome o (Gives q)
      → (f g : Fault) (rest : Option Fault) → (if b then Some f else if is_none o then Some g else rest) ≡ None → IsFine version earlier p
  fine_known q is names true again o gives by f g rest h = absurd (cc)
  fine_known q is names false fresh None gives by f g rest h = absurd (cc)
  fine_known q is names false fresh (Some v) gives by f g rest h = record {
    value = v;
    read = ap (option_and_then (λ r. given_of version r p.1)) is ∙ gives;
    name = names.is ∙ ap name_of (sym by.by);
    fresh = ap (is_repeat version earlier p.0) by.by ∙ fresh;
  }

  fine_of : (o : Option Parameter) → parameter p.0 ≡ o → IfSome o (Names p.0) → first_fault (conditions_of version n earlier p o) ≡ None → IsFine version earlier p
  fine_of None is names h = absurd (cc)
  fine_of (Some q) is names h = fine_known q is names (is_repeat version earlier p.0 q) refl (given_of version q p.1) refl (value_given version q p.1 names.long) _ _ _ h

  fine_pair : first_fault (pair_conditions version n earlier p) ≡ None → IsFine version earlier p
  fine_pair h = fine_of (parameter p.0) refl (named p.0) h

-- ---- what one parameter gives
module _ (version : Version) {V : Type 0} (pick : Given → Option V) (q : Parameter) (once : may_repeat version q ≡ false)
    (only : (v : Given) → IfSome (pick v) (λ _. given_by v ≡ q)) where
  -- one at most, and none behind a pair of its name
  abbrev IsLeft : List (List ℕ) → List V → Type 0
  IsLeft earlier xs = (if has_text earlier (name_of q) then 1 else 0) + length xs ≤ 1

  weaker : (b s : Bool) (k : ℕ) → (if b || (s || false) then 1 else 0) + k ≤ 1 → (if b then 1 else 0) + k ≤ 1
  weaker true s k h = h
  weaker false s k h = omega arith

  one_pair : (earlier : List (List ℕ)) (p : List ℕ × List ℕ) (f : IsFine version earlier p) (o : Option V) → IfSome o (λ _. given_by f.value ≡ q) → (xs : List V) → IsLeft (earlier ++ p.0 ∷ []) xs → IsLeft earlier (cons_option o xs)
  one_pair earlier p f None by xs left = weaker (has_text earlier (name_of q)) (bytes_eq (name_of q) p.0) (length xs) (rw (has_text-push earlier p.0 (name_of q)) at left)
  one_pair earlier p f (Some x) by xs left =
      let here : bytes_eq (name_of q) p.0 ≡ true = ap (bytes_eq (name_of q)) (f.name ∙ ap name_of by) ∙ nat_list_eq_equiv.refl (name_of q) in
      let fresh : not (may_repeat version q) && has_text earlier (name_of q) ≡ false = ap₂ (λ r t. is_repeat version earlier t r) (sym by) (sym (f.name ∙ ap name_of by)) ∙ f.fresh in
      grind (arith, has_text-push, once)

  pub is_short : (n : ℕ) (earlier : List (List ℕ)) (ps : List (List ℕ × List ℕ)) → first_fault (pairs_conditions version n earlier ps) ≡ None → IsLeft earlier (filter_map pick (given version ps))
  is_short n earlier [] fine = grind arith
  is_short n earlier (p ∷ ps) fine =
      let both = neither (pair_conditions version n earlier p) (pairs_conditions version (n + 1) (earlier ++ p.0 ∷ []) ps) fine in
      let f = fine_pair version n earlier p both.0 in
      rw f.read (one_pair earlier p f (pick f.value) (only f.value) (filter_map pick (given version ps)) (is_short (n + 1) (earlier ++ p.0 ∷ []) ps both.1))

-- ---- the fields of which each is told once
same_is : (s t : Option (List ℕ)) → same_suffix s t ≡ true → s ≡ t
same_is None None h = refl
same_is None (Some t) h = absurd (cc)
same_is (Some s) None h = absurd (cc)
same_is (Some s) (Some t) h = ap (λ x. Some x) (same_text s t (sym h))

needs_by : (p : Part) → IfSome (needs_in p) (λ _. field_by p ≡ field.Resources)
needs_by p = grind (arith, common_steps)

tree_by : (p : Part) → IfSome (tree_in p) (λ _. field_by p ≡ field.InTree)
tree_by p = grind (arith, common_steps)

policy_by : (v : Given) → IfSome (policy_in v) (λ _. given_by v ≡ group_policy)
policy_by v = grind (arith, common_steps)

limit_by : (v : Given) → IfSome (limit_in v) (λ _. given_by v ≡ limit)
limit_by v = grind (arith, common_steps)

-- what is said of a group by one of its fields
module _ {X : Type 0} (s : Option (List ℕ)) (f : Part → Option X) (at : Field) (by : (p : Part) → IfSome (f p) (λ _. field_by p ≡ at)) where
  abbrev said : Given → Option X
  said v = option_and_then f (option_and_then (part_for s) (group_part v))

  said_by : (v : Given) → IfSome (said v) (λ _. given_by v ≡ of_group at s)
  said_by (in_group g p) = of (same_suffix s g) refl
    where
      of : (b : Bool) → same_suffix s g ≡ b → IfSome (option_and_then f (if b then Some p else None)) (λ _. of_group (field_by p) g ≡ of_group at s)
      of true is = IfSome_then (f p) (by p) (λ x e. ap₂ of_group e (sym (same_is s g is)))
      of false is = tt
  said_by v = grind (arith, common_steps)

-- one after the other
module _ {X Y Z : Type 0} (f : X → Option Y) (g : Y → Option Z) where
  at_first : (o : Option Y) (ys : List Y) → filter_map g (cons_option o ys) ≡ cons_option (option_and_then g o) (filter_map g ys)
  at_first o ys = grind (arith, common_steps)

  filter_map-filter_map : (xs : List X) → filter_map g (filter_map f xs) ≡ filter_map (λ x. option_and_then g (f x)) xs
  filter_map-filter_map [] = refl
  filter_map-filter_map (x ∷ xs) = at_first (f x) (filter_map f xs) ∙ ap (cons_option (option_and_then g (f x))) (filter_map-filter_map xs)

module _ (version : Version) (pairs : List (List ℕ × List ℕ)) (fine : first_fault (pairs_conditions version 1 [] pairs) ≡ None) where
  pub policy_once : IsShort (filter_map policy_in (given version pairs))
  policy_once = omega (arith, is_short version policy_in group_policy refl policy_by 1 [] pairs fine)

  pub limit_once : IsShort (filter_map limit_in (given version pairs))
  limit_once = omega (arith, is_short version limit_in limit refl limit_by 1 [] pairs fine)

  module _ (s : Option (List ℕ)) where
    part_once : {X : Type 0} (f : Part → Option X) (at : Field) → ((p : Part) → IfSome (f p) (λ _. field_by p ≡ at)) → may_repeat version (of_group at s) ≡ false
        → IsShort (filter_map f (parts_of s (given version pairs)))
    part_once f at by once =
        rw (filter_map-filter_map group_part, filter_map-filter_map)
        (omega (arith, is_short version (said s f at by) (of_group at s) once (said_by s f at by) 1 [] pairs fine))

    pub needs_once : IsShort (filter_map needs_in (parts_of s (given version pairs)))
    needs_once = part_once needs_in field.Resources needs_by refl

    pub tree_once : IsShort (filter_map tree_in (parts_of s (given version pairs)))
    tree_once = part_once tree_in field.InTree tree_by refl
