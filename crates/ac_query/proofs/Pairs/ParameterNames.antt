-- A parameter has one name, and the suffix in it, if any, has a character.
use Rattle.std.proofs.lemmas.Grind.{common_steps}
use Rattle.std.proofs.Common.{◌≡◌, ℕ, ◌<◌, ◌==◌, Bool, true, false, nat_eq, List, [], ◌∷◌, ◌++◌, length, drop, codes, Option, Some, None, IfSome, refl, sym, ap, ◌∙◌, take, take-append-drop, arith, if◌then◌else◌}
use Rattle.std.specs.Bool.{⊤}
use Rattle.std.specs.Option.{option_map, option_and_then}
use Rattle.std.specs.List.{starts_with}
use Rattle.std.specs.Str.{bytes_eq}
use Rattle.std.specs.Cmp.Lexicographic.{same_text}
use Rattle.std.proofs.lemmas.Bool.{eqb-true}
use Rattle.std.proofs.lemmas.List.{nil_from_length}
use Rattle.std.proofs.lemmas.Option.{IfSome_then}
use Rattle.ac_base.specs.Texts.{suffix_value}
use Rattle.ac_query.specs.declared.reading.parameter.Field.{Field}
use Rattle.ac_query.specs.declared.reading.parameter.Field.TheVariants as field
use Rattle.ac_query.specs.Texts.{behind}
use Rattle.ac_query.specs.Pairs.Parameters.{Parameter, of_group, root_required, group_policy, same_subtree, limit, group_of, field_of, plain_parameter, group_parameter, parameter}
use Rattle.ac_query.proofs.Values.Choosing.{then_some, map_some, else_some}

-- the word of a field
abbrev pub word_of : Field → List ℕ
word_of field.Resources = codes "resources"
word_of field.Required = codes "required"
word_of field.MemberOf = codes "member_of"
word_of field.InTree = codes "in_tree"

-- the end of a name that says a group
abbrev pub end_of : Option (List ℕ) → List ℕ
end_of None = []
end_of (Some s) = s

-- the name of a parameter
abbrev pub name_of : Parameter → List ℕ
name_of (of_group f g) = word_of f ++ end_of g
name_of root_required = codes "root_required"
name_of group_policy = codes "group_policy"
name_of same_subtree = codes "same_subtree"
name_of limit = codes "limit"

-- a suffix, where there is one, has a character
abbrev pub IsLong : Option (List ℕ) → Type 0
IsLong g = IfSome g (λ s. 0 < length s)

abbrev pub HasLong : Parameter → Type 0
HasLong (of_group f g) = IsLong g
HasLong root_required = ⊤
HasLong group_policy = ⊤
HasLong same_subtree = ⊤
HasLong limit = ⊤

pub record Names (name : List ℕ) (q : Parameter) : Type 0 where
  pub is : name ≡ name_of q
  pub long : HasLong q

front_is : (front text : List ℕ) → IfSome (behind front text) (λ end. text ≡ front ++ end)
unfolding behind
front_is front text = by_test (starts_with nat_eq text front) refl
  where
    by_test : (b : Bool) → starts_with nat_eq text front ≡ b → IfSome (if b then Some (drop (length front) text) else None) (λ end. text ≡ front ++ end)
    by_test true is =
        sym (take-append-drop (length front) text) ∙ ap (λ l. l ++ drop (length front) text) (sym (same_text front (take (length front) text) (sym is)))
    by_test false is = tt

suffix_is : (text : List ℕ) → IfSome (suffix_value text) (λ s. (text ≡ s) × (0 < length s))
suffix_is [] = tt
suffix_is (c ∷ cs) = grind (arith, common_steps)

group_is : (end : List ℕ) → IfSome (group_of end) (λ g. (end ≡ end_of g) × IsLong g)
unfolding group_of
group_is end = by_length (length end == 0) refl
  where
    by_length : (b : Bool) → (length end == 0) ≡ b → IfSome (if b then Some None else option_map (λ s. Some s) (suffix_value end)) (λ g. (end ≡ end_of g) × IsLong g)
    by_length b is = grind (arith, common_steps, is, nil_from_length, eqb-true, map_some, suffix_is)

field_named : (f : Field) (name : List ℕ) → IfSome (field_of (word_of f) f name) (Names name)
unfolding field_of
field_named f name =
    map_some (λ g. (name ≡ word_of f ++ end_of g) × IsLong g) (Names name) (of_group f) (option_and_then group_of (behind (word_of f) name))
    (then_some _ _ group_of (behind (word_of f) name) (front_is (word_of f) name)
    (λ end parts. IfSome_then (group_of end) (group_is end) (λ g h. (parts ∙ ap (λ e. word_of f ++ e) h.0, h.1))))
    (λ g h. record { is = h.0; long = h.1 })

-- a name that is the word of a parameter without a suffix, or named by what is left
word_named : (name : List ℕ) (p : Parameter) (rest : Option Parameter) → HasLong p → IfSome rest (Names name) → IfSome (if bytes_eq name (name_of p) then Some p else rest) (Names name)
word_named name p rest long other = by_test (bytes_eq name (name_of p)) refl
  where
    by_test : (b : Bool) → bytes_eq name (name_of p) ≡ b → IfSome (if b then Some p else rest) (Names name)
    by_test true at = record { is = same_text name (name_of p) (sym at); long = long }
    by_test false at = other

plain_named : (name : List ℕ) → IfSome (plain_parameter name) (Names name)
unfolding plain_parameter
plain_named name = grind (arith, common_steps, word_named)

grouped_named : (name : List ℕ) → IfSome (group_parameter name) (Names name)
unfolding group_parameter
grouped_named name = grind (arith, common_steps, else_some, field_named)

pub named : (name : List ℕ) → IfSome (parameter name) (Names name)
unfolding parameter
named name = else_some (Names name) (plain_parameter name) (group_parameter name) (plain_named name) (grouped_named name)
