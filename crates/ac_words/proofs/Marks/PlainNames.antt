-- A name that is a parameter has only the characters of suffixes.
use Rattle.std.proofs.lemmas.Grind.{common_steps}
use Rattle.std.proofs.Common.{◌≡◌, ℕ, ◌==◌, Bool, true, false, List, length, codes, Option, Some, None, IfSome, refl, sym, ap, ◌∙◌, arith, if◌then◌else◌}
use Rattle.std.specs.Option.{option_map, option_and_then}
use Rattle.std.specs.List.{list_all}
use Rattle.std.specs.Str.{bytes_eq}
use Rattle.std.specs.Cmp.Lexicographic.{same_text}
use Rattle.std.proofs.lemmas.Bool.{eqb-true}
use Rattle.std.proofs.lemmas.List.{nil_from_length}
use Rattle.std.proofs.lemmas.Option.{IfSome_then}
use Rattle.ac_base.specs.Texts.{is_suffix_char, suffix_value}
use Rattle.ac_query.specs.Texts.{behind}
use Rattle.ac_query.specs.Pairs.Parameters.{Parameter, root_required, group_policy, same_subtree, limit, group_of, field_of, plain_parameter, group_parameter, parameter}
use Rattle.ac_query.proofs.Values.Choosing.{then_some, map_some, else_some}
use Rattle.ac_words.proofs.Marks.Texts.{all_fronted}

abbrev pub is_plain : List ℕ → Bool
is_plain text = list_all is_suffix_char text

suffix_plain : (text : List ℕ) → IfSome (suffix_value text) (λ s. is_plain text ≡ true)
suffix_plain text = grind (arith, common_steps)

group_plain : (end : List ℕ) → IfSome (group_of end) (λ g. is_plain end ≡ true)
unfolding group_of
group_plain end = by_length (length end == 0) refl
  where
    by_length : (b : Bool) → (length end == 0) ≡ b → IfSome (if b then Some None else option_map (λ s. Some s) (suffix_value end)) (λ g. is_plain end ≡ true)
    by_length true is = ap is_plain (nil_from_length end (eqb-true (length end) 0 is))
    by_length false is = map_some (λ s. is_plain end ≡ true) (λ g. is_plain end ≡ true) (λ s. Some s) (suffix_value end) (suffix_plain end) (λ s h. h)

ended_plain : (word : List ℕ) (make : Option (List ℕ) → Parameter) (name : List ℕ) → is_plain word ≡ true
    → IfSome (option_map make (option_and_then group_of (behind word name))) (λ q. is_plain name ≡ true)
ended_plain word make name plain =
    map_some (λ g. is_plain name ≡ true) (λ q. is_plain name ≡ true) make (option_and_then group_of (behind word name))
    (then_some _ _ group_of (behind word name) (all_fronted is_suffix_char word name plain)
    (λ end whole. IfSome_then (group_of end) (group_plain end) (λ g h. whole h)))
    (λ g h. h)

word_plain : (name word : List ℕ) (p : Parameter) (rest : Option Parameter) → is_plain word ≡ true → IfSome rest (λ q. is_plain name ≡ true)
    → IfSome (if bytes_eq name word then Some p else rest) (λ q. is_plain name ≡ true)
word_plain name word p rest plain other = by_test (bytes_eq name word) refl
  where
    by_test : (b : Bool) → bytes_eq name word ≡ b → IfSome (if b then Some p else rest) (λ q. is_plain name ≡ true)
    by_test true at = ap is_plain (same_text name word (sym at)) ∙ plain
    by_test false at = other

unsuffixed_plain : (name : List ℕ) → IfSome (plain_parameter name) (λ q. is_plain name ≡ true)
unfolding plain_parameter
unsuffixed_plain name =
    word_plain name (codes "root_required") root_required _ refl
    (word_plain name (codes "group_policy") group_policy _ refl
    (word_plain name (codes "same_subtree") same_subtree _ refl
    (word_plain name (codes "limit") limit None refl tt)))

grouped_plain : (name : List ℕ) → IfSome (group_parameter name) (λ q. is_plain name ≡ true)
unfolding group_parameter field_of
grouped_plain name =
    grind (arith, common_steps, else_some, ended_plain (codes "resources"), ended_plain (codes "required"), ended_plain (codes "member_of"), ended_plain (codes "in_tree"))

pub parameter_plain : (name : List ℕ) → IfSome (parameter name) (λ q. is_plain name ≡ true)
unfolding parameter
parameter_plain name = else_some _ (plain_parameter name) (group_parameter name) (unsuffixed_plain name) (grouped_plain name)
