-- A value that is accepted is shown.
use Rattle.std.proofs.lemmas.Grind.{common_steps}
use Rattle.std.proofs.Common.{◌≡◌, ℕ, true, false, List, [], ◌∷◌, codes, Option, Some, None, IfSome, refl, sym, ap, arith}
use Rattle.std.specs.List.{list_all, before_first, after_first, AllByRecursion}
use Rattle.std.specs.Str.{bytes_eq}
use Rattle.std.specs.Cmp.Lexicographic.{same_text}
use Rattle.std.proofs.lemmas.Bool.{eqb-true}
use Rattle.std.proofs.lemmas.Bool.Decides.{nat_tests}
use Rattle.std.proofs.lemmas.Option.{IfSome_then}
use Rattle.ac_base.specs.Texts.{at_most, count_value, decimal, greatest, id_value, is_digit, is_name_char, is_suffix_char, name_value, number, suffix_value}
use Rattle.ac_query.specs.declared.version.Version.{Version}
use Rattle.ac_query.specs.Texts.{behind, in_byte_order, is_colon, is_comma, items_of}
use Rattle.ac_query.specs.Versions.{has_any_of}
use Rattle.ac_query.specs.Pairs.Parameters.{Parameter, of_group, root_required, group_policy, same_subtree, limit}
use Rattle.ac_query.specs.Pairs.Values.{aggregates_value, amount_value, any_of, any_of_text, by_class, given_of, has_colon, ids_value, list_value, listed_ids, mark_of, marked_value, names_value, need_of, need_value, needs_value, parted, policy_value, positive, required_part, required_value, rule_of, rule_value, subtree_value, traits, traits_value, values_of}
use Rattle.ac_query.proofs.Values.Choosing.{then_some, map_some, either_some}
use Rattle.ac_words.proofs.Marks.Texts.{all_fronted, all_pieces, all_sides}
use Rattle.ac_words.proofs.Marks.Shown.{is_shown, suffix_char_shown, IsShown, ShowsSome, fronted, made_of, mapped, narrowed, tested}
use Rattle.ac_words.proofs.Marks.PlainIds.{id_shown}

-- ---- lists, numbers, names and words

list_shown : {X : Type 0} (value : List ℕ → Option X) → ((t : List ℕ) → ShowsSome t (value t)) → (text : List ℕ) → ShowsSome text (list_value value text)
list_shown value h text =
    IfSome_then (list_value value text) (each (items_of text)) (λ v all. all_pieces is_shown is_comma (λ c t. ap is_shown (eqb-true c 44 t)) text all)
  where
    each : (ts : List (List ℕ)) → IfSome (values_of value ts) (λ _. AllByRecursion IsShown ts)
    each [] = tt
    each (t ∷ ts) =
        then_some (λ _. IsShown t) (λ _. AllByRecursion IsShown (t ∷ ts)) _ (value t) (h t)
        (λ v k. map_some (λ _. AllByRecursion IsShown ts) (λ _. AllByRecursion IsShown (t ∷ ts)) (λ vs. v ∷ vs) (values_of value ts) (each ts) (λ vs all. (k, all)))

name_char_shown : (c : ℕ) → is_name_char c ≡ true → is_shown c ≡ true
name_char_shown c h = grind (arith, nat_tests)

digit_shown : (c : ℕ) → is_digit c ≡ true → is_shown c ≡ true
digit_shown c h = grind (arith, nat_tests)

number_shown : (most : ℕ) (text : List ℕ) → ShowsSome text (number most text)
unfolding number
number_shown most text = made_of is_digit digit_shown text _ (decimal text)

amount_shown : (text : List ℕ) → ShowsSome text (amount_value text)
unfolding amount_value count_value
amount_shown text = narrowed positive text (count_value text) (narrowed (at_most greatest) text (number 10 text) (number_shown 10 text))

name_shown : (text : List ℕ) → ShowsSome text (name_value text)
name_shown text = made_of is_name_char name_char_shown text _ text

suffix_shown : (text : List ℕ) → ShowsSome text (suffix_value text)
suffix_shown text = made_of is_suffix_char suffix_char_shown text _ text

policy_shown : (text : List ℕ) → ShowsSome text (policy_value text)
unfolding policy_value
policy_shown text =
    tested text (bytes_eq text (codes "isolate")) (Some true) _ (λ t. ap (list_all is_shown) (same_text text (codes "isolate") (sym t)))
    (tested text (bytes_eq text (codes "none")) (Some false) None (λ t. ap (list_all is_shown) (same_text text (codes "none") (sym t))) tt)

-- ---- parameters' values

need_shown : (item : List ℕ) → ShowsSome item (need_value item)
unfolding need_value
need_shown item = either_some (λ _. IsShown item) (has_colon item) _ None of tt
  where
    of : ShowsSome item (need_of (before_first is_colon item) (after_first is_colon item))
    of = then_some (λ _. IsShown (before_first is_colon item)) (λ _. IsShown item) _ (name_value (before_first is_colon item)) (name_shown (before_first is_colon item))
        (λ c h. map_some (λ _. IsShown (after_first is_colon item)) (λ _. IsShown item) (λ n. (c, n)) (amount_value (after_first is_colon item)) (amount_shown (after_first is_colon item))
        (λ n k. all_sides is_shown is_colon (λ b t. ap is_shown (eqb-true b 58 t)) item h k))

needs_shown : (text : List ℕ) → ShowsSome text (needs_value text)
unfolding needs_value
needs_shown text = narrowed by_class text (list_value need_value text) (list_shown need_value need_shown text)

marked_shown : (item : List ℕ) → ShowsSome item (marked_value item)
unfolding marked_value
marked_shown item =
    fronted (mark_of item) item (behind (codes "!") item) (all_fronted is_shown (codes "!") item refl) (mapped _ item (name_value item) (name_shown item))
    (λ name. mapped _ name (name_value name) (name_shown name))

traits_shown : (text : List ℕ) → ShowsSome text (traits_value text)
unfolding traits_value
traits_shown text = mapped parted text (list_value marked_value text) (list_shown marked_value marked_shown text)

names_shown : (text : List ℕ) → ShowsSome text (names_value text)
unfolding names_value
names_shown text = mapped in_byte_order text (list_value name_value text) (list_shown name_value name_shown text)

ids_shown : (text : List ℕ) → ShowsSome text (ids_value text)
unfolding ids_value
ids_shown text = list_shown id_value id_shown text

aggregates_shown : (text : List ℕ) → ShowsSome text (aggregates_value text)
unfolding aggregates_value
aggregates_shown text = fronted (listed_ids text) text (behind (codes "in:") text) (all_fronted is_shown (codes "in:") text refl) (mapped _ text (id_value text) (id_shown text)) ids_shown

rule_shown : (text : List ℕ) → ShowsSome text (rule_value text)
unfolding rule_value
rule_shown text =
    fronted (rule_of text) text (behind (codes "!") text) (all_fronted is_shown (codes "!") text refl) (mapped _ text (aggregates_value text) (aggregates_shown text))
    (λ plain. mapped _ plain (aggregates_value plain) (aggregates_shown plain))

required_shown : (version : Version) (text : List ℕ) → ShowsSome text (required_value version text)
unfolding required_value any_of_text
required_shown version text =
    fronted (required_part text) text (any_of_text version text)
    (either_some _ (has_any_of version) (behind (codes "in:") text) None (all_fronted is_shown (codes "in:") text refl) tt)
    (mapped traits text (traits_value text) (traits_shown text)) (λ list. mapped any_of list (names_value list) (names_shown list))

subtree_shown : (text : List ℕ) → ShowsSome text (subtree_value text)
unfolding subtree_value
subtree_shown text = mapped in_byte_order text (list_value suffix_value text) (list_shown suffix_value suffix_shown text)

pub value_shown : (version : Version) (q : Parameter) (text : List ℕ) → ShowsSome text (given_of version q text)
value_shown version (of_group f g) text = grind (arith, common_steps, mapped, needs_shown, required_shown, rule_shown, id_shown)
value_shown version root_required text = mapped _ text (traits_value text) (traits_shown text)
value_shown version group_policy text = mapped _ text (policy_value text) (policy_shown text)
value_shown version same_subtree text = mapped _ text (subtree_value text) (subtree_shown text)
value_shown version limit text = mapped _ text (amount_value text) (amount_shown text)
