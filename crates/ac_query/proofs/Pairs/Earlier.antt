-- Earlier names as a set: the conditions of pairs ask only whether a name is among them.
use Rattle.std.proofs.Common.{arith}
use Rattle.std.proofs.lemmas.Grind.{common_steps}
use Rattle.std.proofs.Common.{◌≡◌, ℕ, ◌+◌, Bool, false, ◌||◌, List, [], ◌∷◌, ◌++◌, Option, Some, None, refl, sym, ap, ap₂, ◌∙◌}
use Rattle.std.specs.BTreeSet.{insert_key}
use Rattle.std.specs.Cmp.Lexicographic.{texts_ties}
use Rattle.std.specs.Str.{bytes_eq}
use Rattle.std.proofs.lemmas.Cmp.{nat_list_cmp_total}
use Rattle.std.proofs.lemmas.List.Folds.{list_any-append}
use Rattle.ac_base.specs.Texts.{text_cmp}
use Rattle.ac_base.proofs.Sorted.SameItems.{has_inserted}
use Rattle.ac_base.proofs.Sorted.SearchFacts.{any_same}
use Rattle.ac_query.specs.declared.version.Version.{Version}
use Rattle.ac_query.specs.Texts.{has_text}
use Rattle.ac_query.specs.Pairs.Parameters.{Parameter, parameter}
use Rattle.ac_query.specs.Faults.{conditions_of, pairs_conditions}

-- whether a name is among names with one more behind them, or with one more in their order
pub has_text-push : (names : List (List ℕ)) (name x : List ℕ) → has_text (names ++ name ∷ []) x ≡ has_text names x || (bytes_eq x name || false)
has_text-push names name x = list_any-append (bytes_eq x) names (name ∷ [])

has_text-insert : (names : List (List ℕ)) (name x : List ℕ) → has_text (insert_key text_cmp names name) x ≡ has_text (names ++ name ∷ []) x
has_text-insert names name x =
    any_same _ _ (texts_ties x) (insert_key text_cmp names name)
    ∙ has_inserted nat_list_cmp_total x names name
    ∙ ap₂ (λ a b. a || b) (sym (texts_ties x name)) (sym (any_same _ _ (texts_ties x) names))
    ∙ turned (bytes_eq x name) (has_text names x)
    ∙ sym (has_text-push names name x)
  where
    turned : (a b : Bool) → a || b ≡ b || (a || false)
    turned a b = grind (arith, common_steps)

-- names of which the same are there
conditions_same : (version : Version) (n : ℕ) (a b : List (List ℕ)) (ps : List (List ℕ × List ℕ)) → ((x : List ℕ) → has_text a x ≡ has_text b x) → pairs_conditions version n a ps ≡ pairs_conditions version n b ps
conditions_same version n a b [] same = refl
conditions_same version n a b (p ∷ ps) same =
    ap₂ (λ c cs. c ++ cs) (of (parameter p.0))
    (conditions_same version (n + 1) (a ++ p.0 ∷ []) (b ++ p.0 ∷ []) ps (λ x. has_text-push a p.0 x ∙ ap (λ h. h || (bytes_eq x p.0 || false)) (same x) ∙ sym (has_text-push b p.0 x)))
  where
    of : (o : Option Parameter) → conditions_of version n a p o ≡ conditions_of version n b p o
    of None = refl
    of (Some q) = rw (same p.0) refl

pub earlier_set : (version : Version) (n : ℕ) (names : List (List ℕ)) (name : List ℕ) (ps : List (List ℕ × List ℕ))
    → pairs_conditions version n (insert_key text_cmp names name) ps ≡ pairs_conditions version n (names ++ name ∷ []) ps
earlier_set version n names name ps = conditions_same version n _ _ ps (has_text-insert names name)
