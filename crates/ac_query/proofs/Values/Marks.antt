-- Traits of a list, one after another.
use Rattle.std.proofs.Common.{◌≡◌, ◌∙◌, ℕ, true, false, List, ◌∷◌, map, refl, sym, ap}
use Rattle.std.specs.Prelude.{not}
use Rattle.std.specs.List.{filter}
use Rattle.std.specs.BTreeSet.{insert_key}
use Rattle.ac_base.specs.Texts.{text_cmp}
use Rattle.ac_query.specs.Texts.{in_order_with}
use Rattle.ac_query.specs.Pairs.Values.{Traits, Marked}

-- these traits and those of more items
abbrev pub with_marks : Traits → List Marked → Traits
with_marks t marks = record {
  required = in_order_with t.required (map (λ m. m.1) (filter (λ m. not m.0) marks));
  forbidden = in_order_with t.forbidden (map (λ m. m.1) (filter (λ m. m.0) marks));
}

module _ (t : Traits) (left rest : List Marked) (m : Marked) (whole : Traits) (turn : left ≡ m ∷ rest) (holds : with_marks t left ≡ whole) (names : List (List ℕ)) where
  pub forbidden_one : m.0 ≡ true → names ≡ insert_key text_cmp t.forbidden m.1 → with_marks (record t { forbidden = names }) rest ≡ whole
  forbidden_one is added = ap (λ ns. with_marks (record t { forbidden = ns }) rest) added ∙ sym (ap (with_marks t) turn ∙ (rw is refl)) ∙ holds

  pub required_one : m.0 ≡ false → names ≡ insert_key text_cmp t.required m.1 → with_marks (record t { required = names }) rest ≡ whole
  required_one is added = ap (λ ns. with_marks (record t { required = ns }) rest) added ∙ sym (ap (with_marks t) turn ∙ (rw is refl)) ∙ holds
