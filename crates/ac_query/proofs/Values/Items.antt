-- The values of a list, item by item.
use Rattle.std.proofs.Common.{arith}
use Rattle.std.proofs.lemmas.Grind.{common_steps}
use Rattle.std.proofs.Common.{◌≡◌, List, [], ◌∷◌, ◌++◌, Option, Some, None, refl, sym, ap, ◌∙◌, append_assoc, append-nil}
use Rattle.std.specs.Option.{option_map}
use Rattle.ac_query.specs.Pairs.Values.{values_of}

module _ {T X : Type 0} (value : T → Option X) where
  -- some values, and those of what is left
  abbrev pub values_behind : List X → List T → Option (List X)
  values_behind have left = option_map (λ rest. have ++ rest) (values_of value left)

  module _ (have : List X) (left rest : List T) (t : T) (whole : Option (List X)) (turn : left ≡ t ∷ rest) (holds : values_behind have left ≡ whole) where
    pub has_value : (more : List X) (x : X) → value t ≡ Some x → more ≡ have ++ x ∷ [] → values_behind more rest ≡ whole
    has_value more x is added = grind (arith, common_steps, values_behind, append_assoc)

    pub has_none : value t ≡ None → None ≡ whole
    has_none is = sym (ap (values_behind have) turn ∙ (rw is refl)) ∙ holds

  pub all_valued : (have : List X) → values_behind have [] ≡ Some have
  all_valued have = ap (λ l. Some l) (append-nil have)
