-- The first item of a list that meets a test, or fails it, in a pass over what is left.
use Rattle.std.proofs.lemmas.Grind.{common_steps}
use Rattle.std.proofs.Common.{◌≡◌, Bool, true, false, List, ◌∷◌, Option, Some, arith}
use Rattle.std.specs.Prelude.{find}
use Rattle.std.specs.List.{list_all}

module _ {X : Type 0} (test : X → Bool) (left rest : List X) (x : X) (turn : left ≡ x ∷ rest) where
  pub all_failed : (whole : Bool) → list_all test left ≡ whole → test x ≡ false → false ≡ whole
  all_failed whole holds failed = grind (arith, common_steps)

  pub first_met : (whole : Option X) → find test left ≡ whole → test x ≡ true → Some x ≡ whole
  first_met whole holds met = grind (arith, common_steps)

  pub first_passed : (whole : Option X) → find test left ≡ whole → test x ≡ false → find test rest ≡ whole
  first_passed whole holds passed = grind (arith, common_steps)
