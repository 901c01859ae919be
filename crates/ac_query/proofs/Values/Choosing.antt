-- What holds of the value that a reader gives, where it gives one.
use Rattle.std.proofs.Common.{arith}
use Rattle.std.proofs.lemmas.Grind.{common_steps}
use Rattle.std.proofs.Common.{Bool, List, Option, IfSome, if◌then◌else◌}
use Rattle.std.specs.Bool.{⊤}
use Rattle.std.specs.List.{AllByRecursion, cons_option}
use Rattle.std.specs.Option.{option_map, option_and_then}
use Rattle.ac_query.specs.Pairs.Parameters.{Parameter, or_else}

pub any_some : {A : Type 0} (o : Option A) → IfSome o (λ _. ⊤)
any_some o = grind (arith, common_steps)

pub then_some : {A B : Type 0} (Q : A → Type 0) (P : B → Type 0) (f : A → Option B) (o : Option A) → IfSome o Q → ((a : A) → Q a → IfSome (f a) P) → IfSome (option_and_then f o) P
then_some Q P f o h k = grind (arith, common_steps)

pub map_some : {A B : Type 0} (Q : A → Type 0) (P : B → Type 0) (f : A → B) (o : Option A) → IfSome o Q → ((a : A) → Q a → P (f a)) → IfSome (option_map f o) P
map_some Q P f o h k = grind (arith, common_steps)

pub either_some : {A : Type 0} (P : A → Type 0) (b : Bool) (x y : Option A) → IfSome x P → IfSome y P → IfSome (if b then x else y) P
either_some P b x y h k = grind (arith, common_steps)

pub else_some : (P : Parameter → Type 0) (x y : Option Parameter) → IfSome x P → IfSome y P → IfSome (or_else x y) P
else_some P x y h k = grind (arith, common_steps)

pub one_more : {A : Type 0} (P : A → Type 0) (o : Option A) (xs : List A) → IfSome o P → AllByRecursion P xs → AllByRecursion P (cons_option o xs)
one_more P o xs h all = grind (arith, common_steps)
