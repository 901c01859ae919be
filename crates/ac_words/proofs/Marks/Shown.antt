-- Texts of ASCII with no white space, no control character and no quote, and values that only such texts have.
use Rattle.std.proofs.lemmas.Grind.{common_steps}
use Rattle.std.proofs.Common.{◌≡◌, ℕ, ◌&&◌, Bool, true, false, nat_lt, List, Option, Some, None, IfSome, refl, arith, if◌then◌else◌}
use Rattle.std.specs.Prelude.{not}
use Rattle.std.specs.Option.{option_map, option_and_then}
use Rattle.std.specs.List.{list_all}
use Rattle.std.proofs.lemmas.Bool.{and_parts}
use Rattle.std.proofs.lemmas.Bool.Decides.{nat_tests}
use Rattle.std.proofs.lemmas.Option.{IfSome_then}
use Rattle.ac_base.specs.Texts.{is_suffix_char}
use Rattle.ac_query.proofs.Values.Choosing.{map_some}
use Rattle.ac_run.specs.Wanted.Mark.{is_end}
use Rattle.ac_words.proofs.Marks.Texts.{all_weaker}

-- a character of ASCII at which no query ends
abbrev pub is_shown : ℕ → Bool
is_shown c = not (is_end c) && nat_lt c 128

abbrev pub IsShown : List ℕ → Type 0
IsShown text = list_all is_shown text ≡ true

-- where a value is made, its text is shown
abbrev pub ShowsSome : {X : Type 0} → List ℕ → Option X → Type 0
ShowsSome text o = IfSome o (λ _. IsShown text)

pub suffix_char_shown : (c : ℕ) → is_suffix_char c ≡ true → is_shown c ≡ true
suffix_char_shown c h = grind (arith, nat_tests)

pub mapped : {A B : Type 0} (f : A → B) (text : List ℕ) (o : Option A) → ShowsSome text o → ShowsSome text (option_map f o)
mapped f text o h = map_some (λ _. IsShown text) (λ _. IsShown text) f o h (λ a k. k)

pub narrowed : {A B : Type 0} (f : A → Option B) (text : List ℕ) (o : Option A) → ShowsSome text o → ShowsSome text (option_and_then f o)
narrowed f text o h = grind (arith, common_steps)

pub tested : {A : Type 0} (text : List ℕ) (b : Bool) (x y : Option A) → (b ≡ true → ShowsSome text x) → ShowsSome text y → ShowsSome text (if b then x else y)
tested text true x y h k = h refl
tested text false x y h k = k

-- a text that all is made of, or what stands behind its front
pub fronted : {X : Type 0} (make : Option (List ℕ) → Option X) (text : List ℕ) (o : Option (List ℕ)) → IfSome o (λ end. IsShown end → IsShown text)
    → ShowsSome text (make None) → ((end : List ℕ) → ShowsSome end (make (Some end))) → ShowsSome text (make o)
fronted make text None whole plain behind_it = plain
fronted make text (Some end) whole plain behind_it = IfSome_then (make (Some end)) (behind_it end) (λ v h. whole h)

pub made_of : {A : Type 0} (p : ℕ → Bool) → ((c : ℕ) → p c ≡ true → is_shown c ≡ true) → (text : List ℕ) (b : Bool) (x : A)
    → ShowsSome text (if b && list_all p text then Some x else None)
made_of p weaker text b x = tested text (b && list_all p text) (Some x) None (λ t. all_weaker p is_shown weaker text (and_parts b (list_all p text) t).1) tt
