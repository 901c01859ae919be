-- The digits of a number, from the last to the first.
use Rattle.std.proofs.Common.{◌≡◌, ◌∙◌, ℕ, zero, suc, ◌+◌, ◌-◌, ◌/◌, ◌%◌, ◌^◌, ◌<◌, ◌≤◌, ◌==◌, false, List, [], ◌∷◌, ◌++◌, drop, length, refl, sym, ap, arith, if◌then◌else◌, append_assoc}
use Rattle.std.proofs.Math.ListN.{set}
use Rattle.std.proofs.lemmas.Bool.{cases_Bool}
use Rattle.std.proofs.lemmas.List.{drop-set}
use Rattle.std.proofs.Math.Nat.{pow-suc}
use Rattle.std.proofs.lemmas.Bool.Decides.{nat_tests}
use Rattle.std.proofs.lemmas.Fmt.{decimal_digit, decimal_step}
use Rattle.std.specs.Fmt.{decimal}
use Rattle.std.proofs.lemmas.Grind.{common_steps}

-- the digits of a front, of which there are none where it is 0
abbrev pub front : ℕ → List ℕ
front n = if n == 0 then [] else decimal n

-- a number's last digit stands behind its front
pub last_digit : (n : ℕ) → n < 2 ^ 64 → decimal n ≡ front (n / 10) ++ (48 + n % 10) ∷ []
last_digit n fits = grind (arith, common_steps, cases_Bool, decimal_digit, decimal_step)

whole_front : (n : ℕ) → 0 < n → front n ≡ decimal n
whole_front n h = let f : (n == 0) ≡ false = grind (arith, nat_tests) in rw f refl

-- one more digit in the room
pub digit_more : (number rest start : ℕ) (room : List ℕ) → decimal number ≡ front rest ++ drop start room → 0 < rest → rest < 2 ^ 64 → 0 < start → start ≤ length room
    → decimal number ≡ front (rest / 10) ++ drop (start - 1) (set room (start - 1) (48 + rest % 10))
digit_more number rest start room holds some fits at within =
    let back : start - 1 + 1 ≡ start = omega arith in
    holds
    ∙ ap (λ f. f ++ drop start room) (whole_front rest some ∙ last_digit rest fits)
    ∙ append_assoc (front (rest / 10)) ((48 + rest % 10) ∷ []) (drop start room)
    ∙ ap (λ k. front (rest / 10) ++ (48 + rest % 10) ∷ drop k room) (sym back)
    ∙ ap (λ l. front (rest / 10) ++ l) (sym (drop-set room (start - 1) (48 + rest % 10) (omega arith)))

pub room_less : (rest start : ℕ) → rest < 10 ^ start → 0 < start → rest / 10 < 10 ^ (start - 1)
room_less rest zero fits at = absurd (omega arith)
room_less rest (suc start) fits at =
    let back : suc start - 1 ≡ start = omega arith in
    rw back (omega (arith, fits, pow-suc 10 start))

pub started : (rest start : ℕ) → rest < 10 ^ start → 0 < rest → 0 < start
started rest start fits some = grind (arith, common_steps)
