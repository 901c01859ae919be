-- What decimal digits say as a number, and what of it stands behind so many places.
pub mod Steps
use Rattle.std.proofs.Common.{◌≡◌, ℕ, ◌+◌, ◌-◌, ◌*◌, ◌/◌, ◌%◌, ◌^◌, ◌<◌, ◌≤◌, refl, sym, ap, ◌∙◌, arith, eq-eqb, ne_eqb, ◌&&◌, ◌==◌, Bool, true, false, inl, inr, subst, List, [], ◌∷◌, ◌++◌, take, drop, length, if◌then◌else◌, Some, None, is_some}
use Rattle.std.specs.List.{list_all, fold}
use Rattle.std.proofs.lemmas.Bool.Decides.{nat_tests}
use Rattle.std.proofs.lemmas.Bool.{cases_lt}
use Rattle.std.proofs.lemmas.List.{take-append-drop, length-drop}
use Rattle.std.proofs.lemmas.List.Folds.{list_all-append}
use Rattle.std.proofs.lemmas.List.Sums.{fold-append}
use Rattle.std.proofs.lemmas.Nat.{pow-add, div-mul-add, mod-mul-add, mul-le}
use Rattle.std.proofs.Math.ListN.{drop_of_length-le}
use Rattle.std.proofs.Math.Nat.{pow-suc, one-le-pow, add-mul-mod_self_right, add-mul-div_right}
use Rattle.std.specs.Option.{option_map}
use Rattle.ac_base.specs.Texts.{is_digit, is_zero, with_digit, decimal, in_millionths}
use Rattle.ac_base.specs.Laws.{SixDecimals}
use Rattle.ac_base.proofs.Small.{both}
use Rattle.std.proofs.lemmas.Grind.{common_steps}
use Rattle.std.proofs.lemmas.Bool.{cases_Bool}

regroup : (n d p r : ℕ) → (n * 10 + d) * p + r ≡ n * (p * 10) + ((0 * 10 + d) * p + r)
regroup n d p r = omega arith

-- digits behind a number
digits_after : (n : ℕ) (ds : List ℕ) → fold with_digit n ds ≡ n * 10 ^ length ds + decimal ds
digits_after n [] = omega arith
digits_after n (c ∷ cs) =
    let after : fold with_digit n (c ∷ cs) ≡ (n * 10 + (c - 48)) * 10 ^ length cs + decimal cs = digits_after (with_digit n c) cs in
    let alone : decimal (c ∷ cs) ≡ (0 * 10 + (c - 48)) * 10 ^ length cs + decimal cs = digits_after (with_digit 0 c) cs in
    let power : 10 ^ length (c ∷ cs) ≡ 10 ^ length cs * 10 = pow-suc 10 (length cs) in
    cc (regroup n (c - 48) (10 ^ length cs) (decimal cs))

first_digit : (c : ℕ) (cs : List ℕ) → decimal (c ∷ cs) ≡ (c - 48) * 10 ^ length cs + decimal cs
first_digit c cs =
    omega (arith, digits_after (with_digit 0 c) cs)

decimal-append : (xs ys : List ℕ) → decimal (xs ++ ys) ≡ decimal xs * 10 ^ length ys + decimal ys
decimal-append xs ys = fold-append with_digit 0 xs ys ∙ digits_after (decimal xs) ys

power_above_zero : (n : ℕ) → 0 < 10 ^ n
power_above_zero n = omega (arith, one-le-pow n 10 (omega arith))

digit_below : (c : ℕ) → is_digit c ≡ true → c - 48 < 10
digit_below c h = grind (arith, nat_tests)

decimal-lt : (ds : List ℕ) → list_all is_digit ds ≡ true → decimal ds < 10 ^ length ds
decimal-lt [] h = omega arith
decimal-lt (c ∷ cs) h =
    let parts = both (is_digit c) (list_all is_digit cs) h in
    let power : 10 ^ length (c ∷ cs) ≡ 10 ^ length cs * 10 = pow-suc 10 (length cs) in
    let digit : c - 48 ≤ 9 = omega (arith, digit_below c parts.0) in
    omega (arith, first_digit c cs, decimal-lt cs parts.1, mul-le (c - 48) (10 ^ length cs) 9 (10 ^ length cs) digit (omega arith))

zero_is_digit : (c : ℕ) → is_zero c ≡ true → is_digit c ≡ true
zero_is_digit c h = grind (arith, nat_tests)

pub zeros_digits : (ds : List ℕ) → list_all is_zero ds ≡ true → list_all is_digit ds ≡ true
zeros_digits [] h = refl
zeros_digits (c ∷ cs) h =
    let parts = both (is_zero c) (list_all is_zero cs) h in
    cc (zero_is_digit c parts.0, zeros_digits cs parts.1)

-- the number of digits that all are 0
pub zeros_decimal : (ds : List ℕ) → list_all is_zero ds ≡ true → decimal ds ≡ 0
zeros_decimal [] h = refl
zeros_decimal (c ∷ cs) h =
    let parts = both (is_zero c) (list_all is_zero cs) h in
    let first : c ≡ 48 = grind (arith, nat_tests) in
    ap (λ n. fold with_digit (with_digit 0 n) cs) first ∙ zeros_decimal cs parts.1

-- the number of other digits is above 0
digits_decimal : (ds : List ℕ) → list_all is_digit ds ≡ true → list_all is_zero ds ≡ false → 0 < decimal ds
digits_decimal [] h k = absurd (cc)
digits_decimal (c ∷ cs) h k =
    elim (is_zero c) as (λ z. is_zero c ≡ z → 0 < decimal (c ∷ cs)) [
      | true ↦ λ first.
          let rest : list_all is_zero cs ≡ false = cc in
          omega (arith, first_digit c cs, digits_decimal cs (both (is_digit c) (list_all is_digit cs) h).1 rest)
      | false ↦ λ first.
          let digit : 1 ≤ c - 48 = grind (arith, nat_tests) in
          omega (arith, first_digit c cs, power_above_zero (length cs), mul-le 1 (10 ^ length cs) (c - 48) (10 ^ length cs) digit (omega arith))
    ] refl

-- ---- the digits in d places, and those behind them

-- two ways to one power: behind d of n places there are n - d, and n of them lack d - n
same_power : (d n : ℕ) → 10 ^ (n - d) * 10 ^ d ≡ 10 ^ (d - n) * 10 ^ n
same_power d n =
    let one_sum : n - d + d ≡ d - n + n = omega arith in
    sym (pow-add 10 (n - d) d) ∙ ap (λ e. 10 ^ e) one_sum ∙ pow-add 10 (d - n) n

spread : (kept p q rest : ℕ) → (kept * p + rest) * q ≡ kept * (p * q) + rest * q
spread kept p q rest = omega arith

gather : (kept p q r : ℕ) → kept * (p * q) + r ≡ kept * p * q + r
gather kept p q r = omega arith

-- digits in d places: those kept, with the places that they lack, and the rest
pub in_places : (d : ℕ) (ds : List ℕ)
    → decimal ds * 10 ^ d ≡ decimal (take d ds) * 10 ^ (d - length ds) * 10 ^ length ds + decimal (drop d ds) * 10 ^ d
in_places d ds =
    let kept : ℕ = decimal (take d ds) in
    let rest : ℕ = decimal (drop d ds) in
    let power : 10 ^ length (drop d ds) ≡ 10 ^ (length ds - d) = ap (λ e. 10 ^ e) (length-drop d ds) in
    ap (λ n. n * 10 ^ d) ((ap decimal (sym (take-append-drop d ds))) ∙ decimal-append (take d ds) (drop d ds) ∙ ap (λ p. kept * p + rest) power)
    ∙ spread kept (10 ^ (length ds - d)) (10 ^ d) rest
    ∙ ap (λ p. kept * p + rest * 10 ^ d) (same_power d (length ds))
    ∙ gather kept (10 ^ (d - length ds)) (10 ^ length ds) (rest * 10 ^ d)

-- digits are digits in both parts
pub digits_parts : (d : ℕ) (ds : List ℕ) → list_all is_digit ds ≡ (list_all is_digit (take d ds) && list_all is_digit (drop d ds))
digits_parts d ds = ap (list_all is_digit) (sym (take-append-drop d ds)) ∙ list_all-append is_digit (take d ds) (drop d ds)

-- what stands behind d places is less than one of the last of them
behind-lt : (d : ℕ) (ds : List ℕ) → list_all is_digit (drop d ds) ≡ true → decimal (drop d ds) * 10 ^ d < 10 ^ length ds
behind-lt d ds h =
    let rest : ℕ = decimal (drop d ds) in
    elim (cases_lt d (length ds)) [
      | inl longer ↦
          let few : rest < 10 ^ (length ds - d) = subst (λ k. rest < 10 ^ k) (length-drop d ds) (decimal-lt (drop d ds) h) in
          let room : d - length ds ≡ 0 = omega arith in
          let no_place : 10 ^ (d - length ds) ≡ 1 = ap (λ e. 10 ^ e) room in
          let next : rest + 1 ≤ 10 ^ (length ds - d) = omega arith in
          let most : (rest + 1) * 10 ^ d ≤ 10 ^ (length ds - d) * 10 ^ d = mul-le (rest + 1) (10 ^ d) (10 ^ (length ds - d)) (10 ^ d) next (omega arith) in
          omega (arith, power_above_zero d, same_power d (length ds) ∙ ap (λ p. p * 10 ^ length ds) no_place)
      | inr short ↦
          omega (arith, power_above_zero (length ds), ap (λ ds. decimal ds * 10 ^ d) (drop_of_length-le ds short))
    ]

-- ---- millionths

pub millionths-whole : (ds : List ℕ) (behind q : ℕ) → decimal ds * 1000000 ≡ q * 10 ^ behind → in_millionths ds behind ≡ Some q
unfolding in_millionths
millionths-whole ds behind q h =
    let n : ℕ = decimal ds * 1000000 in
    let split : n ≡ q * 10 ^ behind + 0 = omega arith in
    let rest : n % 10 ^ behind ≡ 0 = ap (λ k. k % 10 ^ behind) split ∙ mod-mul-add q (10 ^ behind) 0 (power_above_zero behind) in
    let quotient : n / 10 ^ behind ≡ q = ap (λ k. k / 10 ^ behind) split ∙ div-mul-add q (10 ^ behind) 0 (power_above_zero behind) in
    ap (λ t. if t then Some (n / 10 ^ behind) else None) (eq-eqb (n % 10 ^ behind) 0 rest) ∙ ap Some quotient

millionths-part : (ds : List ℕ) (behind q r : ℕ) → decimal ds * 1000000 ≡ q * 10 ^ behind + r → 0 < r → r < 10 ^ behind
    → in_millionths ds behind ≡ None
unfolding in_millionths
millionths-part ds behind q r h some few =
    let n : ℕ = decimal ds * 1000000 in
    let rest : n % 10 ^ behind ≡ r = ap (λ k. k % 10 ^ behind) h ∙ mod-mul-add q (10 ^ behind) r few in
    ap (λ t. if t then Some (n / 10 ^ behind) else None) (ne_eqb (n % 10 ^ behind) 0 (λ none. omega arith))

-- Digits behind a point are whole millionths where all behind the sixth are 0, and then those of the first six.
pub fraction_millionths : (ds : List ℕ) → list_all is_digit ds ≡ true
    → in_millionths ds (length ds) ≡ (if list_all is_zero (drop 6 ds) then Some (decimal (take 6 ds) * 10 ^ (6 - length ds)) else None)
fraction_millionths ds h =
    let parts = both (list_all is_digit (take 6 ds)) (list_all is_digit (drop 6 ds)) (sym (digits_parts 6 ds) ∙ h) in
    let kept : ℕ = decimal (take 6 ds) * 10 ^ (6 - length ds) in
    let rest : ℕ = decimal (drop 6 ds) in
    elim (list_all is_zero (drop 6 ds)) as (λ z. list_all is_zero (drop 6 ds) ≡ z → in_millionths ds (length ds) ≡ (if z then Some kept else None)) [
      | true ↦ λ zeros.
          millionths-whole ds (length ds) kept (omega (arith, in_places 6 ds, ap (λ n. n * 1000000) (zeros_decimal (drop 6 ds) zeros)))
      | false ↦ λ some.
          let left : 0 < rest * 1000000 = omega (arith, digits_decimal (drop 6 ds) parts.1 some) in
          millionths-part ds (length ds) kept (rest * 1000000) (in_places 6 ds) left (behind-lt 6 ds parts.1)
    ] refl

map_test : (t : Bool) (f : ℕ → ℕ) (x : ℕ) → option_map f (if t then Some x else None) ≡ (if t then Some (f x) else None)
map_test t f x = grind (arith, common_steps, cases_Bool)

widen : (w p f : ℕ) → (w * p + f) * 1000000 ≡ f * 1000000 + w * 1000000 * p
widen w p f = omega arith

-- Digits of which some stand behind the point: the whole ones, and the millionths of the others.
pub whole_and_fraction : (whole fraction : List ℕ)
    → in_millionths (whole ++ fraction) (length fraction) ≡ option_map (λ f. decimal whole * 1000000 + f) (in_millionths fraction (length fraction))
unfolding in_millionths
whole_and_fraction whole fraction =
    let w : ℕ = decimal whole * 1000000 in
    let f : ℕ = decimal fraction * 1000000 in
    let p : ℕ = 10 ^ length fraction in
    let all : ℕ = decimal (whole ++ fraction) * 1000000 in
    let sum : all ≡ f + w * p = ap (λ n. n * 1000000) (decimal-append whole fraction) ∙ widen (decimal whole) p (decimal fraction) in
    let rest : all % p ≡ f % p = ap (λ n. n % p) sum ∙ add-mul-mod_self_right f w p in
    let over : (f + w * p) / p ≡ f / p + w = add-mul-div_right f w (power_above_zero (length fraction)) in
    let quotient : all / p ≡ w + f / p = ap (λ n. n / p) sum ∙ over ∙ omega arith in
    ap (λ r. if r == 0 then Some (all / p) else None) rest
    ∙ ap (λ q. if f % p == 0 then Some q else None) quotient
    ∙ sym (map_test (f % p == 0) (λ x. w + x) (f / p))

is_some_map : (t : Bool) (f : ℕ → ℕ) (x : ℕ) → is_some (option_map f (if t then Some x else None)) ≡ t
is_some_map t f x = grind (arith, common_steps, cases_Bool)

pub six_decimals : SixDecimals
six_decimals whole fraction digits =
    ap is_some (whole_and_fraction whole fraction ∙ ap (option_map (λ f. decimal whole * 1000000 + f)) (fraction_millionths fraction digits))
    ∙ is_some_map (list_all is_zero (drop 6 fraction)) (λ f. decimal whole * 1000000 + f) (decimal (take 6 fraction) * 10 ^ (6 - length fraction))
