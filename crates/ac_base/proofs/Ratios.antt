-- A ratio read step by step, as its reader does, is the ratio that its text says.
pub mod OldKept
use Rattle.std.proofs.Common.{◌≡◌, ℕ, ◌+◌, ◌-◌, ◌*◌, ◌^◌, ◌≤◌, refl, sym, ap, ap₂, ◌∙◌, arith, ltb-false, unwrap_or, ◌&&◌, ◌||◌, ◌==◌, not, Bool, true, false, nat_lt, nat_le, List, [], ◌∷◌, ◌++◌, take, drop, length, if◌then◌else◌, Option, Some, None}
use Rattle.std.specs.List.{list_all, position, position_or_len}
use Rattle.std.specs.Option.{option_map, option_and_then}
use Rattle.std.proofs.lemmas.Bool.Decides.{nat_tests}
use Rattle.std.proofs.lemmas.List.{length-take}
use Rattle.std.proofs.lemmas.List.Sums.{prefix_len-le-length}
use Rattle.std.proofs.Math.ListN.{drop_of_length-le}
use Rattle.ac_base.specs.Texts.{is_digit, is_zero, is_point, are_digits, number, decimal, at_most, greatest_ratio, in_millionths, ratio_value}
use Rattle.ac_base.specs.Ratios.{fraction_value}
use Rattle.ac_base.proofs.Decimals.{millionths-whole, fraction_millionths, whole_and_fraction, zeros_digits, digits_parts}
use Rattle.std.proofs.lemmas.Grind.{common_steps}
use Rattle.std.proofs.lemmas.Bool.{cases_Bool}

-- digits behind a point, read from the first six and the zeros behind them
abbrev pub fraction_read : List ℕ → Option ℕ
fraction_read ds = if list_all is_zero (drop 6 ds) then option_map (λ v. v * 10 ^ (6 - length ds)) (number 6 (take 6 ds)) else None

join_digits : (z kept rest : Bool) (m : Option ℕ) (f : ℕ → ℕ) (k : ℕ)
    → ((kept && rest) ≡ true → m ≡ (if z then Some (f k) else None)) → (z ≡ true → rest ≡ true)
    → (if z then option_map f (if kept then Some k else None) else None) ≡ (if kept && rest then m else None)
join_digits z kept rest m f k whole zeros = grind (arith, common_steps, cases_Bool)

-- any number of digits, and the first six
pub any_digits : (c : ℕ) (cs : List ℕ) → are_digits (length (c ∷ cs)) (c ∷ cs) ≡ list_all is_digit (c ∷ cs)
any_digits c cs =
    let some : nat_lt 0 (length (c ∷ cs)) ≡ true = grind (arith, nat_tests) in
    let few : nat_le (length (c ∷ cs)) (length (c ∷ cs)) ≡ true = grind (arith, nat_tests) in
    ap₂ (λ s t. s && t && list_all is_digit (c ∷ cs)) some few

six_digits : (c : ℕ) (cs : List ℕ) → are_digits 6 (take 6 (c ∷ cs)) ≡ list_all is_digit (take 6 (c ∷ cs))
six_digits c cs =
    let room : length (take 5 cs) ≤ 5 = omega (arith, length-take 5 cs) in
    let some : nat_lt 0 (length (take 6 (c ∷ cs))) ≡ true = grind (arith, nat_tests) in
    let few : nat_le (length (take 6 (c ∷ cs))) 6 ≡ true = grind (arith, nat_tests) in
    ap₂ (λ s t. s && t && list_all is_digit (take 6 (c ∷ cs))) some few

pub fraction_steps : (ds : List ℕ) → fraction_read ds ≡ fraction_value ds
unfolding number fraction_value
fraction_steps [] = refl
fraction_steps (c ∷ cs) =
    let ds : List ℕ = c ∷ cs in
    let zeros : Bool = list_all is_zero (drop 6 ds) in
    let kept : Bool = list_all is_digit (take 6 ds) in
    let rest : Bool = list_all is_digit (drop 6 ds) in
    let scaled : ℕ → ℕ = λ v. v * 10 ^ (6 - length ds) in
    let value : ℕ = decimal (take 6 ds) in
    let whole : (kept && rest) ≡ true → in_millionths ds (length ds) ≡ (if zeros then Some (scaled value) else None) = λ all. fraction_millionths ds (digits_parts 6 ds ∙ all) in
    ap (λ t. if zeros then option_map scaled (if t then Some value else None) else None) (six_digits c cs)
    ∙ join_digits zeros kept rest (in_millionths ds (length ds)) scaled value whole (zeros_digits (drop 6 ds))
    ∙ ap (λ t. if t then in_millionths ds (length ds) else None) (sym (any_digits c cs ∙ digits_parts 6 ds))

-- the place of the point, or the end of a text that has none
point_or_end : (b : List ℕ) → unwrap_or (position is_point b) (length b) ≡ position_or_len is_point b
point_or_end b = grind (arith, nat_tests, prefix_len-le-length (λ c. not (is_point c)) b)

-- whether a text ends before the point, told by its length or by the place
ends_there : (b : List ℕ) (i : ℕ) → i ≤ length b → (length (take i b) == length b) ≡ not (nat_lt i (length b))
ends_there b i h = grind (arith, nat_tests, length-take i b)

nothing_behind : (b : List ℕ) (i : ℕ) → nat_lt i (length b) ≡ false → in_millionths (drop (i + 1) b) (length (drop (i + 1) b)) ≡ Some 0
nothing_behind b i end =
    let behind : length b ≤ i + 1 = omega (arith, ltb-false i (length b) end) in
    ap (λ ds. in_millionths ds (length ds)) (drop_of_length-le b behind) ∙ millionths-whole [] 0 0 refl

-- The ratio with all its tests, and as it is read: d says whether digits stand before the point, l whether something stands from there
-- on, and a whether these are digits.
join_parts : (d l a : Bool) (f : Option ℕ) (w : ℕ) (g : ℕ → Option ℕ) → (l ≡ false → f ≡ Some 0)
    → option_and_then g (option_and_then (λ y. option_map (λ x. y * 1000000 + x) (if l then if a then f else None else Some 0)) (if d then Some w else None))
    ≡ (if d && (not l || a) then option_and_then g (option_map (λ x. w * 1000000 + x) f) else None)
join_parts d l a f w g h = grind (arith, common_steps, cases_Bool)

-- what is read of a text with its point at this place
abbrev ratio_read : List ℕ → ℕ → Option ℕ
ratio_read b i =
    option_and_then (λ w. option_map (λ f. w * 1000000 + f) (if nat_lt i (length b) then fraction_value (drop (i + 1) b) else Some 0)) (number 7 (take i b))

-- the ratio of these digits, where end says that a text ends before the point
abbrev ratio_of : List ℕ → List ℕ → Bool → Option ℕ → Option ℕ
ratio_of whole fraction end m =
    if are_digits 7 whole && (end || are_digits (length fraction) fraction) then option_and_then (at_most greatest_ratio) m else None

ratio_at : (b : List ℕ) (i : ℕ) → i ≡ position_or_len is_point b → option_and_then (at_most greatest_ratio) (ratio_read b i) ≡ ratio_value b
unfolding ratio_value number fraction_value
ratio_at b i place =
    let w : List ℕ = take i b in
    let f : List ℕ = drop (i + 1) b in
    let all : ℕ → Option ℕ = λ k. in_millionths (take k b ++ drop (k + 1) b) (length (drop (k + 1) b)) in
    join_parts (are_digits 7 w) (nat_lt i (length b)) (are_digits (length f) f) (in_millionths f (length f)) (decimal w) (at_most greatest_ratio) (nothing_behind b i)
    ∙ ap₂ (ratio_of w f) (sym (ends_there b i (omega (arith, prefix_len-le-length (λ c. not (is_point c)) b)))) (sym (whole_and_fraction w f))
    ∙ ap (λ k. ratio_of (take k b) (drop (k + 1) b) (length (take k b) == length b) (all k)) place

-- the ratio of what was read before the point and behind it
pub ratio_parts : (b : List ℕ) (i : ℕ) (whole behind : Option ℕ) → i ≡ unwrap_or (position is_point b) (length b) → whole ≡ number 7 (take i b)
    → behind ≡ (if nat_lt i (length b) then fraction_value (drop (i + 1) b) else Some 0)
    → option_and_then (at_most greatest_ratio) (option_and_then (λ w. option_map (λ f. w * 1000000 + f) behind) whole) ≡ ratio_value b
ratio_parts b i whole behind place first second =
    ap₂ (λ w g. option_and_then (at_most greatest_ratio) (option_and_then (λ x. option_map (λ f. x * 1000000 + f) g) w)) first second
    ∙ ratio_at b i (place ∙ point_or_end b)
