-- What a text said in thousandths, it says in millionths.
use Rattle.std.proofs.Common.{◌≡◌, ℕ, ◌+◌, ◌-◌, ◌*◌, ◌/◌, ◌^◌, ◌≤◌, refl, sym, ap, ap₂, ◌∙◌, arith, leb-true, le-leb, ◌&&◌, Bool, true, false, nat_lt, nat_le, List, [], ◌∷◌, take, drop, length, if◌then◌else◌, Option, Some, None, unwrap_or}
use Rattle.std.specs.List.{list_all, position, position_or_len}
use Rattle.std.specs.Option.{option_map, option_and_then}
use Rattle.std.proofs.lemmas.Bool.Decides.{nat_tests}
use Rattle.std.proofs.Math.Seq.{take-length}
use Rattle.std.proofs.Math.Nat.{mul-div-mul_right}
use Rattle.ac_base.specs.Texts.{is_digit, is_zero, is_point, are_digits, number, decimal, at_most, greatest_ratio, in_millionths, ratio_value}
use Rattle.ac_base.specs.Ratios.{fraction_value, old_fraction, old_parts, OldRatiosKeep}
use Rattle.ac_base.proofs.Small.{both}
use Rattle.ac_base.proofs.Decimals.{in_places, digits_parts, zeros_decimal, zeros_digits, millionths-whole}
use Rattle.ac_base.proofs.Ratios.{any_digits, ratio_parts}

-- the number, where it is within its limit
within_limit : (most k n : ℕ) → at_most most k ≡ Some n → (n ≡ k) × (k ≤ most)
within_limit most k n h =
    elim (nat_le k most) as (λ t. nat_le k most ≡ t → (if t then Some k else None) ≡ Some n → (n ≡ k) × (k ≤ most)) [
      | true ↦ λ few same. (cc, leb-true k most few)
      | false ↦ λ many same. absurd (cc)
    ] refl h

old_whole : (whole : Option ℕ) (n : ℕ) → option_and_then (at_most 1000000000) (option_map (λ w. w * 1000) whole) ≡ Some n
    → (w : ℕ) × (whole ≡ Some w) × (n ≡ w * 1000) × (n ≤ 1000000000)
old_whole None n h = absurd (cc)
old_whole (Some w) n h =
    let limit = within_limit 1000000000 (w * 1000) n h in
    (w, refl, limit.0, omega arith)

old_both : (whole behind : Option ℕ) (n : ℕ)
    → option_and_then (at_most 1000000000) (option_and_then (λ w. option_map (λ f. w * 1000 + f) behind) whole) ≡ Some n
    → (w : ℕ) × (f : ℕ) × (whole ≡ Some w) × (behind ≡ Some f) × (n ≡ w * 1000 + f) × (n ≤ 1000000000)
old_both None behind n h = absurd (cc)
old_both (Some w) None n h = absurd (cc)
old_both (Some w) (Some f) n h =
    let limit = within_limit 1000000000 (w * 1000 + f) n h in
    (w, f, refl, refl, limit.0, omega arith)

-- what is known of digits that had thousandths
abbrev OldDigits : List ℕ → ℕ → Type 0
OldDigits ds n = (list_all is_zero (drop 3 ds) ≡ true) × (are_digits 3 (take 3 ds) ≡ true) × (n ≡ decimal (take 3 ds) * 10 ^ (3 - length ds))

old_digits : (ds : List ℕ) (n : ℕ) → old_fraction ds ≡ Some n → OldDigits ds n
unfolding number
old_digits ds n h =
    let scaled : Option ℕ → Option ℕ = λ kept. option_map (λ v. v * 10 ^ (3 - length ds)) kept in
    let kept : Bool → Option ℕ = λ t. if t then Some (decimal (take 3 ds)) else None in
    elim (list_all is_zero (drop 3 ds)) as (λ z. list_all is_zero (drop 3 ds) ≡ z → (if z then scaled (number 3 (take 3 ds)) else None) ≡ Some n → OldDigits ds n) [
      | true ↦ λ zeros given.
          (elim (are_digits 3 (take 3 ds)) as (λ t. are_digits 3 (take 3 ds) ≡ t → scaled (kept t) ≡ Some n → OldDigits ds n) [
            | true ↦ λ digits same. (zeros, digits, cc)
            | false ↦ λ digits same. absurd (cc)
          ] refl given)
      | false ↦ λ zeros given. absurd (cc)
    ] refl h

times : (a f p : ℕ) → a * 1000 ≡ f * p + 0 * 1000 → a * 1000000 ≡ f * 1000 * p
times a f p h = omega arith

old_fraction_kept : (ds : List ℕ) (n : ℕ) → old_fraction ds ≡ Some n → fraction_value ds ≡ Some (n * 1000)
unfolding fraction_value
old_fraction_kept [] n h = absurd (cc ((old_digits [] n h).1))
old_fraction_kept (c ∷ cs) n h =
    let ds : List ℕ = c ∷ cs in
    let p : ℕ = 10 ^ length ds in
    let known = old_digits ds n h in
    let kept = both (nat_lt 0 (length (take 3 ds)) && nat_le (length (take 3 ds)) 3) (list_all is_digit (take 3 ds)) (cc (known.1)) in
    let digits : are_digits (length ds) ds ≡ true = any_digits c cs ∙ digits_parts 3 ds ∙ (ap₂ (λ x y. x && y) kept.1 (zeros_digits (drop 3 ds) known.0)) in
    let value : decimal ds * 1000 ≡ n * p + 0 * 1000 = in_places 3 ds ∙ ap₂ (λ k r. k * p + r * 1000) (sym known.2) (zeros_decimal (drop 3 ds) known.0) in
    ap (λ t. if t then in_millionths ds (length ds) else None) digits ∙ millionths-whole ds (length ds) (n * 1000) (times (decimal ds) n p value)

position_inside : (b : List ℕ) (i : ℕ) → position is_point b ≡ Some i → nat_lt i (length b) ≡ true
position_inside b i h =
    let first : ℕ = position_or_len is_point b in
    elim (nat_lt first (length b)) as (λ t. nat_lt first (length b) ≡ t → (if t then Some first else None) ≡ Some i → nat_lt i (length b) ≡ true) [
      | true ↦ λ below same. cc
      | false ↦ λ past same. absurd (cc)
    ] refl h

within_new_limit : (w f n : ℕ) → n ≡ w * 1000 + f → n ≤ 1000000000
    → option_and_then (at_most greatest_ratio) (Some (w * 1000000 + f * 1000)) ≡ Some (n * 1000)
within_new_limit w f n same few =
    let small : w * 1000000 + f * 1000 ≤ 1000000000000 = omega arith in
    let value : w * 1000000 + f * 1000 ≡ n * 1000 = omega arith in
    ap (λ t. if t then Some (w * 1000000 + f * 1000) else None) (le-leb (w * 1000000 + f * 1000) 1000000000000 small) ∙ ap Some value

-- with this answer to where the point stands
kept_at : (b : List ℕ) (n : ℕ) (point : Option ℕ) → position is_point b ≡ point → option_and_then (at_most 1000000000) (old_parts b point) ≡ Some n
    → ratio_value b ≡ Some (n * 1000)
kept_at b n None place h =
    let known = old_whole (number 7 b) n h in
    let whole : Some known.0 ≡ number 7 (take (length b) b) = sym (ap (number 7) (take-length b) ∙ known.1) in
    let behind : Some 0 ≡ (if nat_lt (length b) (length b) then fraction_value (drop (length b + 1) b) else Some 0) = grind (arith, nat_tests) in
    sym (ratio_parts b (length b) (Some known.0) (Some 0) (sym (ap (λ o. unwrap_or o (length b)) place)) whole behind)
    ∙ within_new_limit known.0 0 n (omega (arith, known.2)) known.3
kept_at b n (Some i) place h =
    let known = old_both (number 7 (take i b)) (old_fraction (drop (i + 1) b)) n h in
    let next : Bool → Option ℕ = λ t. if t then fraction_value (drop (i + 1) b) else Some 0 in
    let behind : next (nat_lt i (length b)) ≡ Some (known.1 * 1000) = ap next (position_inside b i place) ∙ old_fraction_kept (drop (i + 1) b) known.1 known.3 in
    sym (ratio_parts b i (Some known.0) (Some (known.1 * 1000)) (sym (ap (λ o. unwrap_or o (length b)) place)) (sym known.2) (sym behind))
    ∙ within_new_limit known.0 known.1 n known.4 known.5

same_capacity : (free n : ℕ) → free * (n * 1000) / 1000000 ≡ free * n / 1000
same_capacity free n =
    let regrouped : free * (n * 1000) ≡ free * n * 1000 = omega arith in
    ap (λ k. k / 1000000) regrouped ∙ mul-div-mul_right (free * n) 1000 (omega arith)

pub old_ratios_keep : OldRatiosKeep
old_ratios_keep b n h = (kept_at b n (position is_point b) refl h, λ i. same_capacity (i.total - i.reserved) n)
