-- The written forms of ids rise as the ids do.
use Rattle.std.proofs.lemmas.Grind.{common_steps}
use Rattle.std.proofs.Common.{◌≡◌, ◌⊎◌, ℕ, zero, suc, ◌/◌, ◌%◌, ◌^◌, ◌<◌, ◌≤◌, ◌==◌, ◌||◌, ◌∙◌, refl, sym, ap, ap₂, List, [], ◌∷◌, ◌++◌, if◌then◌else◌, Less, Equal, nat_cmp, lit<, arith}
use Rattle.std.specs.Int.{byte_at}
use Rattle.std.specs.Cmp.{nat_cmp_is}
use Rattle.std.specs.Ordering.{ordering_then}
use Rattle.std.proofs.Math.Nat.{eq-or-lt_of_le, div-div-eq-div-mul, div-one, div-mul-le_self, pow-suc}
use Rattle.std.proofs.lemmas.Nat.{le-div}
use Rattle.std.proofs.lemmas.Bool.Decides.{nat_tests}
use Rattle.uuid.specs.Text.{by_index, hex_digit, lower}
use Rattle.ac_base.specs.Texts.{id_text, text_cmp}

-- a hyphen stands after the 4th, 6th, 8th and 10th byte, with so many still to come
abbrev hyphen_before : ℕ → List ℕ
hyphen_before k = if (k == 12) || (k == 10) || (k == 8) || (k == 6) then 45 ∷ [] else []

-- the two digits of a byte, and what follows
abbrev with_byte : ℕ → List ℕ → List ℕ
with_byte b more = hex_digit lower (b / 16 % 16) ∷ (hex_digit lower (b % 16) ∷ more)

-- the last k bytes of a number as digits
abbrev digits : ℕ → ℕ → List ℕ
digits zero n = []
digits (suc k) n = with_byte (byte_at k n) (hyphen_before k ++ digits k n)

are_digits : (n : ℕ) → id_text n ≡ digits 16 n
unfolding by_index
are_digits n = refl

first_less : (x y : ℕ) (xs ys : List ℕ) → x < y → text_cmp (x ∷ xs) (y ∷ ys) ≡ Less
first_less x y xs ys h = ap (λ o. ordering_then o (text_cmp xs ys)) (sym (nat_cmp_is x y Less h))

first_same : (x y : ℕ) (xs ys : List ℕ) → x ≡ y → text_cmp (x ∷ xs) (y ∷ ys) ≡ text_cmp xs ys
first_same x y xs ys e = ap (λ z. ordering_then (nat_cmp x z) (text_cmp xs ys)) (sym e) ∙ ap (λ o. ordering_then o (text_cmp xs ys)) (sym (nat_cmp_is x x Equal refl))

front_same : (front xs ys : List ℕ) → text_cmp (front ++ xs) (front ++ ys) ≡ text_cmp xs ys
front_same [] xs ys = refl
front_same (x ∷ front) xs ys = first_same x x (front ++ xs) (front ++ ys) refl ∙ front_same front xs ys

hex_rises : (x y : ℕ) → x < y → y < 16 → hex_digit lower x < hex_digit lower y
hex_rises x y h k = grind (arith, nat_tests)

-- the digits of a smaller byte are smaller
byte_rises : (x y : ℕ) (xs ys : List ℕ) → x < y → y < 256 → text_cmp (with_byte x xs) (with_byte y ys) ≡ Less
byte_rises x y xs ys h k = grind (arith, common_steps, eq-or-lt_of_le, with_byte, first_less, hex_rises, first_same)

byte_same : (b : ℕ) (xs ys : List ℕ) → text_cmp (with_byte b xs) (with_byte b ys) ≡ text_cmp xs ys
byte_same b xs ys = grind (arith, common_steps, first_same)

byte_is : (k n : ℕ) → byte_at k n ≡ n / 256 ^ k % 256
byte_is k n = grind (arith, common_steps, div-one)

top_step : (k n : ℕ) → n / 256 ^ suc k ≡ n / 256 ^ k / 256
top_step k n = ap (λ q. n / q) (pow-suc 256 k) ∙ sym (div-div-eq-div-mul n (256 ^ k) 256)

pow_positive : (k : ℕ) → 0 < 256 ^ k
pow_positive zero = lit< tt
pow_positive (suc k) = omega (arith, pow-suc 256 k, pow_positive k)

tops_rise : (k m n : ℕ) → m < n → m / 256 ^ k ≤ n / 256 ^ k
tops_rise k m n h = le-div (m / 256 ^ k) n (256 ^ k) (pow_positive k) (omega (arith, div-mul-le_self m (256 ^ k)))

-- one more byte, where the bytes before it are the same
digits_step : (k m n : ℕ) → m / 256 ^ suc k ≡ n / 256 ^ suc k → (m / 256 ^ k ≡ n / 256 ^ k) ⊎ (m / 256 ^ k < n / 256 ^ k)
    → (m / 256 ^ k ≡ n / 256 ^ k → text_cmp (digits k m) (digits k n) ≡ Less) → text_cmp (digits (suc k) m) (digits (suc k) n) ≡ Less
digits_step k m n e h more = grind (arith, common_steps, top_step, byte_is, byte_rises, hyphen_before, digits, with_byte, byte_same, front_same)

digits_rise : (k m n : ℕ) → m < n → m / 256 ^ k ≡ n / 256 ^ k → text_cmp (digits k m) (digits k n) ≡ Less
digits_rise zero m n h e = absurd (omega (arith, sym (div-one m) ∙ e ∙ div-one n))
digits_rise (suc k) m n h e =
    digits_step k m n e (eq-or-lt_of_le (tops_rise k m n h)) (digits_rise k m n h)

-- smaller ids have smaller texts
pub texts_rise : (m n : ℕ) → m < n → n < 2 ^ 128 → text_cmp (id_text m) (id_text n) ≡ Less
texts_rise m n h fits =
    let none : m / 256 ^ 16 ≡ n / 256 ^ 16 = omega arith in
    ap₂ text_cmp (are_digits m) (are_digits n) ∙ digits_rise 16 m n h none
