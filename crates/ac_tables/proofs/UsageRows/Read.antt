-- The table of usages, written and read back.
use Rattle.std.proofs.Common.{◌≡◌, ◌∙◌, ◌<◌, ◌≤◌, ◌+◌, ◌/◌, ◌%◌, ◌^◌, ◌==◌, ℕ, zero, suc, Bool, ◌&&◌, true, false, List, [], ◌∷◌, ◌++◌, map, length, get_or, reverse, Option, Some, None, Less, nat_le, refl, sym, ap, ap₂, arith, inl, inr, append-nil, length-append}
use Rattle.std.specs.Cmp.Lexicographic.{bytes_decides}
use Rattle.std.specs.Fmt.{decimal}
use Rattle.std.specs.List.{AllByRecursion, filter, flat_map, fold, list_all}
use Rattle.std.specs.List.Sorted.{IsStrictlySortedBy}
use Rattle.std.specs.Map.{keys_of, lookup}
use Rattle.std.specs.Option.{option_map, option_or, unwrap_or}
use Rattle.std.specs.Ordering.{is_eq}
use Rattle.std.specs.Str.{bytes_eq}
use Rattle.std.proofs.lemmas.Bool.{cases_Bool}
use Rattle.std.proofs.lemmas.Bool.Decides.{nat_tests}
use Rattle.std.proofs.lemmas.Fmt.{decimal_by_steps, length-decimal-le}
use Rattle.std.proofs.lemmas.List.{map-append, reverse-append}
use Rattle.std.proofs.lemmas.Simd.{map-map}
use Rattle.std.proofs.lemmas.List.Elements.{filter-append}
use Rattle.std.proofs.lemmas.List.Folds.{list_all-append}
use Rattle.std.proofs.lemmas.List.Sums.{fold-append}
use Rattle.std.proofs.lemmas.Map.Keys.{sorted_head, sorted_tail}
use Rattle.std.proofs.lemmas.Map.Text.{is_eq-slice_cmp}
use Rattle.std.specs.Int.{from_be_bytes, to_be_bytes, w128}
use Rattle.uuid.specs.Text.{lower}
use Rattle.uuid.proofs.RoundTrips.{parses_hyphenated}
use Rattle.uuid.proofs.OrderLemmas.{from_be_bytes-to_be_bytes_16}
use Rattle.csv.specs.Reading.{strip_bom}
use Rattle.csv.specs.Writing.{default_writer, fields_text, is_blank, read_back, row_text}
use Rattle.ac_base.specs.Texts.{are_digits, count_value, greatest, id_text, id_value, is_digit, number, text_cmp, with_digit}
use Rattle.ac_cloud.specs.World.{Provider, UsedInventory, id_at, provider_at}
use Rattle.ac_tables.specs.Tables.{amounts_of}
use Rattle.ac_tables.specs.Tables.Checks.{Row}
use Rattle.ac_tables.specs.Tables.Names.{columns_needed, name_of}
use Rattle.ac_tables.specs.Tables.Rows.{records_of}
use Rattle.ac_tables.specs.Tables.UsageTable.{UsageRecord, usage_columns, usage_said}
use Rattle.ac_tables.specs.UsageRows.{Entry, entries_fit, fits_table, is_used, rows_of_provider, usage_row, usages_fit, usages_text}
use Rattle.ac_tables.proofs.Sorted.OrderFacts.{order_holds}
use Rattle.ac_tables.proofs.WrittenRows.{written_read}
use Rattle.ac_tables.specs.Laws.{UsagesReadBack}

-- ---- a number that is written is read as that number

record IsRead (n : ℕ) (ds : List ℕ) : Type 0 where
  digits : list_all is_digit ds ≡ true
  value : fold with_digit 0 ds ≡ n
  some : 0 < length ds

one_digit : (n : ℕ) → n < 10 → IsRead n ((48 + n) ∷ [])
one_digit n low = record { digits = grind (arith, nat_tests); value = omega arith; some = omega arith }

more_digits : (n : ℕ) (ds : List ℕ) → 10 ≤ n → IsRead (n / 10) ds → IsRead n (ds ++ ((48 + n % 10) ∷ []))
more_digits n ds high r = record {
  digits = let d = (one_digit (n % 10) (omega arith)).digits in rw (list_all-append is_digit ds ((48 + n % 10) ∷ []), r.digits, d) refl;
  value = rw (fold-append with_digit 0 ds ((48 + n % 10) ∷ []), r.value) (omega arith);
  some = omega (arith, length-append ds ((48 + n % 10) ∷ []));
}

pub count_reads : (n : ℕ) → n ≤ greatest → count_value (decimal n) ≡ Some n
unfolding count_value number
count_reads n low =
    let r = decimal_by_steps IsRead one_digit more_digits n (omega arith) in
    let few = length-decimal-le 10 n (omega arith) (omega arith) (omega arith) in
    let some = r.some in
    let digits : are_digits 10 (decimal n) ≡ true = let d = r.digits in grind (arith, nat_tests) in
    rw (digits, r.value) (let l : nat_le n greatest ≡ true = grind (arith, nat_tests) in rw l refl)

-- ---- an id that is written is read as that id

byte_small : (ms : List ℕ) (k d : ℕ) → k < length (map (λ m. m % 256) ms) → get_or (map (λ m. m % 256) ms) k d < 256
byte_small [] k d low = absurd (omega arith)
byte_small (m ∷ ms) zero d low = omega arith
byte_small (m ∷ ms) (suc k) d low = byte_small ms k d (omega arith)

pub id_reads : (n : ℕ) → n < 2 ^ 128 → id_value (id_text n) ≡ Some n
id_reads n fits =
    ap (option_map (from_be_bytes w128)) (sym (parses_hyphenated lower (to_be_bytes w128 n) (inl refl) refl (byte_small (n / 1329227995784915872903807060280344576 ∷ n / 5192296858534827628530496329220096 ∷ n / 20282409603651670423947251286016 ∷ n / 79228162514264337593543950336 ∷ n / 309485009821345068724781056 ∷ n / 1208925819614629174706176 ∷ n / 4722366482869645213696 ∷ n / 18446744073709551616 ∷ n / 72057594037927936 ∷ n / 281474976710656 ∷ n / 1099511627776 ∷ n / 4294967296 ∷ n / 16777216 ∷ n / 65536 ∷ n / 256 ∷ n ∷ []))))
    ∙ ap (λ m. Some m) (from_be_bytes-to_be_bytes_16 n fits)

-- ---- what a map has of a class

lookup_append : {X : Type 0} (test : List ℕ → Bool) (xs ys : List (List ℕ × X)) → lookup test (xs ++ ys) ≡ option_or (lookup test xs) (lookup test ys)
lookup_append test [] ys = refl
lookup_append test (x ∷ xs) ys = elim (cases_Bool (test x.0)) [
  | inl e ↦ rw e refl
  | inr e ↦ rw e (lookup_append test xs ys)
]

-- how much is used of each class of which some is used, by class
abbrev pairs : List Entry → List (List ℕ × ℕ)
pairs es = map (λ (e : Entry). (e.0, e.1.used)) (filter is_used es)

lookup_behind : (q : List ℕ) (xs : List (List ℕ × ℕ)) (x : List ℕ × ℕ) → lookup (bytes_eq q) (reverse (x ∷ xs)) ≡ option_or (lookup (bytes_eq q) (reverse xs)) (lookup (bytes_eq q) (x ∷ []))
lookup_behind q xs x = ap (lookup (bytes_eq q)) (reverse-append (x ∷ []) xs) ∙ lookup_append (bytes_eq q) (reverse xs) (x ∷ [])

abbrev IsApart : List ℕ → List Entry → Type 0
IsApart q es = AllByRecursion (λ y. bytes_eq q y ≡ false) (keys_of es)

none_told : (q : List ℕ) (es : List Entry) → IsApart q es → lookup (bytes_eq q) (reverse (pairs es)) ≡ None
none_told q [] apart = refl
none_told q (e ∷ es) apart = elim (cases_Bool (is_used e)) [
  | inl used ↦ rw used (lookup_behind q (pairs es) (e.0, e.1.used) ∙ rw (none_told q es apart.1, apart.0) refl)
  | inr none ↦ rw none (none_told q es apart.1)
]

-- no class behind one is the same
apart_behind : (q k : List ℕ) (es : List Entry) → q ≡ k → AllByRecursion (λ y. text_cmp k y ≡ Less) (keys_of es) → IsApart q es
apart_behind q k [] same less = tt
apart_behind q k (e ∷ es) same less =
    (sym (is_eq-slice_cmp q e.0) ∙ ap is_eq (ap (λ t. text_cmp t e.0) same ∙ less.0), apart_behind q k es same less.1)

-- what is looked up behind a class that is told
behind_here : (q : List ℕ) (es : List Entry) (e : Entry) → bytes_eq q e.0 ≡ true → IsApart q es → lookup (bytes_eq q) (reverse ((e.0, e.1.used) ∷ pairs es)) ≡ Some e.1.used
behind_here q es e here apart = lookup_behind q (pairs es) (e.0, e.1.used) ∙ rw (none_told q es apart, here) refl

behind_other : (q : List ℕ) (es : List Entry) (e : Entry) → bytes_eq q e.0 ≡ false → lookup (bytes_eq q) (reverse ((e.0, e.1.used) ∷ pairs es)) ≡ lookup (bytes_eq q) (reverse (pairs es))
behind_other q es e away = lookup_behind q (pairs es) (e.0, e.1.used) ∙ rw away (no_other (lookup (bytes_eq q) (reverse (pairs es))))
  where
    no_other : (w : Option ℕ) → option_or w None ≡ w
    no_other None = refl
    no_other (Some v) = refl

pub both : (a b : Bool) → (a && b) ≡ true → (a ≡ true) × (b ≡ true)
both true true e = (refl, refl)
both true false e = absurd cc
both false b e = absurd cc

unused : (e : Entry) → is_used e ≡ false → 0 ≡ e.1.used
unused e none = grind (arith, nat_tests)

-- of each class as much is told as is used
told_is_used : (q : List ℕ) (es : List Entry) → IsStrictlySortedBy text_cmp (keys_of es)
    → unwrap_or (lookup (bytes_eq q) (reverse (pairs es))) 0 ≡ unwrap_or (option_map (λ (h : UsedInventory). h.used) (lookup (bytes_eq q) es)) 0
told_is_used q [] sorted = refl
told_is_used q (e ∷ es) sorted = elim (cases_Bool (bytes_eq q e.0)) [
  | inl here ↦
      let apart = apart_behind q e.0 es ((bytes_decides q e.0).0 here) (sorted_head text_cmp e.0 (keys_of es) sorted) in
      elim (cases_Bool (is_used e)) [
        | inl used ↦ rw (used, behind_here q es e here apart, here) refl
        | inr none ↦ rw (none, none_told q es apart, here) (unused e none)
      ]
  | inr away ↦
      let later = told_is_used q es (sorted_tail text_cmp e.0 (keys_of es) sorted) in
      elim (cases_Bool (is_used e)) [
        | inl used ↦ rw (used, behind_other q es e away, away) later
        | inr none ↦ rw (none, away) later
      ]
]

-- ---- the rows of the table are read as these rows

no_mark : (rows : List Row) → strip_bom (flat_map (row_text default_writer) (usage_columns ∷ rows)) ≡ flat_map (row_text default_writer) (usage_columns ∷ rows)
unfolding strip_bom columns_needed name_of is_blank fields_text
no_mark rows = refl

-- rows of providers have fields
kept_whole : (all : List Provider) → map read_back (flat_map rows_of_provider all) ≡ flat_map rows_of_provider all
kept_whole [] = refl
kept_whole (p ∷ all) =
    map-append read_back (rows_of_provider p) (flat_map rows_of_provider all)
    ∙ ap₂ (λ (a b : List Row). a ++ b) (map-map read_back (usage_row p.id) (filter is_used p.entries)) (kept_whole all)

pub records_are : (all : List Provider) → records_of (usages_text all) ≡ usage_columns ∷ flat_map rows_of_provider all
unfolding usages_text columns_needed
records_are all =
    written_read (usage_columns ∷ flat_map rows_of_provider all) (no_mark (flat_map rows_of_provider all))
    ∙ ap (λ (l : List Row). usage_columns ∷ l) (kept_whole all)

-- ---- what these rows say

-- what the row of a class of a provider says
abbrev pub said : ℕ → Entry → UsageRecord
said id e = record { provider = id; class = e.0; amount = e.1.used }

abbrev pub said_of : Provider → List UsageRecord
said_of p = map (said p.id) (filter is_used p.entries)

pub row_says : (id : ℕ) (e : Entry) → id < 2 ^ 128 → fits_table e ≡ true → usage_said usage_columns (usage_row id e) ≡ said id e
unfolding usage_said columns_needed name_of
row_says id e small fit =
    let low : e.1.used ≤ greatest = grind (arith, nat_tests) in
    rw (id_reads id small, count_reads e.1.used low) refl

rows_say : (id : ℕ) (es : List Entry) → id < 2 ^ 128 → list_all fits_table es ≡ true
    → map (usage_said usage_columns) (map (usage_row id) (filter is_used es)) ≡ map (said id) (filter is_used es)
rows_say id [] small fit = refl
rows_say id (e ∷ es) small fit =
    let fits = both (fits_table e) (list_all fits_table es) fit in
    elim (cases_Bool (is_used e)) [
      | inl used ↦ rw used (ap₂ (λ (u : UsageRecord) (l : List UsageRecord). u ∷ l) (row_says id e small fits.0) (rows_say id es small fits.1))
      | inr none ↦ rw none (rows_say id es small fits.1)
    ]

all_say : (all : List Provider) → ((ix : ℕ) → ix < length all → id_at all ix < 2 ^ 128) → list_all entries_fit all ≡ true
    → map (usage_said usage_columns) (flat_map rows_of_provider all) ≡ flat_map said_of all
all_say [] small fit = refl
all_say (p ∷ all) small fit =
    let fits = both (entries_fit p) (list_all entries_fit all) fit in
    map-append (usage_said usage_columns) (rows_of_provider p) (flat_map rows_of_provider all)
    ∙ ap₂ (λ (a b : List UsageRecord). a ++ b) (rows_say p.id p.entries (small 0 (omega arith)) fits.0) (all_say all (λ ix low. small (suc ix) (omega arith)) fits.1)

-- ---- what they say of one provider

of_itself : (id : ℕ) (es : List Entry) → filter (λ (u : UsageRecord). u.provider == id) (map (said id) es) ≡ map (said id) es
of_itself id [] = refl
of_itself id (e ∷ es) = let same : (id == id) ≡ true = grind (arith, nat_tests) in rw same (ap (λ (l : List UsageRecord). said id e ∷ l) (of_itself id es))

of_another : (id other : ℕ) (es : List Entry) → (other == id) ≡ false → filter (λ (u : UsageRecord). u.provider == id) (map (said other) es) ≡ []
of_another id other [] apart = refl
of_another id other (e ∷ es) apart = rw apart (of_another id other es apart)

none_later : (id : ℕ) (all : List Provider) → ((ix : ℕ) → ix < length all → id < id_at all ix) → filter (λ (u : UsageRecord). u.provider == id) (flat_map said_of all) ≡ []
none_later id [] above = refl
none_later id (p ∷ all) above =
    let apart : (p.id == id) ≡ false = let h = above 0 (omega arith) in grind (arith, nat_tests) in
    filter-append (λ (u : UsageRecord). u.provider == id) (said_of p) (flat_map said_of all)
    ∙ ap₂ (λ (a b : List UsageRecord). a ++ b) (of_another id p.id (filter is_used p.entries) apart) (none_later id all (λ ix low. above (suc ix) (omega arith)))

said_here : (all : List Provider) (ix : ℕ) → ((p q : ℕ) → p < q → q < length all → id_at all p < id_at all q) → ix < length all
    → filter (λ (u : UsageRecord). u.provider == id_at all ix) (flat_map said_of all) ≡ said_of (provider_at all ix)
said_here [] ix order low = absurd (omega (arith, low))
said_here (p ∷ all) zero order low =
    filter-append (λ (u : UsageRecord). u.provider == p.id) (said_of p) (flat_map said_of all)
    ∙ ap₂ (λ (a b : List UsageRecord). a ++ b) (of_itself p.id (filter is_used p.entries)) (none_later p.id all (λ ix low. order 0 (suc ix) (omega arith) (omega arith)))
    ∙ append-nil (said_of p)
said_here (p ∷ all) (suc ix) order low =
    let apart : (p.id == id_at all ix) ≡ false = let h = order 0 (suc ix) (omega arith) low in grind (arith, nat_tests) in
    filter-append (λ (u : UsageRecord). u.provider == id_at all ix) (said_of p) (flat_map said_of all)
    ∙ ap₂ (λ (a b : List UsageRecord). a ++ b) (of_another (id_at all ix) p.id (filter is_used p.entries) apart)
    (said_here all ix (λ a b less below. order (suc a) (suc b) (omega arith) (omega arith)) (omega arith))

pub usages_read_back : UsagesReadBack
unfolding usages_fit amounts_of
usages_read_back all order classes fit ix class low =
    let p = provider_at all ix in
    let is = records_are all in
    let say = all_say all order.fit fit in
    let here = said_here all ix order.order low in
    let shown : map (λ (u : UsageRecord). (u.class, u.amount)) (said_of p) ≡ pairs p.entries = map-map (λ (u : UsageRecord). (u.class, u.amount)) (said p.id) (filter is_used p.entries) in
    rw (is, say, here, shown) (ap (λ o. unwrap_or o 0) ((order_holds.amounts (pairs p.entries)).last class) ∙ told_is_used class p.entries (classes ix low))
