-- What the table of providers checks, record by record: the laws that the reader of all tables asks for, proved.
use Rattle.std.proofs.Common.{◌≡◌, ◌∙◌, ◌+◌, ◌<◌, ◌++◌, ℕ, Bool, zero, suc, true, false, List, [], ◌∷◌, length, Option, Some, None, refl, sym, arith, inl, inr}
use Rattle.std.specs.Prelude.{◌==◌, ◌&&◌, nat_lt, nat_le}
use Rattle.std.specs.Global.{Vec}
use Rattle.std.specs.Option.{is_some, option_map, unwrap_or}
use Rattle.std.specs.Ordering.{nat_cmp, ordering_then, is_eq}
use Rattle.std.specs.Cmp.{unsigned_tied}
use Rattle.std.specs.List.{list_any, position_from}
use Rattle.std.proofs.lemmas.Bool.{cases_Bool}
use Rattle.ac_tables.specs.Tables.Checks.{Row, Check, first_failing}
use Rattle.ac_tables.specs.Reader.TableRows.{IsKeyed}
use Rattle.ac_tables.specs.Tables.ProviderTable.{ProviderRecord, is_at, is_known, place_of, provider_said, provider_field_checks, place_checks, provider_record_checks}
use Rattle.ac_tables.specs.declared.fault.TableKind.{TableKind}
use Rattle.ac_tables.specs.declared.fault.TableKind.TheVariants as kind
use Rattle.ac_tables.specs.declared.tables.provider_record.Named.{Named}

-- the bytes of a name that was read, where the table has names
abbrev pub name_bytes : Option (Vec ℕ) → List ℕ
name_bytes name = unwrap_or (option_map (λ v. v.items) name) []

-- what a row shows; all providers have their rows at place 0
abbrev pub provider_shown : ℕ → ℕ → Named → ProviderRecord
provider_shown place id named = record { id = id; root = named.root; parent = named.parent; name = name_bytes named.name }

any_position : (p : ProviderRecord → Bool) (i : ℕ) (xs : List ProviderRecord) → is_some (position_from p i xs) ≡ list_any p xs
any_position p i [] = refl
any_position p i (x ∷ xs) = elim (cases_Bool (p x)) [ inl e ↦ rw e refl | inr e ↦ rw e (any_position p (i + 1) xs) ]

-- whether an id is known, in both words
any_known : (all : List ProviderRecord) (q : ℕ) → is_known all q ≡ list_any (is_at q) all
unfolding place_of
any_known all q = any_position (is_at q) 0 all

past_most : (most n : ℕ) → nat_lt most (n + 1) ≡ nat_le most n
past_most most n = grind arith

-- the checks of fields, of an id and of a number of providers
module _ (twice many : Bool) where
  abbrev rest : List Check
  rest = (twice, kind.Duplicate) ∷ (many, kind.TooManyProviders) ∷ []

  fresh : (fields : List Check) → twice ≡ false → many ≡ false → first_failing (fields ++ rest) ≡ first_failing fields
  fresh [] e f = rw (e, f) refl
  fresh ((true, k) ∷ cs) e f = refl
  fresh ((false, k) ∷ cs) e f = fresh cs e f

  again : (fields : List Check) → first_failing fields ≡ None → twice ≡ true → first_failing (fields ++ rest) ≡ Some kind.Duplicate
  again [] h e = rw e refl
  again ((true, k) ∷ cs) h e = absurd (cc)
  again ((false, k) ∷ cs) h e = again cs h e

  first : (fields : List Check) (k : TableKind) → first_failing fields ≡ Some k → first_failing (fields ++ rest) ≡ Some k
  first [] k h = absurd (cc)
  first ((true, j) ∷ cs) k h = h
  first ((false, j) ∷ cs) k h = first cs k h

  full : (fields : List Check) → first_failing fields ≡ None → twice ≡ false → many ≡ true → first_failing (fields ++ rest) ≡ Some kind.TooManyProviders
  full [] h e f = rw (e, f) refl
  full ((true, k) ∷ cs) h e f = absurd (cc)
  full ((false, k) ∷ cs) h e f = full cs h e f

pub providers_keyed : (header : Row) → IsKeyed (Some 65536) (provider_said header) (provider_record_checks header) (provider_field_checks header) (λ v u. is_at v.id u)
unfolding provider_record_checks place_checks provider_said
providers_keyed header = record {
  fresh = λ before row e within. fresh _ _ (provider_field_checks header row) (any_known before _ ∙ e) (sym (past_most 65536 (length before)) ∙ within);
  again = λ before row fine e. again _ _ (provider_field_checks header row) fine (any_known before _ ∙ e);
  first = λ before row k fine e. first _ _ (provider_field_checks header row) k e;
  full = λ before row fine e past. full _ _ (provider_field_checks header row) fine (any_known before _ ∙ e) (sym (past_most 65536 (length before)) ∙ past);
}

pub providers_apart : (p q k l : ℕ) (x y : Named) → p < 1 → q < 1 → (k == l) ≡ (true && is_eq (ordering_then (nat_cmp p q) (nat_cmp k l)))
providers_apart zero zero k l x y hp hq = sym (unsigned_tied k l)
providers_apart (suc p) q k l x y hp hq = absurd (omega (arith, hp))
providers_apart zero (suc q) k l x y hp hq = absurd (omega (arith, hq))
