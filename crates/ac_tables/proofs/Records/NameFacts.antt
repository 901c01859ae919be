-- What a name's reading says.
use Rattle.ac_tables.proofs.Common.{◌≡◌, ℕ, List, Some, inl, inr, cases_Bool}
use Rattle.ac_base.specs.Texts.{is_name, name_value}

-- a name is the text that it was read from
pub named : (text bytes : List ℕ) → Some bytes ≡ name_value text → bytes ≡ text
named text bytes e = elim (cases_Bool (is_name text)) [ inl h ↦ cc (rw h at e) | inr h ↦ absurd (cc (rw h at e)) ]
