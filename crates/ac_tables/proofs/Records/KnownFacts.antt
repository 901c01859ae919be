-- Whether a provider is there.
use Rattle.ac_tables.proofs.Common.{◌≡◌, ◌<◌, ℕ, false, List, length, get_or, Some, None, refl, sym, first_failing, is_one_of}
use Rattle.ac_tables.specs.Tables.InventoryTable.{known_checks}
use Rattle.ac_tables.specs.declared.fault.TableKind.TheVariants as kind
use Rattle.ac_tables.proofs.FirstFailing.{append_none, append_some, unless_err, unless_none, unless_value, tells_front, tells_back}
use Rattle.ac_cloud.proofs.Rising.{one_of_place}

pub unknown : (ids : List ℕ) (id said : ℕ) → id ≡ said → is_one_of ids id ≡ false → first_failing (known_checks ids said) ≡ Some kind.UnknownProvider
unfolding known_checks
unknown ids id said e absent = rw (sym e, absent) refl

pub known : (ids : List ℕ) (said place : ℕ) → place < length ids → get_or ids place 0 ≡ said → first_failing (known_checks ids said) ≡ None
unfolding known_checks
known ids said place inside found = rw (one_of_place ids said place inside found) refl

-- what shows, check by check, what a record's reading tells
pub ruleset reading = (append_none, append_some, unless_err, unless_none, unless_value, tells_front, tells_back, known, unknown)
