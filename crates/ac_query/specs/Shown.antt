-- What maps, sets and lists of names show.
pub mod Draft
pub mod Faults
pub mod Given
pub mod Groups
pub mod Parameters
pub mod Queries
pub mod Slots
use Rattle.std.specs.Prelude.{ℕ, List, map}
use Rattle.std.specs.declared.alloc.Global.{Global}
use Rattle.std.specs.declared.string.String.{String}
use Rattle.std.specs.String.{string_bytes}
use Rattle.std.specs.BTreeMap.{BTreeMap}
use Rattle.std.specs.BTreeSet.{BTreeSet}
use Rattle.ac_base.specs.declared.name.ClassName.{ClassName}
use Rattle.ac_base.specs.declared.name.Suffix.{Suffix}
use Rattle.ac_base.specs.declared.name.TraitName.{TraitName}
use Rattle.ac_base.specs.Names.{class_bytes, trait_bytes, suffix_bytes}
use Rattle.ac_query.specs.declared.reading.amount.Amount.{Amount}
use Rattle.ac_query.specs.declared.reading.traits.Traits as rust
use Rattle.ac_query.specs.declared.reading.traits.MarkedTrait as rust_mark
use Rattle.ac_query.specs.Pairs.Values.{Marked, Traits}

-- a class and its amount
abbrev pub need_shown : ClassName × Amount → List ℕ × ℕ
need_shown p = (class_bytes p.0, p.1.count)

-- the needs of a map, classes in byte order
abbrev pub needs_shown : BTreeMap ClassName Amount → List (List ℕ × ℕ)
needs_shown m = map need_shown m.entries

-- the names of a set, in byte order
abbrev pub names_shown : BTreeSet TraitName → List (List ℕ)
names_shown s = map trait_bytes s.keys

-- the names of two sets, in byte order
abbrev pub traits_shown : rust.Traits → Traits
traits_shown t = record { required = names_shown t.required; forbidden = names_shown t.forbidden }

-- a trait's name, and whether it is forbidden
abbrev pub mark_shown : rust_mark.MarkedTrait → Marked
mark_shown m = (m.forbids, trait_bytes m.name)

-- the suffixes of a set, in byte order
abbrev pub suffixes_shown : BTreeSet Suffix → List (List ℕ)
suffixes_shown s = map suffix_bytes s.keys

-- the texts of a set, in byte order
abbrev pub texts_shown : BTreeSet (String Global) → List (List ℕ)
texts_shown s = map string_bytes s.keys
