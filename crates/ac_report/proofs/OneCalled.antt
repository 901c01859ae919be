-- One more that has a name.
use Rattle.std.proofs.Common.{◌≡◌, ◌∙◌, ◌++◌, ◌∷◌, ℕ, ◌==◌, ◌&&◌, Bool, true, false, List, [], Some, None, Option, ap, refl, if◌then◌else◌, map, Result, Ok, Err}
use Rattle.std.proofs.lemmas.List.{map-append}
use Rattle.std.proofs.lemmas.List.Elements.{filter-append}
use Rattle.std.proofs.lemmas.List.Folds.{list_all-append}
use Rattle.std.specs.List.{filter, list_all}
use Rattle.ac_base.specs.Texts.{id_value}
use Rattle.ac_report.specs.Called.{Called, id_or_only, ids_called, is_called, joined, known_by}
use Rattle.ac_report.specs.declared.called.NameFault.{NameFault}
use Rattle.ac_report.specs.declared.called.NameFault.TheVariants as fault

-- what is told by what is known of a name
abbrev pub told_of : Option (Option ℕ) → Result ℕ NameFault
told_of None = Err fault.Unknown
told_of (Some None) = Err fault.Ambiguous
told_of (Some (Some id)) = Ok id

-- it stands behind those that have the name
pub ids_behind : (called : Called) (one : ℕ × List ℕ) (name : List ℕ) (has : Bool) → is_called name one ≡ has
    → ids_called (called ++ one ∷ []) name ≡ ids_called called name ++ (if has then one.0 ∷ [] else [])
ids_behind called one name has is =
    ap (map (λ (o : ℕ × List ℕ). o.0)) (filter-append (is_called name) called (one ∷ []))
    ∙ map-append (λ (o : ℕ × List ℕ). o.0) (filter (is_called name) called) (filter (is_called name) (one ∷ []))
    ∙ ap (λ l. ids_called called name ++ l) (by has is)
  where
    by : (b : Bool) → is_called name one ≡ b → map (λ (o : ℕ × List ℕ). o.0) (filter (is_called name) (one ∷ [])) ≡ (if b then one.0 ∷ [] else [])
    by true e = rw e refl
    by false e = rw e refl

-- what is known of one more
pub known_behind : (ids : List ℕ) (id : ℕ) → known_by (ids ++ id ∷ []) ≡ Some (joined (known_by ids) id)
known_behind [] id = refl
known_behind (first ∷ more) id =
    ap (λ (b : Bool). Some (if b then Some first else None)) (list_all-append (λ other. other == first) more (id ∷ []))
    ∙ by (list_all (λ other. other == first) more) (id == first) refl
  where
    by : (same is : Bool) → (id == first) ≡ is
        → Some (if same && ((id == first) && true) then Some first else None) ≡ Some (joined (Some (if same then Some first else None)) id)
    by true true e = rw e refl
    by true false e = rw e refl
    by false is e = refl

-- what a text stands for, by what is known of it
pub as_known : (text : List ℕ) (ids : List ℕ) (known : Option (Option ℕ)) → id_value text ≡ None → known ≡ known_by ids → id_or_only (id_value text) ids ≡ told_of known
as_known text [] known none is = rw (none, is) refl
as_known text (first ∷ more) known none is = rw (none, is) (by (list_all (λ other. other == first) more))
  where
    by : (same : Bool) → (if same then Ok first else Err fault.Ambiguous) ≡ told_of (Some (if same then Some first else None))
    by true = refl
    by false = refl
