-- Private: classes, as they are gathered one by one.
use Rattle.std.specs.Prelude.{ℕ, nat_lt, List, [], ◌∷◌, ◌++◌, length, if◌then◌else◌}
use Rattle.ac_rules.specs.Room.{class_number}

-- these classes and one more, unless it is one of them
abbrev pub with_class : List (List ℕ) → List ℕ → List (List ℕ)
with_class classes class = if nat_lt (class_number classes class) (length classes) then classes else classes ++ class ∷ []

-- these classes and those of needs, one after another
abbrev pub with_classes : List (List ℕ) → List (List ℕ × ℕ) → List (List ℕ)
with_classes classes [] = classes
with_classes classes (need ∷ needs) = with_classes (with_class classes need.0) needs
