-- What nobody has of what a query asks for: a line each.
use Rattle.std.specs.Prelude.{ℕ, ◌||◌, Bool, true, false, get_or, nat_lt, if◌then◌else◌, List, [], ◌∷◌, ◌++◌, length, map, codes, Option, Some, None}
use Rattle.std.specs.List.{flat_map, range_with_len}
use Rattle.ac_base.specs.Texts.{id_text}
use Rattle.ac_query.specs.Asked.{Asked, Group}
use Rattle.ac_query.specs.Pairs.Values.{AggregateRule}
use Rattle.ac_cloud.specs.World.{Provider}
use Rattle.ac_find.specs.Missing.{is_had, somebody_has_class, somebody_has_one, somebody_is, somebody_is_in}
use Rattle.ac_base.specs.Writing.Pieces.{listed, newline, said}

-- a line, unless somebody has what it names
abbrev pub unless : Bool → List ℕ → List ℕ
unless had line = if had then [] else line

-- a line of a name
unfoldable pub line_of : List ℕ → List ℕ → List ℕ
line_of front name = said (front ∷ name ∷ newline ∷ [])

-- ---- What a provider has: classes and traits

abbrev pub class_missed : List Provider → List ℕ → List ℕ
class_missed all class = unless (somebody_has_class all class) (line_of (codes "nobody has ") class)

-- what stands before a trait that nobody has, or, where roots alone are asked, no root
unfoldable pub missed_front : Bool → List ℕ
missed_front true = codes "no root has "
missed_front false = codes "nobody has "

abbrev pub missed_by : Bool → List Provider → List ℕ → List ℕ
missed_by roots_alone all name = unless (is_had roots_alone all name) (line_of (missed_front roots_alone) name)

-- the lines of names that aren't marked
abbrev pub unmarked_lines : List ℕ → List (List ℕ) → List Bool → List ℕ
unmarked_lines front names marks = flat_map (λ k. unless (get_or marks k false) (line_of front (get_or names k []))) (range_with_len 0 (length names))

-- the line of a list of traits of which one is asked
unfoldable pub one_of_line : List (List ℕ) → List ℕ
one_of_line names = listed (codes "nobody has one of ") names ++ newline

abbrev pub list_missed : List Provider → List (List ℕ) → List ℕ
list_missed all names = unless (somebody_has_one all names) (one_of_line names)

-- ---- Where a provider is: aggregates and trees

-- what stands before the ids of a `member_of`: of several of them one is asked
abbrev pub member_mark : List ℕ → List ℕ
member_mark ids = if nat_lt 1 (length ids) then codes "nobody is in member_of=in:" else codes "nobody is in member_of="

unfoldable pub members_line : List ℕ → List ℕ
members_line ids = listed (member_mark ids) (map id_text ids) ++ newline

-- a rule that forbids its aggregates asks for none of them
abbrev pub rule_missed : List Provider → AggregateRule → List ℕ
rule_missed all rule = unless (rule.forbids || somebody_is_in all rule.ids) (members_line rule.ids)

abbrev pub tree_missed : List Provider → Option ℕ → List ℕ
tree_missed all None = []
tree_missed all (Some id) = unless (somebody_is all id) (line_of (codes "nobody has in_tree=") (id_text id))

-- ---- Of a query

-- of the classes that a group needs, its required traits, and its lists of which one trait each is asked
abbrev pub things_missed : List Provider → Group → List ℕ
things_missed all g =
    flat_map (λ need. class_missed all need.0) g.needs
    ++ (flat_map (missed_by false all) g.required ++ flat_map (λ names. list_missed all names) g.any_of)

-- of its aggregate rules, and its tree
abbrev pub places_missed : List Provider → Group → List ℕ
places_missed all g = flat_map (λ rule. rule_missed all rule) g.member_of ++ tree_missed all g.in_tree

abbrev pub group_missed : List Provider → Group → List ℕ
group_missed all g = things_missed all g ++ places_missed all g

-- of each group in order, then of what is required of a root
unfoldable pub nobody_lines : List Provider → Asked → List ℕ
nobody_lines all asked =
    flat_map (λ g. group_missed all g.1) asked.groups ++ flat_map (missed_by true all) asked.root_required
