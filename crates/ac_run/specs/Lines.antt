-- The lines of faults.
use Rattle.std.specs.Prelude.{ℕ, List, [], ◌∷◌, codes}
use Rattle.std.specs.Fmt.{decimal}
use Rattle.ac_base.specs.Writing.Pieces.{newline, printed, said}
use Rattle.ac_cloud.specs.declared.cloud.provider_name.HostFault.{HostFault}
use Rattle.ac_cloud.specs.declared.cloud.provider_name.HostFault.TheVariants as host
use Rattle.ac_query.specs.Faults.{Fault, too_long, unknown_parameter, repeated, bad_value, conflict, no_resources, group_without_resources, unknown_suffix, policy_missing, too_many_slots}
use Rattle.ac_query.specs.declared.token.TokenFault.{TokenFault}
use Rattle.ac_query.specs.declared.token.TokenFault.TheVariants as token
use Rattle.ac_report.specs.declared.called.NameFault.{NameFault}
use Rattle.ac_report.specs.declared.called.NameFault.TheVariants as fault
use Rattle.ac_run.specs.declared.refusal.AnswerRefusal.{AnswerRefusal}
use Rattle.ac_run.specs.declared.refusal.AnswerRefusal.TheVariants as answer
use Rattle.ac_run.specs.declared.refusal.NamesRefusal.{NamesRefusal}
use Rattle.ac_run.specs.declared.refusal.NamesRefusal.TheVariants as names
use Rattle.ac_tables.specs.Tables.Names.{kind_name, table_name}
use Rattle.ac_tables.specs.declared.fault.Table.{Table}
use Rattle.ac_tables.specs.declared.fault.TableKind.{TableKind}

-- why a table's bytes can't be had
unfoldable pub unreadable_line : Table → List ℕ
unreadable_line t = said (table_name t ∷ codes ": Unreadable\n" ∷ [])

unfoldable pub too_large_line : Table → List ℕ
too_large_line t = said (table_name t ∷ codes ": TooLarge\n" ∷ [])

-- what is wrong with a record of a table, by their names
abbrev pub line_at : List ℕ → ℕ → List ℕ → List ℕ
line_at table row name = said (table ∷ codes ": record " ∷ decimal row ∷ codes ": " ∷ name ∷ newline ∷ [])

unfoldable pub record_line : Table → ℕ → TableKind → List ℕ
record_line t row k = line_at (table_name t) row (kind_name k)

-- what is wrong with a pair of a query, with one of its groups, with the whole
unfoldable pub pair_line : ℕ → List ℕ → List ℕ
pair_line n name = said (codes "query: pair " ∷ decimal n ∷ codes ": " ∷ name ∷ newline ∷ [])

unfoldable pub group_line : List ℕ → List ℕ → List ℕ
group_line suffix name = said (codes "query: group \"" ∷ suffix ∷ codes "\": " ∷ name ∷ newline ∷ [])

unfoldable pub query_line : Fault → List ℕ
query_line too_long = codes "query: QueryTooLong\n"
query_line (unknown_parameter n) = pair_line n (codes "UnknownParameter")
query_line (repeated n) = pair_line n (codes "Repeated")
query_line (bad_value n) = pair_line n (codes "BadValue")
query_line (conflict n) = pair_line n (codes "Conflict")
query_line no_resources = codes "query: NoResources\n"
query_line (group_without_resources s) = group_line (printed s) (codes "GroupWithoutResources")
query_line (unknown_suffix s) = group_line s (codes "UnknownSuffix")
query_line policy_missing = codes "query: PolicyMissing\n"
query_line too_many_slots = codes "query: TooManySlots\n"

unfoldable pub memory_line : List ℕ
memory_line = codes "out of memory\n"

unfoldable pub output_line : List ℕ
output_line = codes "output: WriteFailed\n"

unfoldable pub tries_line : List ℕ
tries_line = codes "search: TooManyTries\n"

unfoldable pub token_line : TokenFault → List ℕ
token_line token.BadToken = codes "token: BadToken\n"
token_line token.WrongLength = codes "token: WrongLength\n"
token_line token.NoMemory = memory_line

unfoldable pub host_line : HostFault → List ℕ
host_line host.Unknown = codes "host: Unknown\n"
host_line host.Ambiguous = codes "host: Ambiguous\n"

-- why an answer of the service can't be compared
unfoldable pub answer_line : AnswerRefusal → List ℕ
answer_line answer.Unreadable = codes "answer: Unreadable\n"
answer_line answer.TooLarge = codes "answer: TooLarge\n"
answer_line answer.BadAnswer = codes "answer: BadAnswer\n"

-- why a name stands for nothing
unfoldable pub name_fault : NameFault → List ℕ
name_fault fault.Unknown = codes "UnknownName"
name_fault fault.Ambiguous = codes "AmbiguousName"

-- the name of the table of names of aggregates
unfoldable pub aggregates_name : List ℕ
aggregates_name = codes "aggregate-names"

-- what is wrong with a record of it
unfoldable pub called_line : ℕ → List ℕ → List ℕ
called_line row name = line_at aggregates_name row name

-- why names in place of UUIDs can't be read
unfoldable pub names_line : NamesRefusal → List ℕ
names_line names.Unreadable = codes "aggregate-names: Unreadable\n"
names_line names.TooLarge = codes "aggregate-names: TooLarge\n"
names_line (names.Record row k) = called_line row (kind_name k)
names_line (names.Pair n f) = pair_line n (name_fault f)
names_line (names.Flavor row f) = line_at (codes "flavors") row (name_fault f)
names_line (names.Token f) = said (codes "token: " ∷ name_fault f ∷ newline ∷ [])
names_line names.NoMemory = memory_line
