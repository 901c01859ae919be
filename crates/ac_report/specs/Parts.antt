-- The members of an object, and what is still to be put in, as private clauses speak of them.
use Rattle.std.specs.Prelude.{ℕ, List, [], ◌∷◌}
use Rattle.std.specs.List.{fold}
use Rattle.serde_json.specs.Data.{Data, object, Members, no_members, member, put}
use Rattle.ac_report.specs.Trees.{provider_text, summary}
use Rattle.ac_cloud.specs.World.{Provider}

-- members, with some more put in one after another
abbrev pub gathered_onto : Members → List (List ℕ × Data) → Members
gathered_onto done ms = fold (λ done m. put m.0 m.1 done) done ms

-- members in the order of a list
abbrev pub listed : List (List ℕ × Data) → Members
listed [] = no_members
listed (m ∷ ms) = member m.0 m.1 (listed ms)

-- an object of one member: a provider's id, and its summary
unfoldable pub named_summary : List Provider → ℕ → Data
named_summary all ix = object (member (provider_text all ix) (summary all ix) no_members)
