-- The trees that the parts of a request are sent as, as private clauses speak of them.
use Rattle.std.specs.Prelude.{ℕ, List, codes, map}
use Rattle.std.specs.Borrow.{Bor}
use Rattle.serde_json.specs.Data.{Data, object, number, unsigned, no_members, member}
use Rattle.ac_base.specs.Texts.{id_text}
use Rattle.ac_query.specs.Shown.Queries.{asked_of}
use Rattle.ac_rules.specs.Placed.{Placed, assigned}
use Rattle.ac_rules.specs.Together.{sum_on}
use Rattle.ac_cloud.specs.Cloud.CloudWorld.{providers_of}
use Rattle.ac_report.specs.declared.request.parts.Allocation.{Allocation}
use Rattle.ac_report.specs.declared.request.parts.Hosts.{Hosts}
use Rattle.ac_report.specs.declared.request.parts.Request.{Request}
use Rattle.ac_report.specs.Parts.{listed}
use Rattle.ac_report.specs.Trees.{provider_text, texts}

-- a class, with all that is needed of it on a provider
abbrev pub class_sum : List Placed → ℕ → List ℕ → List ℕ × Data
class_sum xs ix class = (class, number (unsigned (sum_on xs ix class)))

abbrev pub sum_member : Allocation → Bor (List ℕ) → List ℕ × Data
sum_member a class = class_sum (assigned (asked_of a.query.now) a.list.now) a.provider class.now

unfoldable pub resources_tree : Allocation → Data
resources_tree a = object (listed (map (sum_member a) a.classes.keys))

unfoldable pub allocation_tree : Allocation → Data
allocation_tree a = object (member (codes "resources") (resources_tree a) no_members)

abbrev pub allocation_member : Allocation → List ℕ × Data
allocation_member a = (id_text a.id, allocation_tree a)

unfoldable pub allocations_tree : List Allocation → Data
allocations_tree ms = object (listed (map allocation_member ms))

unfoldable pub hosts_tree : Hosts → Data
hosts_tree h = texts (map (provider_text (providers_of h.cloud.now)) h.places.items)

abbrev pub mapping_member : Bor (List ℕ) × Hosts → List ℕ × Data
mapping_member e = (e.0.now, hosts_tree e.1)

unfoldable pub mappings_tree : List (Bor (List ℕ) × Hosts) → Data
mappings_tree es = object (listed (map mapping_member es))

unfoldable pub request_tree : Request → Data
request_tree r = object (member (codes "allocations") (allocations_tree r.allocations.items) (member (codes "mappings") (mappings_tree r.mappings.entries) no_members))
