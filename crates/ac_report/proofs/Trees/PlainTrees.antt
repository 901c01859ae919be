-- Trees with no float.
use Rattle.std.proofs.Common.{arith}
use Rattle.std.proofs.lemmas.Grind.{common_steps}
use Rattle.std.proofs.Common.{◌≡◌, ℕ, List, [], ◌∷◌, refl, ◌<◌, Bool, false, map, length, Option}
use Rattle.serde_json.specs.Written.{has_float, members_have_float}
use Rattle.ac_cloud.specs.Cloud.CloudWorld.{providers_of}
use Rattle.ac_cloud.specs.declared.cloud.Cloud.{Cloud}
use Rattle.ac_report.specs.declared.request.parts.Allocation.{Allocation}
use Rattle.ac_report.specs.declared.request.parts.Request.{Request}
use Rattle.ac_report.specs.Parts.{listed}
use Rattle.ac_report.specs.Requests.{allocation_member, allocation_tree, allocations_tree, hosts_tree, mapping_member, mappings_tree, request_tree, resources_tree, sum_member}
use Rattle.ac_report.specs.Trees.{holding, id_or_null, summary, texts}
use Rattle.ac_report.proofs.Trees.Gathering.{Named}
use Rattle.ac_cloud.proofs.InOrder.{entries_rise}
use Rattle.ac_report.proofs.Pages.Showing.{summary_shown}
use Rattle.ac_report.specs.Texts.{shown_providers}
use Rattle.ac_report.proofs.Trees.Sending.{holdings_listed}

texts_plain : (ts : List (List ℕ)) → has_float (texts ts) ≡ false
unfolding texts
texts_plain [] = refl
texts_plain (t ∷ ts) = texts_plain ts

listed_plain : {X : Type 0} (f : X → Named) → ((x : X) → has_float (f x).1 ≡ false) → (xs : List X) → members_have_float (listed (map f xs)) ≡ false
listed_plain f plain [] = refl
listed_plain f plain (x ∷ xs) = rw (plain x) (listed_plain f plain xs)

id_plain : (id : Option ℕ) → has_float (id_or_null id) ≡ false
unfolding id_or_null
id_plain id = grind (arith, common_steps)

pub summary_plain : (cloud : Cloud) (traits : Bool) (ix : ℕ) → ix < length (providers_of cloud) → has_float (summary (shown_providers traits (providers_of cloud)) ix) ≡ false
unfolding holding
summary_plain cloud traits ix h = grind (arith, common_steps, summary_shown, id_plain, holdings_listed, entries_rise, listed_plain, texts_plain)

allocation_plain : (a : Allocation) → has_float (allocation_tree a) ≡ false
unfolding allocation_tree resources_tree
allocation_plain a = rw (listed_plain (sum_member a) (λ _. refl) a.classes.keys) refl

pub request_plain : (r : Request) → has_float (request_tree r) ≡ false
unfolding request_tree allocations_tree mappings_tree hosts_tree
request_plain r = rw (listed_plain allocation_member allocation_plain r.allocations.items, listed_plain mapping_member (λ _. texts_plain _) r.mappings.entries) refl
