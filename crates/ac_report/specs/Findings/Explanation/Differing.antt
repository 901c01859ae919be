-- The lines of an explanation that say where the running service may answer otherwise.
use Rattle.std.specs.Prelude.{ℕ, ◌&&◌, ◌||◌, Bool, true, false, List, [], ◌∷◌, codes}
use Rattle.std.specs.List.{filter, flat_map}
use Rattle.ac_query.specs.Asked.{Asked}
use Rattle.ac_cloud.specs.World.{Provider}
use Rattle.ac_find.specs.Service.Differing.{all_differences, applies}
use Rattle.ac_find.specs.declared.differences.Difference.{Difference}
use Rattle.ac_find.specs.declared.differences.Difference.TheVariants as difference
use Rattle.ac_base.specs.Writing.Pieces.{said}

-- the heading of docs/DIFFERENCES.md that a difference stands under, its first letter small, and without marks of code
unfoldable pub heading : Difference → List ℕ
heading difference.AmountsOfTwoGroups = codes "amounts of two groups are mixed up"
heading difference.SharedDiskForOneTree = codes "a shared disk for only one tree"
heading difference.SharingProviderWithParent = codes "status 500 if the sharing provider has a parent"
heading difference.GroupThatOnlyForbids = codes "a group that only forbids"
heading difference.TreeWithoutResources = codes "the tree of a group without resources"
heading difference.PolicyNeeded = codes "when a policy is needed"
heading difference.ConflictingTraits = codes "a trait that is required and forbidden"
heading difference.IsolateWithoutResources = codes "isolate and groups without resources"
heading difference.TwoMemberOf = codes "two member_of, one met by the provider and one by its root"
heading difference.ForbiddenAggregateOfAnotherTree = codes "a forbidden aggregate of another tree"
heading difference.MemberOfBelowRoot = codes "member_of and a sharing provider below a root"
heading difference.InTreeAndSharing = codes "in_tree and sharing"
heading difference.FloatingPoint = codes "capacities in floating point"
heading difference.TreeOutsideSummaries = codes "summaries of a tree that gives no resources"

-- what the service does otherwise, and what to do about it
unfoldable pub advice : Difference → List ℕ
advice difference.AmountsOfTwoGroups = codes "the service gives wrong amounts and loses candidates; ask with group_policy=none, or for each class in one group"
advice difference.SharedDiskForOneTree = codes "the service looks for the granular groups in one tree alone; ask for what is shared in a granular group, too"
advice difference.SharingProviderWithParent = codes "the service fails with status 500; let the sharing provider be a root"
advice difference.GroupThatOnlyForbids = codes "the service finds no provider for it; require a trait in it, or leave it out"
advice difference.TreeWithoutResources = codes "the service ignores its in_tree; name the tree in a group with resources"
advice difference.PolicyNeeded = codes "the service refuses the query with status 400; add group_policy"
advice difference.ConflictingTraits = codes "the service refuses the query with status 400; leave one of them out"
advice difference.IsolateWithoutResources = codes "the service wants a provider of its own for each group; ask with group_policy=none"
advice difference.TwoMemberOf = codes "the service wants one of them to meet both; add the provider to both aggregates"
advice difference.ForbiddenAggregateOfAnotherTree = codes "the service looks at the root of the tree that uses the provider; forbid it in a granular group"
advice difference.MemberOfBelowRoot = codes "the service wants the sharing provider itself in the aggregate; add it there"
advice difference.InTreeAndSharing = codes "the service lets the provider serve only its own tree; name the tree in a granular group"
advice difference.FloatingPoint = codes "the service computes another capacity; choose a ratio in quarters, as 8.25"
advice difference.TreeOutsideSummaries = codes "the service leaves that tree out of provider_summaries; look it up in /resource_providers"

unfoldable pub differs_line : Difference → List ℕ
differs_line d = said (codes "differs: " ∷ heading d ∷ codes ": " ∷ advice d ∷ codes " (docs/DIFFERENCES.md)\n" ∷ [])

-- It adds candidates, or the service refuses the query or fails: so it shows where there is no candidate by the rules, too. All others take away.
abbrev pub adds : Difference → Bool
adds difference.AmountsOfTwoGroups = false
adds difference.SharedDiskForOneTree = false
adds difference.SharingProviderWithParent = true
adds difference.GroupThatOnlyForbids = false
adds difference.TreeWithoutResources = true
adds difference.PolicyNeeded = true
adds difference.ConflictingTraits = true
adds difference.IsolateWithoutResources = false
adds difference.TwoMemberOf = false
adds difference.ForbiddenAggregateOfAnotherTree = false
adds difference.MemberOfBelowRoot = false
adds difference.InTreeAndSharing = false
adds difference.FloatingPoint = false
adds difference.TreeOutsideSummaries = false

-- it may concern the query, by whether this has a candidate
abbrev pub may_show : List Provider → Asked → Bool → Difference → Bool
may_show all asked found d = (found || adds d) && applies all asked d

-- a line for each difference that may show, in the order of the page
abbrev pub differs_lines : List Provider → Asked → Bool → List ℕ
differs_lines all asked found = flat_map differs_line (filter (may_show all asked found) all_differences)
