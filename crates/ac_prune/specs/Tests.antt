-- What the tests of a walk are of.
use mathlib.Core.HLevel.{Π_prop}
use Rattle.std.specs.Prelude.{List}
use Rattle.std.proofs.Props.{props}
use Rattle.std.specs.List.{All}
use Rattle.ac_query.specs.Asked.{Asked}
use Rattle.ac_cloud.specs.World.{Provider}
use Rattle.ac_prune.specs.Ahead.{AreRoots}
use Rattle.ac_prune.specs.Collective.{AreWanted}
use Rattle.ac_prune.specs.Families.{IsFamily}
use Rattle.ac_prune.specs.Trees.{AllMeetInGroves, AreByTree, HasProviders}
use Rattle.ac_prune.specs.declared.lookout.Lookout.{Lookout}
use Rattle.ac_prune.specs.declared.lookout.Test.{Test}
use Rattle.ac_prune.specs.declared.lookout.Test.TheVariants.{Ahead, Trees, Wide, Hosts, Collective, Family}

-- a test is of some providers and a query
abbrev pub IsTest : List Provider → Asked → Test → Type 0
IsTest all asked (Ahead ahead) = HasProviders all ahead
IsTest all asked (Trees trees) = AreByTree all asked trees.groves.items trees.slots.items
IsTest all asked (Wide wide) = AllMeetInGroves all asked wide
IsTest all asked (Hosts hosts) = AreRoots all asked hosts.may.items
IsTest all asked (Collective collective) = AreWanted all asked collective
IsTest all asked (Family family) = IsFamily all asked family

pub IsTest-prop : (all : List Provider) (asked : Asked) (test : Test) → IsProp (IsTest all asked test)
IsTest-prop all asked (Ahead ahead) = Prim.hlevel props
IsTest-prop all asked (Trees trees) = Prim.hlevel props
IsTest-prop all asked (Wide wide) = Prim.hlevel props
IsTest-prop all asked (Hosts hosts) = Prim.hlevel props
IsTest-prop all asked (Collective collective) = Π_prop λ i. Π_prop λ d. Π_prop λ _. Prim.hlevel props
IsTest-prop all asked (Family family) = Prim.hlevel props

-- so are all
abbrev pub AreTests : List Provider → Asked → Lookout → Type 0
AreTests all asked lookout = All (IsTest all asked) lookout.tests.items

pub AreTests-prop : (all : List Provider) (asked : Asked) (lookout : Lookout) → IsProp (AreTests all asked lookout)
AreTests-prop all asked lookout = Π_prop λ i. Π_prop λ d. Π_prop λ _. IsTest-prop all asked _
