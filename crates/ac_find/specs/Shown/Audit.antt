-- What is found amiss, as the structs of it show.
use Rattle.std.specs.Prelude.{◌≡◌, ◌<◌, ℕ, Bool, false, List, Option, None, Some, codes, length, get_or, map, not, string_bytes, option_map, IfSome}
use Rattle.std.specs.Borrow.{Bor}
use Rattle.std.specs.BTreeMap.{BTreeMap, get_by}
use Rattle.std.specs.Cmp.Lexicographic.{slice_cmp}
use Rattle.std.specs.Ordering.{nat_cmp}
use Rattle.std.specs.Option.{unwrap_or}
use Rattle.ac_cloud.specs.Cloud.CloudWorld.{providers_of, root_lists_of}
use Rattle.ac_cloud.specs.declared.cloud.Cloud.{Cloud}
use Rattle.ac_cloud.specs.Providers.{provider_of}
use Rattle.ac_cloud.specs.World.{Provider}
use Rattle.ac_find.specs.Audit.{Finding, count_named, hosts_in, is_bare, somebody_in_tree}
use Rattle.ac_find.specs.Explained.{has_inventory}
use Rattle.ac_find.specs.Missing.{somebody_there_has_class}
use Rattle.ac_find.specs.declared.audit.Audit as rust_audit
use Rattle.ac_find.specs.declared.audit.Finding as rust
use Rattle.ac_find.specs.declared.audit.sharing.Zone as rust_zone
use Rattle.ac_find.specs.declared.audit.trees.TreeMarks as rust_marks

abbrev pub finding_shown : rust.Finding → Finding
finding_shown f = record { kind = f.kind; provider = option_map provider_of f.provider; detail = string_bytes f.detail }

-- how often a name was counted
abbrev pub count_in : BTreeMap (Bor (List ℕ)) ℕ → List ℕ → ℕ
count_in counts name = unwrap_or (get_by (λ k. slice_cmp nat_cmp name k.now) counts) 0

-- a provider has an inventory of a class, or of some class where none is named
abbrev pub has_one : Option (List ℕ) → Provider → Bool
has_one None p = not (is_bare p)
has_one (Some class) p = has_inventory p class

-- a mark for each root: some provider of its tree has one
pub record AreTrees (all : List Provider) (class : Option (List ℕ)) (marks : List Bool) : Type 0 where
  pub long : length marks ≡ length all
  pub marked : (r : ℕ) → r < length all → get_or marks r false ≡ somebody_in_tree all (has_one class) r

-- a mark for each root: storage is available there
pub record AreStored (all : List Provider) (marks : List Bool) : Type 0 where
  pub long : length marks ≡ length all
  pub marked : (r : ℕ) → r < length all → get_or marks r false ≡ somebody_there_has_class all r (codes "DISK_GB")

-- the marks of trees: whether one has an inventory, whether it has processors, whether storage is available at its root
pub record AreTreeMarks (all : List Provider) (marks : rust_marks.TreeMarks) : Type 0 where
  pub held : AreTrees all None marks.held.items
  pub processors : AreTrees all (Some (codes "VCPU")) marks.processors.items
  pub storage : AreStored all marks.storage.items

-- for each list of roots how many of them are members of an aggregate
pub record IsZone (cloud : Cloud) (zone : rust_zone.Zone) : Type 0 where
  pub hosts : zone.hosts.items ≡ map (λ roots. length (hosts_in (providers_of cloud) zone.id roots)) (root_lists_of cloud)

-- the id of an aggregate, where there is one
abbrev pub zone_id : Option rust_zone.Zone → Option ℕ
zone_id zone = option_map (λ z. z.id) zone

-- what is looked up is what it is of a cloud's providers
pub record IsAudit (audit : rust_audit.Audit) : Type 0 where
  pub zone : IfSome audit.zone (λ zone. IsZone audit.cloud.now zone)
  pub names : (q : List ℕ) → count_in audit.names.counts q ≡ count_named (providers_of audit.cloud.now) q
  pub trees : AreTreeMarks (providers_of audit.cloud.now) audit.trees
