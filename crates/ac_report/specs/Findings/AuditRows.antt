-- The text of `audit`: a header, and a row for each thing that is amiss.
use Rattle.std.specs.Prelude.{ℕ, ◌==◌, List, [], ◌∷◌, codes, length, map, Option, Some, None, if◌then◌else◌}
use Rattle.std.specs.List.{flat_map}
use Rattle.csv.specs.Writing.{default_writer, row_text}
use Rattle.ac_base.specs.Texts.{id_text}
use Rattle.ac_cloud.specs.World.{Provider}
use Rattle.ac_find.specs.Audit.{Finding}
use Rattle.ac_find.specs.declared.audit.Kind.{Kind}
use Rattle.ac_find.specs.declared.audit.Kind.TheVariants as kind
use Rattle.ac_report.specs.Names.{shown_name}

abbrev pub kind_name : Kind → List ℕ
kind_name kind.OverCapacity = codes "over capacity"
kind_name kind.NeverFits = codes "never fits"
kind_name kind.SharesWithNobody = codes "shares with nobody"
kind_name kind.SharesNothing = codes "shares nothing"
kind_name kind.NoInventory = codes "no inventory"
kind_name kind.NoStorage = codes "no storage"
kind_name kind.OutsideZone = codes "outside its hosts' aggregates"
kind_name kind.NameTwice = codes "name twice"
kind_name kind.NoUsage = codes "no usage"
kind_name kind.Disabled = codes "disabled"

abbrev pub audit_columns : List (List ℕ)
audit_columns = codes "kind" ∷ codes "provider" ∷ codes "name" ∷ codes "detail" ∷ []

-- the provider by its UUID and its name, where it is of one
abbrev pub provider_id : Option Provider → List ℕ
provider_id None = []
provider_id (Some p) = id_text p.id

abbrev pub provider_name : Option Provider → List ℕ
provider_name None = []
provider_name (Some p) = shown_name p.name

abbrev pub finding_row : Finding → List (List ℕ)
finding_row f = kind_name f.kind ∷ provider_id f.provider ∷ provider_name f.provider ∷ f.detail ∷ []

unfoldable pub audit_text : List Finding → List ℕ
audit_text found = flat_map (row_text default_writer) (audit_columns ∷ map finding_row found)

-- 0 where nothing is amiss, else 1
abbrev pub audit_status : List Finding → ℕ
audit_status found = if length found == 0 then 0 else 1
