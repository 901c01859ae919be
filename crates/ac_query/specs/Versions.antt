-- What the versions of the API differ in.
use Rattle.std.specs.Prelude.{Bool, true, false}
use Rattle.ac_query.specs.declared.version.Version.{Version}
use Rattle.ac_query.specs.declared.version.Version.TheVariants as version

-- whether `required` may be a list of traits of which one is asked, and may be given more than once
abbrev pub has_any_of : Version → Bool
has_any_of version.V136 = false
has_any_of version.V139 = true
