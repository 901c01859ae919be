-- private: a parameter as the code holds it.
use Rattle.std.specs.Prelude.{ℕ, List}
use Rattle.std.specs.declared.alloc.Global.{Global}
use Rattle.std.specs.declared.string.String.{String}
use Rattle.std.specs.String.{string_bytes}

abbrev pub parameter_shown : String Global × String Global → List ℕ × List ℕ
parameter_shown p = (string_bytes p.0, string_bytes p.1)
