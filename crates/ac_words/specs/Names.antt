-- The names of the commands.
use Rattle.std.specs.Prelude.{ℕ, List, [], ◌∷◌, Option, codes, find}
use Rattle.std.specs.Str.{bytes_eq}
use Rattle.ac_words.specs.declared.name.Name.{Name}
use Rattle.ac_words.specs.declared.name.Name.TheVariants as name

-- the name, as it is written
abbrev pub name_text : Name → List ℕ
name_text name.Check = codes "check"
name_text name.Candidates = codes "candidates"
name_text name.Tokens = codes "tokens"
name_text name.List = codes "list"
name_text name.Fill = codes "fill"
name_text name.Verify = codes "verify"
name_text name.Explain = codes "explain"
name_text name.Hosts = codes "hosts"
name_text name.Why = codes "why"
name_text name.Capacity = codes "capacity"
name_text name.Compare = codes "compare"
name_text name.Audit = codes "audit"
name_text name.Query = codes "query"
name_text name.Session = codes "session"

abbrev pub all_names : List Name
all_names =
    name.Check ∷ name.Candidates ∷ name.Tokens ∷ name.List ∷ name.Fill ∷ name.Verify ∷ name.Explain ∷ name.Hosts ∷ name.Why ∷ name.Capacity ∷ name.Compare ∷ name.Audit
    ∷ name.Query ∷ name.Session ∷ []

-- the name that is written so, where it is one
unfoldable pub name_read : List ℕ → Option Name
name_read text = find (λ name. bytes_eq text (name_text name)) all_names
