-- What the law says.
use Rattle.std.specs.Prelude.{◌≡◌, ℕ, true, false, ◌||◌, List, ◌∷◌, ◌++◌, None}
use Rattle.std.specs.List.{list_any}
use Rattle.ac_query.specs.declared.version.Version.{Version}
use Rattle.ac_query.specs.Faults.{query_fault}
use Rattle.ac_run.specs.Wanted.Mark.{is_at_end, is_end, is_joint, is_mark, past_mark}

-- Nothing is dropped of a text that is accepted as a query by itself, which has nothing that ends one, and nothing of a text without a mark. Behind a path and a
-- mark such a text is the query, whatever stands behind what ends it.
pub record PathsAlone : Type 0 where
  pub accepted : (version : Version) (text : List ℕ) → query_fault version text ≡ None → past_mark text ≡ text
  pub whole : (version : Version) (text : List ℕ) → query_fault version text ≡ None → list_any is_end text ≡ false
  pub behind : (version : Version) (path text rest : List ℕ) → list_any (λ c. is_mark c || is_joint c) path ≡ false → query_fault version text ≡ None → is_at_end rest ≡ true
      → past_mark (path ++ 63 ∷ (text ++ rest)) ≡ text
  pub unmarked : (text : List ℕ) → list_any is_mark text ≡ false → past_mark text ≡ text
