-- Whether there is a candidate, by the first list that a source gives.
use Rattle.std.proofs.Common.{Bor, ◌≡◌, ◌∙◌, ℕ, List, [], ◌∷◌, Option, Some, None, refl, ap}
use Rattle.std.specs.Prelude.{not}
use Rattle.std.specs.Option.{is_some, option_copied}
use Rattle.ac_query.specs.Asked.{Asked}
use Rattle.ac_rules.proofs.Elements.{each_all, filter_all}
use Rattle.ac_rules.specs.Lists.{head_of}
use Rattle.ac_rules.specs.Pages.{candidates, is_after, rest}
use Rattle.ac_rules.specs.Together.{is_empty}
use Rattle.ac_cloud.specs.World.{Provider}
use Rattle.ac_report.specs.Findings.Explanation.Candidates.{has_candidate}

-- without a token all candidates are left
rest_of_all : (all : List Provider) (asked : Asked) → rest all asked None ≡ candidates all asked
unfolding rest
rest_of_all all asked = filter_all (λ t. is_after all None t) (candidates all asked) (each_all _ (candidates all asked) (λ t. refl))

some_first : (lists : List (List ℕ)) → is_some (head_of lists) ≡ not (is_empty lists)
some_first [] = refl
some_first (x ∷ lists) = refl

copied_some : (found : Option (Bor (List ℕ))) → is_some found ≡ is_some (option_copied found)
copied_some None = refl
copied_some (Some x) = refl

pub first_found : (all : List Provider) (asked : Asked) (found : Option (Bor (List ℕ))) → option_copied found ≡ head_of (rest all asked None) → is_some found ≡ has_candidate all asked
first_found all asked found is = copied_some found ∙ (ap is_some is ∙ (ap (λ lists. is_some (head_of lists)) (rest_of_all all asked) ∙ some_first (candidates all asked)))
