-- What a plain source has left.
use Rattle.std.specs.Prelude.{ℕ, List, Option}
use Rattle.std.specs.List.{filter}
use Rattle.std.specs.Option.{option_map}
use Rattle.ac_query.specs.Asked.{Asked}
use Rattle.ac_query.specs.Shown.Queries.{asked_of}
use Rattle.ac_cloud.specs.World.{Provider}
use Rattle.ac_cloud.specs.Cloud.CloudWorld.{providers_of}
use Rattle.ac_rules.specs.Judge.{is_candidate}
use Rattle.ac_rules.specs.Shown.Lists.{lists_left}
use Rattle.ac_rules.specs.Pages.{is_after}
use Rattle.ac_rules.specs.declared.plain.Plain.{Plain}

-- the ids that it goes on after
abbrev pub after_of : Plain → Option (List ℕ)
after_of p = option_map (λ ids. ids.items) p.after

-- of some lists, the candidates after a list of ids
abbrev pub chosen : List Provider → Asked → Option (List ℕ) → List (List ℕ) → List (List ℕ)
chosen all asked x ts = filter (λ t. is_after all x t) (filter (λ t. is_candidate all asked t) ts)

-- the candidates after them among the lists that are still to come
abbrev pub left_of : Plain → List (List ℕ)
left_of p = chosen (providers_of p.cloud.now) (asked_of p.query.now) (after_of p) (lists_left p.lists)
