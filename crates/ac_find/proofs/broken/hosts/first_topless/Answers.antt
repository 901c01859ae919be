use Rattle.std.proofs.Common.{◌∙◌, ◌≡◌, ℕ, List, [], ap, arith, get_or, length, rules, sym, tests}
use Rattle.std.specs.Prelude.{find, not}
use Rattle.std.specs.List.{list_any, range_with_len}
use Rattle.std.specs.Option.{option_map}
use Rattle.std.proofs.lemmas.Iterator.{YieldsList-from_range}
use Rattle.std.proofs.lemmas.Iterator.Adapters.{option_map_id}
use Rattle.std.proofs.lemmas.Iterator.Search.{find_from_yields_List}
use Rattle.ac_cloud.specs.Cloud.CloudWorld.{providers_of}
use Rattle.ac_query.specs.Shown.Queries.{asked_of}
use Rattle.ac_rules.specs.Shown.Assignments.{assigned_of}
use Rattle.ac_rules.specs.Together.{is_top, listed}
use Rattle.ac_find.proofs.Places.{found_at}
use Rattle.ac_find.proofs.broken.hosts.first_topless.Goals as goal

pub returns-clause-first : goal.returns-clause-first
returns-clause-first c =
    let a = c.args.assignment.now in
    let lists = (asked_of a.query.now).subtrees in
    let test = λ (names : List (List ℕ)). not (list_any (λ top. is_top (providers_of a.cloud.now) (listed names (assigned_of a)) top) (listed names (assigned_of a))) in
    let first : c.find.result ≡ find (λ k. test (get_or lists k [])) (range_with_len 0 (length lists)) =
    sym (option_map_id c.find.result)
    ∙ find_from_yields_List (λ k. test (get_or lists k [])) _ _ c.find.result c.find.ensures.ran
    (YieldsList-from_range 0 (length lists) (length lists) (search rules) (omega arith)) (λ x b q k. search (rules, tests)) in
    ap (option_map (λ k. get_or lists k [])) first ∙ found_at test lists []
