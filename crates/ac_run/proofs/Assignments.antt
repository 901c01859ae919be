-- Lists of one provider for each slot: those of a page, and those that ids name.
use Rattle.std.proofs.Common.{◌≡◌, ℕ, suc, ◌<◌, Bool, true, List, [], ◌∷◌, length, Option, Some, None, refl, ap, subst}
use Rattle.std.specs.Option.{option_map, option_and_then}
use Rattle.std.specs.List.{All, AllByRecursion as Each, filter}
use Rattle.std.proofs.lemmas.List.Elements.{All-from_recursion}
use Rattle.ac_query.specs.Asked.{Asked, slots_of}
use Rattle.ac_report.specs.Pages.{IsAssignment}
use Rattle.ac_rules.proofs.Elements.{each_filter, each_weaker}
use Rattle.ac_rules.proofs.Lists.ListLemmas.{each_all_lists}
use Rattle.ac_rules.specs.Judge.{is_candidate}
use Rattle.ac_rules.specs.Lists.{all_lists}
use Rattle.ac_rules.specs.Pages.{candidates, is_after, rest}
use Rattle.ac_rules.proofs.PlaceLemmas.{found_within}
use Rattle.ac_rules.specs.Located.{places_of}
use Rattle.ac_cloud.specs.World.{Provider, place_of}
use Rattle.ac_search.specs.At.{is_at, rest_at}

kept : (P : List ℕ → Type 0) (test : List ℕ → Bool) (lists : List (List ℕ)) → Each P lists → Each P (filter test lists)
kept P test lists h = each_weaker (λ t. (test t ≡ true) × P t) P (filter test lists) (λ t q. q.1) (each_filter P test lists h)

each_assignment : (all : List Provider) (asked : Asked) (ids : Option (List ℕ)) → Each (IsAssignment all asked) (rest all asked ids)
unfolding rest candidates
each_assignment all asked ids =
    let lists = all_lists (length all) (length (slots_of asked)) in
    kept (IsAssignment all asked) (λ t. is_after all ids t) (filter (λ t. is_candidate all asked t) lists)
    (kept (IsAssignment all asked) (λ t. is_candidate all asked t) lists (each_all_lists (length all) (length (slots_of asked))))

pub assignments : (all : List Provider) (asked : Asked) (ids : Option (List ℕ)) → All (IsAssignment all asked) (rest all asked ids)
assignments all asked ids = All-from_recursion (IsAssignment all asked) _ (each_assignment all asked ids)

-- those at a root, too
pub assignments_at : (all : List Provider) (asked : Asked) (root : Option ℕ) (ids : Option (List ℕ)) → All (IsAssignment all asked) (rest_at all asked root ids)
assignments_at all asked None ids = assignments all asked ids
assignments_at all asked (Some r) ids =
    All-from_recursion (IsAssignment all asked) _
    (kept (IsAssignment all asked) (is_at all asked r) (rest all asked ids) (each_assignment all asked ids))

-- as many places as ids, each a provider's
abbrev AreFound : List Provider → List ℕ → List ℕ → Type 0
AreFound all ids places = (length places ≡ length ids) × Each (λ p. p < length all) places

one_more : (all : List Provider) (id : ℕ) (ids : List ℕ) (found : Option ℕ) (others : Option (List ℕ)) (places : List ℕ) → place_of all id ≡ found
    → Some places ≡ option_and_then (λ place. option_map (λ places. place ∷ places) others) found
    → ((rest : List ℕ) → Some rest ≡ others → AreFound all ids rest) → AreFound all (id ∷ ids) places
one_more all id ids None others places h e f = absurd (cc)
one_more all id ids (Some p) None places h e f = absurd (cc)
one_more all id ids (Some p) (Some rest) [] h e f = absurd (cc)
one_more all id ids (Some p) (Some rest) (q ∷ more) h e f =
    let first : p ≡ q = cc in
    let same : more ≡ rest = cc in
    let behind = f more (ap Some same) in
    (ap suc behind.0, (subst (λ place. place < length all) first (found_within all id p h), behind.1))

pub located : (all : List Provider) (ids places : List ℕ) → Some places ≡ places_of all ids → AreFound all ids places
located all [] [] e = (refl, tt)
located all [] (p ∷ places) e = absurd (cc)
located all (id ∷ ids) places e = one_more all id ids (place_of all id) (places_of all ids) places refl e (λ rest r. located all ids rest r)
