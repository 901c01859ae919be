use Rattle.std.proofs.Common.{◌∙◌, ℕ, sym, ◌==◌, is_eq, nat_cmp}
use Rattle.std.proofs.lemmas.Cmp.{nat_cmp_total}
use Rattle.std.proofs.lemmas.List.{map-id}
use Rattle.ac_base.proofs.Sorted.SearchFacts.{found, found_any, any_same, is_eq_nat}
use Rattle.ac_query.proofs.group.accessors.is_among.Goals as goal

pub returns : goal.returns
returns c =
    let id = c.args.id in
    let place = found (λ (x : ℕ). x) nat_cmp_total c.args.ids.now id c.binary_search.result (rw (sym (map-id c.args.ids.now)) at c.requires) c.binary_search.ensures.bound c.binary_search.ensures.position in
    c.is_ok.ensures.value ∙ found_any (λ (x : ℕ). x) nat_cmp_total c.args.ids.now id c.binary_search.result place
    ∙ any_same (λ (a : ℕ). is_eq (nat_cmp id a)) (λ (a : ℕ). a == id) (λ (a : ℕ). is_eq_nat id a) c.args.ids.now
