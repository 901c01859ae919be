use Rattle.std.proofs.Common.{◌≡◌, ◌+◌, ◌<◌, ℕ, List, Some, length, refl, sym, ap, map, drop, get_or, arith}
use Rattle.std.proofs.lemmas.List.{drop_more}
use Rattle.std.specs.Borrow.{Bor}
use Rattle.ac_rules.specs.Lists.{head_of, tail_of}
use Rattle.ac_search_tests.proofs.report.ListsSource.next.Goals as goal

-- the first list that is left, and those behind it
step : (lists : List (Bor (List ℕ))) (at : ℕ) (list : Bor (List ℕ)) → at < length lists
    → (map (λ l. l.now) (drop (at + 1) lists) ≡ tail_of (map (λ l. l.now) (drop at lists))) × (Some (get_or lists at list).now ≡ head_of (map (λ l. l.now) (drop at lists)))
step lists at list within =
    let more = drop_more lists at list within in
    (sym (ap (λ ls. tail_of (map (λ l. l.now) ls)) more), sym (ap (λ ls. head_of (map (λ l. l.now) ls)) more))

pub returns : goal.returns
returns c =
    let within : c.args.self.now.at < length c.args.self.now.lists.now = search arith in
    let next = step c.args.self.now.lists.now c.args.self.now.at _ within in
    ((refl, λ _. tt, (next.0, (λ never. never), tt)), record { head = next.1; stopped = tt; tail = tt })
